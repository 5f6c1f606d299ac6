-- The loss past check 9, and the whole call. Assumes nothing.
use Rattle.std.specs.Prelude.{Err, Ok}
use Rattle.std.specs.declared.result.Result.{Result}
use mathlib.Core.Path.{◌≡◌, sym, ap, ◌∙◌}
use mathlib.Core.Bool.{true}
use mathlib.Core.List.{List, ◌++◌}
use Prim.Native.Nat.{ℕ, ◌*◌}
use lib.ListN.{length, drop}
use lib.Ieee.{Float}
use Rattle.floats.specs.Binary32.{◌⊘◌, whole32}
use Rattle.floats.specs.Sums.{all_finite, zeros}
use Rattle.refusals.specs.declared.Refusal.{Refusal}
use Rattle.spline.specs.declared.Grid.{Grid}
use Rattle.layers.specs.Net.{Net}
use Rattle.layers.specs.Widths.{input_width, output_width}
use Rattle.batches.specs.Batch.{batch_fault}
use Rattle.batches.specs.Sound.{SoundBatch}
use Rattle.passes.specs.Pass.{rows_of, from11_to18}
use Rattle.passes.proofs.Past9.{SoundPast9, swept_end}
use Rattle.config.specs.declared.Sizes.{Sizes}
use Rattle.loss.specs.Loss.{sum_after, rows_loss_fault, mean_error, Lost}
use Rattle.loss.specs.Steps.{RowsSummed, LossPast9}
use Rattle.loss.proofs.Errors.{summed, stops}

-- ---- past check 9
module _ {N : Net} {ps : List Float} {ws : List ℕ} {xs ts a b : List Float} {sum : Result Float Refusal} {a' b' : List Float}
    (finite : all_finite ps ≡ true) (sound : batch_fault (input_width ws) (output_width ws) xs ts ≡ 0)
    (d : RowsSummed N ps ws xs ts a b sum a' b') where
  pub loss_stopped : {e : Refusal} → sum ≡ Err e → LossPast9 N ps ws xs ts a b (Err e) a' b'
  unfolding from11_to18
  loss_stopped {e} p =
      let k = stops _ _ (mean_error N ps ws xs ts) e (sym d.answer ∙ p) in
      record { answer = rw (finite, sound) k; first = d.first; second = d.second }

  pub loss_mean : {z : Float} → sum ≡ Ok z → SoundBatch (input_width ws) (output_width ws) xs ts
      → LossPast9 N ps ws xs ts a b (Ok (z ⊘ whole32 (length ts))) a' b'
  unfolding from11_to18
  loss_mean {z} e s =
      let rows = rows_of ws xs in
      let many : length ts ≡ rows * output_width ws =
      s.whole_targets ∙ ap (λ (k : ℕ). k * output_width ws) (sym s.same_rows) in
      let k = summed (rows_loss_fault N ps ws xs ts) (sum_after N ps ws xs ts rows) z (sym d.answer ∙ e) in
      record { answer = sym (rw (finite, sound, k.0, k.1, many)); first = d.first; second = d.second }

-- ---- the whole call: worked and swept
module _ {N : Net} {ws : List ℕ} {g : Grid} {ps xs ts a b : List Float} where
  pub loss_done : {s : Sizes} {r : Result Float Refusal} (a₁ b₁ : List Float) {a₂ b₂ : List Float}
      → SoundPast9 ws g (length ps) (length a) (length b) s → LossPast9 N ps ws xs ts a b r a₁ b₁
      → a₂ ≡ zeros s.widest ++ drop s.widest a₁ → b₂ ≡ zeros s.widest ++ drop s.widest b₁
      → Lost N ws g ps xs ts a b r a₂ b₂
  loss_done a₁ b₁ k d p q = record {
    answer = rw k.passed d.answer;
    first = swept_end k a a₁ d.first p;
    second = swept_end k b b₁ d.second q;
  }
