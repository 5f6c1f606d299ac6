-- The checks around the rows: 10 and 11 before them, and the whole call. Assumes nothing.
use mathlib.Core.Path.{◌≡◌, sym, ap, ◌∙◌}
use mathlib.Core.Bool.{Bool, true}
use mathlib.Core.List.{List, ◌++◌}
use Prim.Native.Nat.{ℕ, ◌+◌, ◌*◌, ◌≤◌}
use native.Mathlib.Nat.{le_of_eq}
use lib.ListN.{length, drop}
use lib.Ieee.{Float}
use borrow.Author.Tests.{eqb-true}
use Rattle.floats.specs.Sums.{all_finite, zeros}
use Rattle.refusals.specs.Refusals.{Outcome}
use Rattle.spline.specs.declared.Grid.{Grid}
use Rattle.layers.specs.Net.{Net}
use Rattle.layers.specs.Widths.{input_width, output_width, parameters_in}
use Rattle.batches.specs.Batch.{rows_in}
use Rattle.config.specs.declared.Sizes.{Sizes}
use Rattle.passes.proofs.Past9.{SoundPast9, swept_end}
use Rattle.prediction.specs.Predict.{outputs_fit, from10_to11, Predicted}
use Rattle.prediction.specs.Steps.{RowsPredicted}

-- ---- 10 and 11 before the rows
abbrev fit : List ℕ → List Float → List Float → Bool
fit ws xs ys = outputs_fit (input_width ws) (output_width ws) (length xs) (length ys)

abbrev to11 : List Float → List ℕ → List Float → List Float → ℕ
to11 ps ws xs ys = from10_to11 ws ps xs (length ys)

module _ {N : Net} {ps : List Float} {ws : List ℕ} {xs : List Float} {total : ℕ} {a b ys : List Float} where
  pub rows_run : {r : Outcome} {a' b' ys' : List Float} → fit ws xs ys ≡ true → all_finite ps ≡ true
      → RowsPredicted N ps ws xs 0 0 a b ys r a' b' ys'
      → RowsPredicted N ps ws xs (to11 ps ws xs ys) total a b ys r a' b' ys'
  unfolding from10_to11
  rows_run e f d =
      record { answer = rw (e, f) d.answer; outputs = rw (e, f) d.outputs; first = d.first; second = d.second }

pub outputs_room : (w v n m rows : ℕ) → outputs_fit w v n m ≡ true → rows ≡ rows_in n w → rows * v ≤ m
unfolding outputs_fit
outputs_room w v n m rows e p = le_of_eq (ap (λ (k : ℕ). k * v) p ∙ sym (eqb-true m (rows_in n w * v) e))

-- ---- the whole call: worked and swept
module _ {N : Net} {ws : List ℕ} {g : Grid} {ps xs a b ys : List Float} where
  pub predict_done : {s : Sizes} {r : Outcome} (a₁ b₁ : List Float) {a₂ b₂ ys' : List Float}
      → SoundPast9 ws g (length ps) (length a) (length b) s
      → RowsPredicted N ps ws xs (to11 ps ws xs ys) (parameters_in (g.intervals + 5) ws) a b ys r a₁ b₁ ys'
      → a₂ ≡ zeros s.widest ++ drop s.widest a₁ → b₂ ≡ zeros s.widest ++ drop s.widest b₁
      → Predicted N ws g ps xs a b ys r a₂ b₂ ys'
  predict_done a₁ b₁ k d p q = record {
    answer = rw k.passed d.answer;
    outputs = rw k.passed d.outputs;
    first = swept_end k a a₁ d.first p;
    second = swept_end k b b₁ d.second q;
  }
