-- A step from its parts: the gradients gathered in front of the lent slice, then the move. Assumes nothing.
use Rattle.std.specs.Prelude.{Ok, Err}
use mathlib.Core.Path.{◌≡◌, refl, sym, ap, ◌∙◌}
use mathlib.Core.Bool.{true}
use mathlib.Core.List.{List, [], ◌++◌, append-nil}
use Prim.Native.Nat.{ℕ, ◌*◌}
use lib.ListN.{length, take, drop}
use lib.Seq.{take_at, drop_at}
use lib.Ieee.{Float}
use Rattle.floats.specs.Sums.{zeros}
use Rattle.floats.proofs.Loops.{tab_length}
use Rattle.layers.specs.Net.{Net}
use Rattle.layers.specs.Widths.{input_width, output_width}
use Rattle.batches.specs.Sound.{SoundBatch}
use Rattle.fast_gradients.specs.Adding.{Clean}
use Rattle.fast_gradients.proofs.Clean.{clean_zeros}
use Rattle.refusals.specs.declared.Refusal.{Refusal}
use Rattle.refusals.specs.Refusals.{Outcome}
use Rattle.refusals.proofs.Firsts.{test_passes, not_refused}
use Rattle.passes.specs.Pass.{rows_of}
use Rattle.row_gradients.proofs.Tests.{test_fails}
use Rattle.batch_gradients.specs.Accumulate.{scale_of, gathered}
use Rattle.batch_gradients.specs.Calls.{RowsTaken}
use Rattle.update.specs.Calls.{MovedOrLeft}
use Rattle.training_step.specs.Step.{gradient_of, step_fault, stepped}
use Rattle.training_step.specs.Stages.{GatherDone, StepDone}

-- the front of a slice, cleared, has only +0.0
lent_zeros : (n : ℕ) (gs gs₁ : List Float) → gs₁ ≡ zeros n ++ drop n gs → take n gs₁ ≡ zeros n
lent_zeros n gs gs₁ c = ap (take n) c ∙ take_at (zeros n) (drop n gs) n (tab_length _ n)

pub lent_clean : (n : ℕ) (gs gs₁ : List Float) → gs₁ ≡ zeros n ++ drop n gs → Clean (length (take n gs₁)) (take n gs₁)
lent_clean n gs gs₁ c =
    let long : length (zeros n) ≡ n = tab_length _ n in
    rw (lent_zeros n gs gs₁ c, long) (rw (append-nil (zeros n)) at (clean_zeros n []))

module _ (N : Net) (ws : List ℕ) (ps xs ts : List Float) where
  -- a sound batch has rows × outputs targets
  targets_count : SoundBatch (input_width ws) (output_width ws) xs ts → length ts ≡ rows_of ws xs * output_width ws
  targets_count b = b.whole_targets ∙ ap (λ (n : ℕ). n * output_width ws) (sym b.same_rows)

  -- the slice cleared in front, the gradients put there
  pub gather_done : (gs W gs₁ ys W' : List Float) (r : Outcome) (scale : Float) → scale ≡ scale_of (length ts)
      → SoundBatch (input_width ws) (output_width ws) xs ts → gs₁ ≡ zeros (length ps) ++ drop (length ps) gs
      → length ys ≡ length (take (length ps) gs₁)
      → RowsTaken N ps ws xs ts scale true (take (length ps) gs₁) W ys W' r
      → GatherDone N ws ps xs ts gs W r (ys ++ drop (length ps) gs₁) W'
  unfolding gradient_of
  gather_done gs W gs₁ ys W' r scale s b c l a =
      let n = length ps in
      let front = lent_zeros n gs gs₁ c in
      let behind : drop n gs₁ ≡ drop n gs = ap (drop n) c ∙ drop_at (zeros n) (drop n gs) n (tab_length _ n) in
      let k : length ys ≡ n = l ∙ ap length front ∙ tab_length _ n in
      record {
        answer = a.answer;
        gradients = λ e.
            take_at ys (drop n gs₁) n k
            ∙ a.added e refl
            ∙ ap (λ (l : List Float). gathered N ps ws xs ts (output_width ws) scale l (rows_of ws xs)) front
            ∙ ap (λ (a : Float). gathered N ps ws xs ts (output_width ws) a (zeros n) (rows_of ws xs))
            (s ∙ ap scale_of (targets_count b));
        rests = record { gradients = drop_at ys (drop n gs₁) n k ∙ behind; work = a.rest };
      }

  -- 20: nothing moves
  pub step_stopped : (rate : Float) {gs W gs' W' : List Float} {e : Refusal} → GatherDone N ws ps xs ts gs W (Err e) gs' W'
      → StepDone N ws ps xs ts rate gs W (Err e) ps gs' W'
  unfolding step_fault
  step_stopped rate g =
      let wrong = test_fails _ 20 0 _ (sym g.answer) in
      record { answer = rw wrong (rw wrong at g.answer); model = rw wrong; rests = g.rests }

  -- the move, or 23
  pub step_moved : (rate : Float) {gs W gs' W' ps' : List Float} {r : Outcome} → GatherDone N ws ps xs ts gs W (Ok tt) gs' W'
      → MovedOrLeft ps (take (length ps) gs') rate ps' r → StepDone N ws ps xs ts rate gs W r ps' gs' W'
  unfolding step_fault stepped
  step_moved rate {gs' = gs'} {ps' = ps'} {r} g a =
      let all = test_passes _ 19 (not_refused _ 0 (sym g.answer)) in
      let m : MovedOrLeft ps (gradient_of N ps ws xs ts) rate ps' r = rw (g.gradients refl) at a in
      record { answer = rw all m.answer; model = rw all m.model; rests = g.rests }
