-- One step of training on two models that differ in silent coefficients: the same refusal, and where there is none two models that
-- differ as before, each with its own silent coefficients. Assumes nothing.
use Prim.Native.Nat.{ℕ, ◌*◌, ◌<◌}
use mathlib.Core.Path.{◌≡◌, refl, sym, ap, ◌∙◌, subst}
use mathlib.Core.Logic.{inl}
use mathlib.Core.Bool.{true}
use mathlib.Core.List.{List}
use lib.Dec.{T}
use lib.ListN.{length}
use lib.Ieee.{Float}
use lib.Ieee.Positive.{positive}
use Rattle.floats.specs.Binary32.{zero32}
use Rattle.floats.specs.Sums.{at, zeros, all_to, all_finite}
use Rattle.floats.proofs.Loops.{tab_length}
use Rattle.layers.specs.Net.{Net}
use Rattle.layers.specs.Widths.{input_width, output_width}
use Rattle.refusals.specs.Refusals.{◌otherwise◌, ◌then◌}
use Rattle.refusals.proofs.Firsts.{both_pass, test_passes}
use Rattle.passes.specs.Pass.{rows_of, finite_row}
use Rattle.batch_gradients.specs.Calls.{Full}
use Rattle.batch_gradients.specs.Accumulate.{scale_of}
use Rattle.update.specs.Update.{moved_of}
use Rattle.training_step.specs.Step.{gradient_of, step_fault, stepped}
use Rattle.demands.specs.Silent.{Places}
use Rattle.demands.specs.Readings.{StepReads}
use Rattle.demands.specs.Alike.{LeftAlike}
use Rattle.demands.proofs.Tests.{past_test}
use Rattle.demands.proofs.Places.{Siblings}
use Rattle.demands.proofs.Cells.{table_at}
use Rattle.demands.proofs.Moves.{moves_same, moved_left, moved_differ}
use Rattle.demands.proofs.Gathered.{Still, passes_same, gathered_same, gathered_still}

module _ {N : Net} {ws : List ℕ} {D : Places} {ps qs : List Float} (two : Siblings N ws D ps qs) (xs ts : List Float)
    (full : Full (input_width ws) xs (rows_of ws xs)) (rate : Float) (rates : T (positive rate)) (reads : StepReads N ws D ps xs) where
  -- ---- the gradients, where every row passes
  module _ (passed : all_to (finite_row N ps ws xs) (rows_of ws xs) ≡ true) where
    abbrev scale : Float
    scale = scale_of (rows_of ws xs * output_width ws)

    gradients_same : gradient_of N ps ws xs ts ≡ gradient_of N qs ws xs ts
    unfolding gradient_of
    gradients_same = rw (← two.differ.size) (gathered_same two xs ts full reads passed (output_width ws) scale (zeros (length ps)))

    gradient_dead : (p : ℕ) → D p ≡ true → Still (at (gradient_of N ps ws xs ts) p)
    unfolding gradient_of
    gradient_dead p d =
        let inside = two.differ.within p d in
        gathered_still two xs ts full reads passed (output_width ws) scale (zeros (length ps)) p d
        (subst (λ (n : ℕ). p < n) (sym (tab_length (λ (i : ℕ). zero32) (length ps))) inside)
        (inl (table_at (λ (i : ℕ). zero32) (length ps) p inside))

  -- ---- the step
  pub step_fault_same : step_fault N ps ws xs ts rate ≡ step_fault N qs ws xs ts rate
  unfolding step_fault stepped
  step_fault_same =
      rw (← passes_same two xs ts full reads) (past_test (all_to (finite_row N ps ws xs) (rows_of ws xs))
      (λ b moves. b otherwise 20 then moves otherwise 23) refl (λ passed.
      moves_same two.differ (gradient_of N ps ws xs ts) rate rates (gradient_dead passed)
      ∙ ap (λ (gs : List Float). all_finite (moved_of qs gs rate)) (gradients_same passed)))

  -- where it is not refused
  module _ (taken : step_fault N ps ws xs ts rate ≡ 0) where
    unrefused : (all_to (finite_row N ps ws xs) (rows_of ws xs) ≡ true) × (all_finite (stepped N ps ws xs ts rate) ≡ true)
    unfolding step_fault
    unrefused =
        let both = both_pass (all_to (finite_row N ps ws xs) (rows_of ws xs) otherwise 20) _ taken in
        (test_passes _ 19 both.0, test_passes _ 22 both.1)

    second : stepped N qs ws xs ts rate ≡ moved_of qs (gradient_of N ps ws xs ts) rate
    unfolding stepped
    second = ap (λ (gs : List Float). moved_of qs gs rate) (sym (gradients_same unrefused.0))

    dead : (p : ℕ) → D p ≡ true → Still (at (gradient_of N ps ws xs ts) p)
    dead = gradient_dead unrefused.0

    pub step_left : LeftAlike D ps qs (stepped N ps ws xs ts rate) (stepped N qs ws xs ts rate)
    unfolding stepped
    step_left = rw second (moved_left two.differ (gradient_of N ps ws xs ts) rate rates dead unrefused.1)

    pub step_siblings : Siblings N ws D (stepped N ps ws xs ts rate) (stepped N qs ws xs ts rate)
    unfolding stepped
    step_siblings =
        record {
          begins = two.begins;
          edge = two.edge;
          differ = rw second (moved_differ two.differ (gradient_of N ps ws xs ts) rate rates dead unrefused.1);
        }
