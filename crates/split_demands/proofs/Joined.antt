-- R17.5: a step is two calls, and parts accumulated in order are one batch. Assumes nothing.
use Prim.Native.Nat.{ℕ, zero, suc, ◌*◌, ◌<◌}
use native.Mathlib.Nat.{zero-mul}
use native.Mathlib.Omega.{arith}
use mathlib.Core.Path.{◌≡◌, sym, ap, ◌∙◌}
use mathlib.Core.Bool.{true}
use mathlib.Core.List.{List, ◌∷◌}
use lib.ListN.{length}
use lib.Ieee.{Float}
use Rattle.floats.specs.Sums.{zeros, all_to}
use Rattle.floats.proofs.Loops.{all_of}
use Rattle.refusals.specs.Refusals.{first_to, Outcome}
use Rattle.spline.specs.declared.Grid.{Grid}
use Rattle.layers.specs.Net.{Net}
use Rattle.layers.specs.Widths.{input_width, output_width}
use Rattle.passes.specs.Pass.{from11_to18, rows_of, finite_row}
use Rattle.config.specs.Config.{parameters_for}
use Rattle.config.specs.Sized.{Sized}
use Rattle.admission.specs.Admission.{up_to8, up_to9_in_training}
use Rattle.admission.proofs.Passed.{past9_for_nodes}
use Rattle.training_step.specs.Step.{gradient_of, stepped, step_fault}
use Rattle.training.specs.Train.{from11_to19, model_after, up_to19, train_fault, Stepped}
use Rattle.split_training.specs.Accumulating.{total_fault}
use Rattle.split_training.specs.Applying.{apply_fault, Applied}
use Rattle.split_training.proofs.Adding.{total_few}
use Rattle.split_demands.specs.Chains.{Part, Chain}
use Rattle.split_demands.specs.Joined.{joined_inputs, joined_targets, AllDone, Stating, InTwoCalls}
use Rattle.split_demands.proofs.Rows.{rows_counted, whole_passes}
use Rattle.split_demands.proofs.Taken.{Taken, gathered_length, input_some, output_some, past_8, total_some}
use Rattle.split_demands.proofs.Stepping.{apply_fault_lem, step_model, step_answer, step_left}
use Rattle.split_demands.proofs.Parts.{Gone, gone_all, gone_begun, first_told}

some_rows : (k v : ℕ) → 0 < k * v → 0 < k
some_rows zero v h = absurd (omega (arith, zero-mul v))
some_rows (suc k) v h = omega arith

module _ (N : Net) (ws : List ℕ) (g : Grid) (ps : List Float) where
  -- ---- the joined batch
  module _ (first : Part) (parts : List Part) (rs : List Outcome) (gs' : List Float)
      (chain : Chain N ws g ps (first ∷ parts) (zeros (length ps)) rs gs') (done : AllDone rs)
      (stating : Stating (length (joined_targets (first ∷ parts))) (first ∷ parts)) where
    abbrev xs : List Float
    xs = joined_inputs (first ∷ parts)

    abbrev ts : List Float
    ts = joined_targets (first ∷ parts)

    gone : (k : ℕ) × Gone N ws g ps (length ts) k xs ts (zeros (length ps)) gs'
    gone = gone_all N ws g ps (length ts) (first ∷ parts) rs (zeros (length ps)) gs' chain done stating

    begun : Taken N ws g ps first.inputs first.targets first.total (zeros (length ps)) first.work
    begun = gone_begun N ws g ps first parts rs (zeros (length ps)) gs' chain done

    size : Sized ws g
    size = (past9_for_nodes ws g (length ps) (length first.work) begun.to9).size

    stated : total_fault (length ts) ≡ 0
    stated = ap total_fault (sym (first_told (length ts) first parts stating)) ∙ begun.stated

    rows : rows_of ws xs ≡ gone.0
    rows = rows_counted (input_width ws) gone.0 (length xs) (input_some size) gone.1.whole.inputs

    gathered_joined : gs' ≡ gradient_of N ps ws xs ts
    unfolding gradient_of
    gathered_joined = rw (rows, ← gone.1.whole.targets) gone.1.left

    to18 : from11_to18 ps ws xs ts ≡ 0
    unfolding from11_to18
    to18 =
        rw begun.finite (whole_passes (input_width ws) (output_width ws) gone.0 xs ts (input_some size) (output_some size)
        (some_rows gone.0 (output_width ws) (rw gone.1.whole.targets at (total_some (length ts) stated)))
        (total_few (length ts) stated) gone.1.whole)

    all_finite_lem : all_to (finite_row N ps ws xs) (rows_of ws xs) ≡ true
    all_finite_lem = rw rows (all_of (finite_row N ps ws xs) gone.0 gone.1.finite)

    -- so the step's checks up to 18 and 20 pass: 19, 23 and the model moved are the same of both
    module _ (rate : Float) (gs U : List Float) (to9 : up_to9_in_training ws g (length ps) (length gs) (length U) ≡ 0) where
      to8 : up_to8 ws g (length ps) ≡ 0
      to8 = past_8 ws g (length ps) (length first.work) begun.to9

      long : length gs' ≡ parameters_for ws g
      unfolding gradient_of
      long = ap length gathered_joined ∙ gathered_length N ps ws xs ts _ _ _ _ ∙ begun.long

      joined_fault : train_fault N ws g ps xs ts rate gs U 1 ≡ apply_fault ws g ps gs' rate
      unfolding train_fault up_to19 from11_to19 step_fault stepped first_to model_after
      joined_fault = rw (to9, to18, all_finite_lem, ← gathered_joined) (sym (apply_fault_lem ws g ps gs' rate to8 long begun.finite))

      module _ {a s : Outcome} {ps' ps'' gs'' U'' : List Float} (applied : Applied ws g ps gs' rate a ps')
          (step : Stepped N ws g ps xs ts rate gs U s ps'' gs'' U'') where
        joined_answer : s ≡ a
        joined_answer = step.answer ∙ rw (joined_fault, to9) (rw to8 at (sym applied.answer))

        joined_model : ps'' ≡ ps'
        unfolding stepped
        joined_model =
            step.leaves.model ∙ step_model N ws g ps xs ts rate gs U
            ∙ rw (joined_fault, ← gathered_joined) (sym applied.model)

  pub in_two_calls : InTwoCalls N ws g ps
  in_two_calls =
      record {
        step = λ xs ts rate W U gs roomy many sound r gs' W' call a ps' applied s ps'' gs'' U'' step. (
          step_answer N ws g ps xs ts rate W U gs roomy many sound call applied step,
          step_left N ws g ps xs ts rate W U gs roomy many sound call applied step,
        );
        gathered = λ first parts rs gs' chain done stating. gathered_joined first parts rs gs' chain done stating;
        joined = λ first parts rs gs' chain done stating rate a ps' applied gs U to9 s ps'' gs'' U'' step. (
          joined_answer first parts rs gs' chain done stating rate gs U to9 applied step,
          joined_model first parts rs gs' chain done stating rate gs U to9 applied step,
        );
      }
