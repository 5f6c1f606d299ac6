-- `apply`: refused by 8 and before, or answered by what comes behind. Assumes nothing.
use Rattle.std.specs.Prelude.{Err}
use mathlib.Core.Path.{◌≡◌, ap, ◌∙◌}
use mathlib.Core.List.{List}
use Prim.Native.Nat.{ℕ}
use lib.ListN.{length}
use lib.Ieee.{Float}
use Rattle.refusals.specs.declared.Refusal.{Refusal}
use Rattle.refusals.specs.Refusals.{past, Outcome, outcome_of}
use Rattle.spline.specs.declared.Grid.{Grid}
use Rattle.config.specs.Config.{sizes_of, parameters_for}
use Rattle.config.proofs.Answers.{Rejected}
use Rattle.admission.specs.Admission.{up_to8}
use Rattle.admission.proofs.Passed.{past8}
use Rattle.update.specs.Update.{moved_of}
use Rattle.split_training.specs.Applying.{from10_to23, apply_fault, Applied}
use Rattle.split_training.specs.Stages.{ApplyDone}
use Rattle.split_training.proofs.Answers.{stays, untouched}

module _ (ws : List ℕ) (g : Grid) (ps gs : List Float) (rate : Float) where
  abbrev to8 : ℕ
  to8 = up_to8 ws g (length ps)

  abbrev P : ℕ
  P = parameters_for ws g

  pub not_begun : {r : Refusal} → Rejected to8 (sizes_of ws g) r → Applied ws g ps gs rate (Err r) ps
  unfolding apply_fault
  not_begun y = record {
    answer = y.outcome ∙ stays to8 _ _ ps ps y.stopped;
    model = untouched to8 _ 0 _ ps y.stopped;
  }

  -- the model is P numbers long, and then the rest of the call answers
  pub begun : to8 ≡ 0 → {r : Outcome} {ps' : List Float} → ApplyDone ps gs rate r ps' → Applied ws g ps gs rate r ps'
  unfolding apply_fault
  begun passed d =
      let long = (past8 ws g (length ps) passed).model in
      let number = ap (λ (k : ℕ). from10_to23 k ps gs rate) long in
      record {
        answer = rw passed (d.answer ∙ ap (λ (n : ℕ). outcome_of n 0) number);
        model = rw passed (d.model ∙ ap (λ (n : ℕ). past n (moved_of ps gs rate) ps) number);
      }
