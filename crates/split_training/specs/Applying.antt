-- R10.15: `apply`, the second of the two calls that a training step is made of: the model moved by gathered gradients.
-- Definitions only.
use Rattle.std.specs.Prelude.{ℕ, ◌≡◌, List, eqb, length, Float}
use Rattle.floats.specs.Sums.{all_finite}
use Rattle.refusals.specs.Refusals.{Outcome, ◌otherwise◌, ◌then◌, past, outcome_of}
use Rattle.spline.specs.declared.Grid.{Grid}
use Rattle.config.specs.Config.{carried_by, parameters_for}
use Rattle.admission.specs.Admission.{up_to8}
use Rattle.update.specs.Update.{rate_sound, moved_of}

-- R3.4, R10.15: past check 8: 10, the gradients are not as many as the parameters; 11; R10.2: 19; R10.7: 23, an updated
-- parameter not finite
unfoldable pub from10_to23 : ℕ → List Float → List Float → Float → ℕ
from10_to23 parameters ps gs rate =
    eqb (length gs) parameters otherwise 10
    then all_finite ps otherwise 11
    then rate_sound rate otherwise 19
    then all_finite (moved_of ps gs rate) otherwise 23

-- ---- R10.15, R3.4: the whole call: the answer, and the model; the gradients are only read
module _ (ws : List ℕ) (g : Grid) (ps gs : List Float) (rate : Float) where
  abbrev to8 : ℕ
  to8 = up_to8 ws g (length ps)

  unfoldable pub apply_fault : ℕ
  apply_fault = to8 then from10_to23 (parameters_for ws g) ps gs rate

  pub record Applied (r : Outcome) (ps' : List Float) : Type 0 where
    pub answer : r ≡ outcome_of apply_fault (carried_by to8 (parameters_for ws g))
    -- R10.7: every parameter moved, or none
    pub model : ps' ≡ past apply_fault (moved_of ps gs rate) ps
