-- R11.5: initialisation, which adds only 8 to the configuration's checks. The parameters themselves are those of
-- `first_parameters`. Definitions only.
use Rattle.std.specs.Prelude.{ℕ, ◌≡◌, List, length, Float}
use Rattle.refusals.specs.Refusals.{past, Outcome, outcome_of}
use Rattle.spline.specs.declared.Grid.{Grid}
use Rattle.config.specs.Config.{parameters_for, carried_by}
use Rattle.admission.specs.Admission.{up_to8}
use Rattle.first_parameters.specs.Initial.{model_initial}

-- R3.4: the refusal of the configuration or of the model's length
abbrev pub initialise_fault : List ℕ → Grid → List Float → ℕ
initialise_fault ws g ps = up_to8 ws g (length ps)

-- R11.5, R3.6: the whole call
pub record Initialised (ws : List ℕ) (g : Grid) (seed : ℕ) (ps : List Float) (r : Outcome) (ps' : List Float) : Type 0 where
  pub answer : r ≡ outcome_of (initialise_fault ws g ps) (carried_by (initialise_fault ws g ps) (parameters_for ws g))
  pub model : ps' ≡ past (initialise_fault ws g ps) (model_initial ws g.intervals seed) ps
