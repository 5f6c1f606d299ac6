-- What `move_or_leave` promises. Definitions only.
use Rattle.std.specs.Prelude.{ℕ, ◌≡◌, List, Float}
use Rattle.floats.specs.Binary32.{◌⊖◌, ◌⊗◌}
use Rattle.floats.specs.Sums.{at, all_finite}
use Rattle.refusals.specs.Refusals.{◌otherwise◌, past, Outcome, outcome_of}
use Rattle.update.specs.Update.{moved_of}

-- parameter i after the update
abbrev pub moved_at : List Float → List Float → Float → ℕ → Float
moved_at ps gs rate i = at ps i ⊖ (rate ⊗ at gs i)

-- 23 where an updated parameter is not finite, and the model updated or else as it was
pub record MovedOrLeft (ps gs : List Float) (rate : Float) (ps' : List Float) (r : Outcome) : Type 0 where
  pub answer : r ≡ outcome_of (all_finite (moved_of ps gs rate) otherwise 23) 0
  pub model : ps' ≡ past (all_finite (moved_of ps gs rate) otherwise 23) (moved_of ps gs rate) ps
