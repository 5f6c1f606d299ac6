-- What the steps inside the call promise: no part of its meaning. Definitions only.
use Rattle.std.specs.Prelude.{ℕ, ◌≡◌, List, Float}
use Rattle.refusals.specs.Refusals.{Outcome, outcome_of}
use Rattle.spline.specs.declared.Grid.{Grid}
use Rattle.layers.specs.Net.{Net}
use Rattle.passes.specs.Turns.{Past}
use Rattle.visit_map.specs.Visits.{visit_refusal, visit_carried, visit_marks}

-- the whole call but for the sweep of the work slices: they are as they were past the largest width
pub record Unswept (N : Net) (ws : List ℕ) (g : Grid) (ps xs a b : List Float) (ms : List ℕ) (r : Outcome)
    (a' b' : List Float) (ms' : List ℕ) : Type 0 where
  pub answer : r ≡ outcome_of (visit_refusal N ws g ps xs a b ms) (visit_carried N ws g ps xs a b ms)
  pub map : ms' ≡ visit_marks N ws g ps xs a b ms
  pub first : Past ws a a'
  pub second : Past ws b b'
