-- A grid with its width and the test of its span, and the interval of knots that holds an input. No part of the
-- meaning: `width_of` and `knot_of` are. Definitions only.
use Rattle.std.specs.Prelude.{ℕ, ◌+◌, ◌≤◌, ◌≡◌, Bool, true, false, cond, Float}
use Rattle.std.specs.Float.Ieee.{lt, le}
use Rattle.std.specs.Float.Ieee.Scale.{finite}
use Rattle.floats.specs.Binary32.{◌⊖◌, zero32}
use Rattle.spline.specs.declared.Grid.{Grid}
use Rattle.spline.specs.Spline.{width_of, knot_of, outside_of}

-- the width is above zero and the span of the knots is finite: then so is every difference among knots and inputs
unfoldable pub calm_of : Grid → Bool
calm_of g = cond (lt zero32 (width_of g)) (finite (knot_of g (g.intervals + 6) ⊖ knot_of g 0)) false

-- from plain numbers
abbrev pub grid_by : ℕ → Float → Float → Grid
grid_by intervals lo hi = record { intervals = intervals; lo = lo; hi = hi }

-- what a mesh holds beside its grid, which is one that the library accepts
pub record Meshed (g : Grid) (width : Float) (calm : Bool) : Type 0 where
  pub few : g.intervals ≤ 250000
  pub own_width : width ≡ width_of g
  pub own_calm : calm ≡ calm_of g

-- the interval that holds x
pub record Holds (g : Grid) (x : Float) (at : ℕ) : Type 0 where
  pub last : at ≤ g.intervals + 5
  pub from : le (knot_of g at) x ≡ true
  pub to : lt x (knot_of g (at + 1)) ≡ true

-- a knot interval's number, or one past the last for an x that none holds
pub record Located (g : Grid) (x : Float) (at : ℕ) : Type 0 where
  pub inside : at ≤ g.intervals + 5 → Holds g x at
  pub outside : g.intervals + 6 ≤ at → outside_of g x ≡ true
