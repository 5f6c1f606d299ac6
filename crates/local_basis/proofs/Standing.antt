-- Where the search for an input has led, four values, or four slopes, stand for all. Assumes nothing.
use mathlib.Core.Path.{◌≡◌}
use Prim.Native.Nat.{ℕ, ◌+◌, ◌-◌, ◌≤◌, ◌<◌}
use native.Mathlib.Omega.{arith}
use mathlib.Core.Bool.{true}
use lib.Ieee.{Float}
use Rattle.spline.specs.declared.Grid.{Grid}
use Rattle.local_basis.specs.declared.triangle.Squares.{Squares}
use Rattle.local_basis.specs.Meshes.{calm_of, Located}
use Rattle.local_basis.specs.Fours.{SquaresAt, cubes_of, rises_of, Values, Slopes, no_four, placed_of}
use Rattle.local_basis.proofs.Knots.{some_interval}
use Rattle.local_basis.proofs.Found.{yes, held_in}
use Rattle.local_basis.proofs.Valued.{values_out, values_placed}
use Rattle.local_basis.proofs.Sloped.{slopes_out, slopes_placed}
use Rattle.local_basis.proofs.Squares.{cubes_at, rises_at}

module _ {g : Grid} {x : Float} {at : ℕ} (few : g.intervals ≤ 250000) (calm : calm_of g ≡ true) (l : Located g x at) where
  -- no interval holds the input
  module _ (h : g.intervals + 5 < at) where
    pub values_none : Values g x no_four
    values_none = values_out g x calm (l.outside (omega arith))

    pub slopes_none : Slopes g x no_four
    slopes_none = slopes_out g x calm (l.outside (omega arith))

  -- one does
  module _ (h : at ≤ g.intervals + 5) where
    pub may_place : {f : ℕ} → f ≡ at - 3
        → (g.intervals ≤ 250000) × (1 ≤ g.intervals) × (at ≤ g.intervals + 5) × (f ≡ at - 3)
    may_place e = (few, some_interval g (yes calm), h, e)

    module _ {s : Squares} (q : SquaresAt g x at s) where
      pub values_some : Values g x (placed_of g.intervals at (cubes_of s x at))
      values_some =
          let held = l.inside h in
          values_placed g x calm (held_in g x calm at held) at held _ (cubes_at q)

      pub slopes_some : Slopes g x (placed_of g.intervals at (rises_of s at))
      slopes_some =
          let held = l.inside h in
          slopes_placed g x calm (held_in g x calm at held) at held _ (rises_at q)
