-- The four values and the four slopes that are worked out from the squares at hand are the triangle's. Assumes nothing.
use mathlib.Core.Path.{◌≡◌, refl, ap}
use Prim.Native.Nat.{ℕ, ◌-◌}
use lib.Ieee.{Float}
use Rattle.spline.specs.declared.Grid.{Grid}
use Rattle.local_basis.specs.declared.Four.{Four}
use Rattle.local_basis.specs.declared.triangle.Squares.{Squares}
use Rattle.local_basis.specs.Fours.{SquaresAt, CubesAt, RisesAt, cubes_of, rises_of, cube_first, cube_second, cube_third, cube_fourth}

module _ {g : Grid} {x : Float} {a : ℕ} {s : Squares} (q : SquaresAt g x a s) where
  pub cubes_at : CubesAt g x a (cubes_of s x a)
  unfolding cubes_of cube_first cube_second cube_third cube_fourth
  cubes_at =
      record {
        start = refl;
        first = rw (q.low, q.k4, q.k1);
        second = rw (q.low, q.middle, q.k1, q.k4, q.k5, q.k2);
        third = rw (q.middle, q.high, q.k2, q.k5, q.k6, q.k3);
        fourth = rw (q.high, q.k3, q.k6);
      }

  pub rises_at : RisesAt g x a (rises_of s a)
  unfolding rises_of
  rises_at =
      record {
        start = refl;
        first = rw (q.low, q.k4, q.k1);
        second = rw (q.low, q.middle, q.k1, q.k4, q.k5, q.k2);
        third = rw (q.middle, q.high, q.k5, q.k2, q.k6, q.k3);
        fourth = rw (q.high, q.k6, q.k3);
      }

-- at the same index
module _ (s : Squares) (a : ℕ) (r : Four) where
  pub cubes_start : (x : Float) → r ≡ cubes_of s x a → r.start ≡ a - 3
  unfolding cubes_of
  cubes_start x e = ap (λ (f : Four). f.start) e

  pub rises_start : r ≡ rises_of s a → r.start ≡ a - 3
  unfolding rises_of
  rises_start e = ap (λ (f : Four). f.start) e
