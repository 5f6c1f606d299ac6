-- A basis value or slope by index, and +0.0 where there is no such index or the grid is too fine. Definitions only.
use Rattle.std.specs.Prelude.{ℕ, ◌+◌, cond, leb, ltb, Float}
use Rattle.floats.specs.Binary32.{zero32}
use Rattle.spline.specs.declared.Grid.{Grid}

abbrev pub grid_of : ℕ → Float → Float → Grid
grid_of n lo hi = record { intervals = n; lo = lo; hi = hi }

unfoldable pub or_zero : ℕ → ℕ → Float → Float
or_zero n i v = cond (leb n 250000) (cond (ltb i (n + 3)) v zero32) zero32
