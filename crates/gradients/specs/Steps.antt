-- What the steps of one layer promise and ask; no part of the meaning. Definitions only.
use Rattle.std.specs.Prelude.{ℕ, ◌≤◌, List, ◌++◌, length, drop, Float}
use Rattle.floats.specs.Binary32.{◌⊕◌, ◌⊗◌}
use Rattle.floats.specs.Sums.{tabulate, at}
use Rattle.spline.specs.declared.Grid.{Grid}
use Rattle.layers.specs.Basis.{Basis}
use Rattle.layers.specs.Layer.{dot_of}

-- the first numbers of ds with those of ys added; the rest as it was
abbrev pub plus_at : List Float → List Float → ℕ → Float
plus_at ds ys p = at ds p ⊕ at ys p

unfoldable pub plus_of : List Float → List Float → List Float
plus_of ds ys = tabulate (plus_at ds ys) (length ys) ++ drop (length ys) ds

-- k parameters are there, and as many gradients
pub record Cells (g : Grid) (k : ℕ) (ps gs : List Float) : Type 0 where
  pub grid : g.intervals ≤ 250000
  pub params : k ≤ length ps
  pub gradients : k ≤ length gs

-- what the k-th coefficient receives, where u is what comes from above times the spline weight
abbrev pub weighted : Basis → Float → Float → ℕ → Float
weighted B u x k = u ⊗ B.value k x

-- what an edge hands back to its input, where s is the slope of SiLU there
unfoldable pub back_with : Basis → List Float → Float → Float → Float → Float
back_with B ps x s up = up ⊗ ((at ps 0 ⊗ s) ⊕ (at ps 1 ⊗ dot_of B B.slope (drop 2 ps) x))
