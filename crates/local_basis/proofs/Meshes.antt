-- What a mesh's width and the test of its span are. Assumes nothing.
use mathlib.Core.Path.{◌≡◌, sym, ◌∙◌}
use mathlib.Core.Bool.{Bool, true}
use Prim.Native.Nat.{◌≤◌}
use lib.Ieee.{Float}
use Rattle.spline.specs.declared.Grid.{Grid}
use Rattle.spline.specs.Spline.{width_of}
use Rattle.local_basis.specs.Meshes.{calm_of, Meshed}

-- a mesh that was tested calm is that of a calm grid
pub calm_grid : (g : Grid) (calm : Bool) → calm ≡ calm_of g → calm ≡ true → calm_of g ≡ true
calm_grid g calm p e = sym p ∙ e

-- and is the one that its numbers make
pub by_numbers : (g : Grid) (width : Float) (calm : Bool) → g.intervals ≤ 250000 → width ≡ width_of g
    → calm ≡ calm_of g → calm ≡ true → Meshed g width true
by_numbers g width calm h w p e = record { few = h; own_width = w; own_calm = sym (calm_grid g calm p e) }
