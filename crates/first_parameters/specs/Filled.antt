-- What the steps of initialisation ask and promise. Definitions only.
use Rattle.std.specs.Prelude.{ℕ, ◌+◌, ◌≡◌, List, ◌++◌, length, drop, Float}
use Rattle.generator.specs.declared.SplitMix64.{SplitMix64}
use Rattle.spline.specs.declared.Grid.{Grid}
use Rattle.layers.specs.Widths.{parameters_in}
use Rattle.layer_cursor.specs.Cursor.{Walkable}
use Rattle.first_parameters.specs.Initial.{advanced_by}

-- `part` is written over the first `size` parameters, and r is the generator G after that many draws
pub record Filled (part : List Float) (size draws : ℕ) (G : SplitMix64) (ps ps' : List Float) (r : SplitMix64) : Type 0 where
  pub params : ps' ≡ part ++ drop size ps
  pub next : r ≡ advanced_by draws G

-- the model has a place for each of the P parameters, and no more
pub record Whole (g : Grid) (ws : List ℕ) (ps : List Float) : Type 0 where
  pub walkable : Walkable g ws
  pub params : parameters_in (g.intervals + 5) ws ≡ length ps
