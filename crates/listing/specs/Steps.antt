-- What the steps of a listing ask: no part of its meaning. Definitions only.
use Rattle.std.specs.Prelude.{ℕ, ◌+◌, ◌*◌, ◌≤◌, ◌<◌, List, T, length}
use Rattle.std.specs.Float.Ieee.Scale.{finite}
use Rattle.spline.specs.declared.Grid.{Grid}
use Rattle.layers.specs.Widths.{width_at, layer_size}
use Rattle.image_reading.specs.declared.Description.{Description}
use Rattle.image_reading.specs.Image.{widths_of}

pub record FiniteEnds (g : Grid) : Type 0 where
  pub lo : T (finite g.lo)
  pub hi : T (finite g.hi)

-- an accepted image, as far as its lines ask
pub record Listable (bs : List ℕ) (d : Description) : Type 0 where
  pub ends : FiniteEnds d.grid
  pub some : 1 ≤ d.widths
  pub room : 4 * d.parameters + 4 * d.widths ≤ length bs
  pub few_parameters : d.parameters ≤ 250000
  pub few_intervals : d.grid.intervals ≤ 250000
  pub inner : (l : ℕ) → l + 1 < d.widths → width_at (widths_of bs d) l * (d.grid.intervals + 5) ≤ 250000
  pub outer : (l : ℕ) → l + 1 < d.widths → layer_size (d.grid.intervals + 5) (widths_of bs d) l ≤ 250000
