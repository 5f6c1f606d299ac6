-- What reading and writing a trailer ask and promise: no part of an image's meaning. Definitions only.
use Rattle.std.specs.Prelude.{ℕ, ◌^◌, ◌≤◌, ◌<◌, ◌≡◌, List, T}
use Rattle.std.specs.Float.Ieee.Scale.{finite}
use Rattle.spline.specs.declared.Grid.{Grid}
use Rattle.image_layout.specs.declared.Trailer.{Trailer}
use Rattle.image_layout.specs.Trailer.{trailer_at}

-- the trailer that was read at a place: its count is a word, so that 4 K does not overflow
pub record TrailerRead (bs : List ℕ) (at : ℕ) (t : Trailer) : Type 0 where
  pub same : t ≡ trailer_at bs at
  pub few : t.count < 2 ^ 32

-- a trailer whose numbers are words, and whose ends have bits of their own
pub record TrailerWritable (count parameters : ℕ) (g : Grid) : Type 0 where
  pub few_widths : count ≤ 250000
  pub few_parameters : parameters ≤ 250000
  pub few_intervals : g.intervals ≤ 250000
  pub lo : T (finite g.lo)
  pub hi : T (finite g.hi)
