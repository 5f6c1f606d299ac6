-- What the writer's steps ask and promise: no part of the call's meaning. Definitions only.
use Rattle.std.specs.Prelude.{ℕ, ◌^◌, ◌<◌, ◌≡◌, true, List, length, Float}
use Rattle.floats.specs.Sums.{all_finite}
use Rattle.spline.specs.declared.Grid.{Grid}
use Rattle.layers.specs.Widths.{width_at}
use Rattle.image_layout.specs.Trailer.{image_length}
use Rattle.image_layout.specs.Steps.{TrailerWritable}

-- each number of an image is a word of its own
pub record InWords (ws : List ℕ) (g : Grid) (ps : List Float) : Type 0 where
  pub trailer : TrailerWritable (length ws) (length ps) g
  pub widths : (i : ℕ) → i < length ws → width_at ws i < 2 ^ 32

-- and the lent bytes have exactly the room
pub record Writable (ws : List ℕ) (g : Grid) (ps : List Float) (bs : List ℕ) : Type 0 where
  pub words : InWords ws g ps
  pub sound : all_finite ps ≡ true
  pub room : length bs ≡ image_length (length ws) (length ps)
