-- R17.3: from the writer to the reader and back, bit for bit (R13.2): what the theorems of this crate say.
-- Definitions only.
use Rattle.std.specs.Prelude.{ℕ, ◌<◌, ◌≡◌, List, T, length, Float, Ok}
use Rattle.std.specs.Float.{binary32}
use Rattle.std.specs.Float.Ieee.{fits}
use Rattle.floats.specs.Sums.{at}
use Rattle.spline.specs.declared.Grid.{Grid}
use Rattle.words.specs.Words.{Bytes}
use Rattle.image_reading.specs.declared.Description.{Description}
use Rattle.image_reading.specs.Image.{describe_fault, description_in, describe_of, widths_of, parameters_of}
use Rattle.image_writing.specs.Writing.{image_of, write_fault}

-- R1.1: numbers that an f32 holds, as each of the machine's is
pub record Held (g : Grid) (ps : List Float) : Type 0 where
  pub lo : T (fits binary32 g.lo)
  pub hi : T (fits binary32 g.hi)
  pub parameters : (i : ℕ) → i < length ps → T (fits binary32 (at ps i))

-- R13.5: what a description says of widths, a grid and parameters
abbrev pub description_for : List ℕ → Grid → List Float → Description
description_for ws g ps = record { grid = g; widths = length ws; parameters = length ps }

-- R17.3: the reader accepts the image of widths, a grid and parameters, and finds them in it
pub record ReadBack (ws : List ℕ) (g : Grid) (ps : List Float) : Type 0 where
  pub description : describe_of (image_of ws g ps) ≡ Ok (description_for ws g ps)
  pub widths : widths_of (image_of ws g ps) (description_for ws g ps) ≡ ws
  pub parameters : parameters_of (image_of ws g ps) (description_for ws g ps) ≡ ps

-- R17.3: the writer accepts what an image describes, in a slice of its length, and writes that image
abbrev pub grid_described : List ℕ → Grid
grid_described bs = (description_in bs).grid

abbrev pub widths_described : List ℕ → List ℕ
widths_described bs = widths_of bs (description_in bs)

abbrev pub parameters_described : List ℕ → List Float
parameters_described bs = parameters_of bs (description_in bs)

pub record WrittenAgain (bs : List ℕ) : Type 0 where
  pub accepted : write_fault (widths_described bs) (grid_described bs) (parameters_described bs) (length bs) ≡ 0
  pub image : image_of (widths_described bs) (grid_described bs) (parameters_described bs) ≡ bs

-- R17.3: both ways
pub record RoundTrip : Type 0 where
  -- wherever the writer accepts, whatever the length that it was lent
  pub read_back : (ws : List ℕ) (g : Grid) (ps : List Float) (n : ℕ) → Held g ps → write_fault ws g ps n ≡ 0
      → ReadBack ws g ps
  -- wherever the reader accepts
  pub written_again : (bs : List ℕ) → Bytes bs → describe_fault bs ≡ 0 → WrittenAgain bs
