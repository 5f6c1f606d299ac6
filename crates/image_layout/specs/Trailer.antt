-- R13.2: the trailer of version 1, the last eight words of an image. Definitions only.
use Rattle.std.specs.Prelude.{ℕ, ◌+◌, ◌*◌, List, [], ◌∷◌}
use Rattle.std.specs.Float.{binary32}
use Rattle.std.specs.Float.Ieee.{to_bits}
use Rattle.spline.specs.declared.Grid.{Grid}
use Rattle.words.specs.Words.{word_at, float_at}
use Rattle.image_layout.specs.declared.Trailer.{Trailer}

-- R13.2: lengths in bytes: of the trailer alone, of the widths and it, and of all, 32 + 4K + 4P
abbrev pub trailer_length : ℕ
trailer_length = 32

abbrev pub widths_distance : ℕ → ℕ
widths_distance count = trailer_length + 4 * count

abbrev pub image_length : ℕ → ℕ → ℕ
image_length count parameters = widths_distance count + 4 * parameters

-- R13.2, R13.3: the trailer that begins at a place, as it is read
unfoldable pub trailer_at : List ℕ → ℕ → Trailer
trailer_at bs at = record {
  parameters = word_at bs at;
  widths = word_at bs (at + 4);
  count = word_at bs (at + 8);
  grid = record { intervals = word_at bs (at + 12); lo = float_at bs (at + 16); hi = float_at bs (at + 20) };
  degree = word_at bs (at + 24);
  version = word_at bs (at + 28);
}

-- R13.2: the words of the trailer of K widths, P parameters and a grid, as they are written
unfoldable pub trailer_words : ℕ → ℕ → Grid → List ℕ
trailer_words count parameters g =
    image_length count parameters ∷ widths_distance count ∷ count ∷ g.intervals ∷ to_bits binary32 g.lo
    ∷ to_bits binary32 g.hi ∷ 3 ∷ 1 ∷ []
