-- How long a trailer is once it is written. Assumes nothing.
use Prim.Native.Nat.{ℕ}
use mathlib.Core.Path.{◌≡◌}
use lib.ListN.{length}
use Rattle.spline.specs.declared.Grid.{Grid}
use Rattle.words.specs.Words.{packed_words}
use Rattle.words.proofs.Packs.{packed_words_length}
use Rattle.image_layout.specs.Trailer.{trailer_length, trailer_words}

pub trailer_length_lem : (count parameters : ℕ) (g : Grid)
    → length (packed_words (trailer_words count parameters g)) ≡ trailer_length
unfolding trailer_words
trailer_length_lem count parameters g = packed_words_length _
