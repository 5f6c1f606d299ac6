-- The answers to the longest images, of the definitions. Assumes nothing.
use Prim.Native.Nat.{ℕ, ◌+◌}
use mathlib.Core.Path.{◌≡◌}
use mathlib.Core.List.{List}
use lib.ListN.{length}
use borrow.Author.Tests.{lt-leb}
use Rattle.words.specs.Words.{word_at}
use Rattle.image_layout.specs.Trailer.{trailer_at}
use Rattle.image_reading.specs.Image.{trailer_fault, up_to_widths, up_to_length, describe_fault, describe_of}
use Rattle.image_cases.specs.Longest.{Zeros, Longest}

word_zero : (bs : List ℕ) → Zeros bs → (p : ℕ) → word_at bs p ≡ 0
unfolding word_at
word_zero bs z p = rw (z p, z (p + 1), z (p + 2), z (p + 3))

pub longest : Longest
unfolding describe_of describe_fault up_to_length up_to_widths trailer_fault trailer_at
longest =
    record {
      too_long = λ bs h. rw (lt-leb (length bs) 8388608 h);
      longest = λ bs n z. rw (n, word_zero bs z (8388576 + 28));
    }
