-- R13.1: words of 4 bytes, the lowest first, in a list of bytes, and the numbers that they stand for. Definitions only.
use Rattle.std.specs.Prelude.{ℕ, ◌+◌, ◌*◌, ◌/◌, ◌%◌, ◌<◌, List, [], ◌∷◌, length, get_or, Float}
use Rattle.std.specs.Float.{binary32}
use Rattle.std.specs.Float.Ieee.{of_bits, to_bits}
use Rattle.floats.specs.Sums.{tabulate, flat_to, at}

-- R1.7: every number of a list is a byte
abbrev pub Bytes : List ℕ → Type 0
Bytes bs = (i : ℕ) → i < length bs → get_or bs i 0 < 256

-- ---- reading
-- R13.1: the word whose lowest byte stands at a place
unfoldable pub word_at : List ℕ → ℕ → ℕ
word_at bs p = get_or bs p 0 + 256 * get_or bs (p + 1) 0 + 65536 * get_or bs (p + 2) 0 + 16777216 * get_or bs (p + 3) 0

-- R13.1: the number whose bits a word is; every pattern of a NaN is the one `nan`
abbrev pub float_at : List ℕ → ℕ → Float
float_at bs p = of_bits binary32 (word_at bs p)

-- R13.1: n words from a place on, and the numbers of the first n words
unfoldable pub words_from : List ℕ → ℕ → ℕ → List ℕ
words_from bs p n = tabulate (λ (i : ℕ). word_at bs (p + i * 4)) n

unfoldable pub floats_in : List ℕ → ℕ → List Float
floats_in bs n = tabulate (λ (i : ℕ). float_at bs (i * 4)) n

-- ---- writing
-- R13.1: a word's bytes, the lowest first
unfoldable pub bytes_of : ℕ → List ℕ
bytes_of w = w % 256 ∷ w / 256 % 256 ∷ w / 65536 % 256 ∷ w / 16777216 % 256 ∷ []

-- R13.1: the bytes of the words f 0, f 1, .., f (n - 1)
unfoldable pub packed : (ℕ → ℕ) → ℕ → List ℕ
packed f n = flat_to (λ (i : ℕ). bytes_of (f i)) n

-- R13.1: the words of a list of words, and of a list of numbers
unfoldable pub packed_words : List ℕ → List ℕ
packed_words ws = packed (λ (i : ℕ). get_or ws i 0) (length ws)

unfoldable pub packed_floats : List Float → List ℕ
packed_floats xs = packed (λ (i : ℕ). to_bits binary32 (at xs i)) (length xs)
