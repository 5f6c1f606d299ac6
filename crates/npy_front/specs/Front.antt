-- R18.1 to R18.3: the bytes of an NPY file of version 1.0 that come before its numbers, as they are written. Definitions only.
use Rattle.std.specs.Prelude.{ℕ, ◌+◌, ◌*◌, ◌-◌, ◌/◌, ◌%◌, List, [], ◌∷◌, ◌++◌, length, replicate}
use Rattle.text.specs.Text.{decimal_of}
use Rattle.npy_header.specs.File.{magic}

-- R18.2: {'descr': '<f4', 'fortran_order': False, 'shape': (
unfoldable pub opening : List ℕ
opening =
    123 ∷ 39 ∷ 100 ∷ 101 ∷ 115 ∷ 99 ∷ 114 ∷ 39 ∷ 58 ∷ 32 ∷ 39 ∷ 60 ∷ 102 ∷ 52 ∷ 39 ∷ 44 ∷ 32
    ∷ 39 ∷ 102 ∷ 111 ∷ 114 ∷ 116 ∷ 114 ∷ 97 ∷ 110 ∷ 95 ∷ 111 ∷ 114 ∷ 100 ∷ 101 ∷ 114 ∷ 39 ∷ 58 ∷ 32
    ∷ 70 ∷ 97 ∷ 108 ∷ 115 ∷ 101 ∷ 44 ∷ 32 ∷ 39 ∷ 115 ∷ 104 ∷ 97 ∷ 112 ∷ 101 ∷ 39 ∷ 58 ∷ 32 ∷ 40 ∷ []

-- R18.2: a comma and a space between two numbers, and what closes it: ), }
unfoldable pub separator : List ℕ
separator = 44 ∷ 32 ∷ []

unfoldable pub closing : List ℕ
closing = 41 ∷ 44 ∷ 32 ∷ 125 ∷ []

unfoldable pub dictionary_text : ℕ → ℕ → ℕ → List ℕ
dictionary_text a b c =
    opening ++ (decimal_of a ++ (separator ++ (decimal_of b ++ (separator ++ (decimal_of c ++ closing)))))

-- R18.3: the numbers begin at the first multiple of 64 that is behind ten bytes, a text of n and its newline
unfoldable pub data_at : ℕ → ℕ
data_at n = (10 + n + 1 + 63) / 64 * 64

-- R18.3: the spaces that this takes, and the newline
unfoldable pub padded : List ℕ → List ℕ
padded text = text ++ (replicate (data_at (length text) - (10 + length text + 1)) 32 ++ (10 ∷ []))

-- R18.1: a length in two bytes
abbrev pub half_word : ℕ → List ℕ
half_word n = n % 256 ∷ n / 256 % 256 ∷ []

-- R18.1 to R18.3: all bytes before the numbers
unfoldable pub header_bytes : ℕ → ℕ → ℕ → List ℕ
header_bytes a b c =
    magic ++ (half_word (length (padded (dictionary_text a b c))) ++ padded (dictionary_text a b c))
