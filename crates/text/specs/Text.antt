-- R15.3: numbers as text, a list of ASCII codes: bits as eight lower-case hexadecimal digits, all else in decimal.
-- Definitions only.
use Rattle.std.specs.Prelude.{ℕ, zero, suc, ◌+◌, ◌/◌, ◌%◌, cond, List, [], ◌∷◌, ◌++◌, ltb}

-- R15.3: the ASCII code of a digit below 16
unfoldable pub glyph : ℕ → ℕ
glyph d = cond (ltb d 10) (48 + d) (87 + d)

-- R15.3: n in decimal before a text: its last digit stands before the text, and the rest of n before that, in at most k
-- digits
unfoldable pub decimal_to : ℕ → ℕ → List ℕ → List ℕ
decimal_to zero n text = text
decimal_to (suc k) n text = cond (ltb n 10) ((48 + n % 10) ∷ text) (decimal_to k (n / 10) ((48 + n % 10) ∷ text))

-- R15.3: a number below 2^64 has at most 20 digits
abbrev pub decimal_of : ℕ → List ℕ
decimal_of n = decimal_to 20 n []

-- R15.3: eight hexadecimal digits
unfoldable pub bits_text : ℕ → List ℕ
bits_text b =
    glyph (b / 268435456 % 16) ∷ glyph (b / 16777216 % 16) ∷ glyph (b / 1048576 % 16) ∷ glyph (b / 65536 % 16)
    ∷ glyph (b / 4096 % 16) ∷ glyph (b / 256 % 16) ∷ glyph (b / 16 % 16) ∷ glyph (b % 16) ∷ []

-- R15.2: a number, and a pattern of bits, with the byte behind it: a space, or the line's end (10)
abbrev pub number_text : ℕ → ℕ → List ℕ
number_text n after = decimal_of n ++ (after ∷ [])

abbrev pub pattern_text : ℕ → ℕ → List ℕ
pattern_text b after = bits_text b ++ (after ∷ [])

-- R15.2: a line of a label and a number
abbrev pub labelled_line : List ℕ → ℕ → List ℕ
labelled_line label n = label ++ number_text n 10
