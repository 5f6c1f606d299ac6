-- R18.4: how a header's text is read, from its front: what stands there, and the rest behind it. Where something else stands,
-- the rest is empty; nothing is found in an empty text, so that a text that fails once fails to its end. That this is the
-- grammar of Grammar.antt is a theorem (npy_grammar). Definitions only.
-- Bytes are ASCII: 32 the space, 34 and 39 the quotes, 48 to 57 the digits, 92 the backslash.
use Rattle.std.specs.Prelude.{ℕ, ◌+◌, ◌*◌, ◌-◌, Bool, true, false, ◌&&◌, ◌||◌, not, cond, List, [], ◌∷◌, leb, eqb}
use Rattle.npy_tokens.specs.declared.Class.{Class}
use Rattle.npy_tokens.specs.declared.Class.TheVariants.{Space, Digit, Within}

-- ---- R18.4: classes of bytes: the space, the ten digits, and what may stand between two quotes: 20 to 7E in hexadecimal, but
-- no backslash and not the quote
unfoldable pub belongs : Class → ℕ → Bool
belongs Space b = eqb b 32
belongs Digit b = leb 48 b && leb b 57
belongs (Within quote) b = leb 32 b && leb b 126 && not (eqb b 92) && not (eqb b quote)

-- the longest front of a text whose bytes belong to a class, and what is behind it
unfoldable pub front : Class → List ℕ → List ℕ
front c [] = []
front c (b ∷ bs) = cond (belongs c b) (b ∷ front c bs) []

unfoldable pub behind : Class → List ℕ → List ℕ
behind c [] = []
behind c (b ∷ bs) = cond (belongs c b) (behind c bs) (b ∷ bs)

-- ---- R18.4: behind a byte, behind several, and behind a token: spaces or none, and then its bytes
unfoldable pub after_byte : ℕ → List ℕ → List ℕ
after_byte c [] = []
after_byte c (b ∷ bs) = cond (eqb b c) bs []

unfoldable pub after_bytes : List ℕ → List ℕ → List ℕ
after_bytes [] bs = bs
after_bytes (c ∷ cs) bs = after_bytes cs (after_byte c bs)

abbrev pub after_token : ℕ → List ℕ → List ℕ
after_token c bs = after_byte c (behind Space bs)

-- whether a text begins with a byte
unfoldable pub begins_with : ℕ → List ℕ → Bool
begins_with c [] = false
begins_with c (b ∷ bs) = eqb b c

-- ---- R18.4: a string between two quotes of one kind: what stands between them, and the rest behind them
abbrev pub is_quote : ℕ → Bool
is_quote b = eqb b 39 || eqb b 34

unfoldable pub between : List ℕ → List ℕ
between [] = []
between (q ∷ bs) = cond (is_quote q) (front (Within q) bs) []

unfoldable pub after_quotes : List ℕ → List ℕ
after_quotes [] = []
after_quotes (q ∷ bs) = cond (is_quote q) (after_byte q (behind (Within q) bs)) []

abbrev pub string_in : List ℕ → List ℕ
string_in bs = between (behind Space bs)

abbrev pub after_string : List ℕ → List ℕ
after_string bs = after_quotes (behind Space bs)

-- ---- R18.4, R18.5: a whole number: digits, the first no 0 unless it is alone, of any length
unfoldable pub plain : List ℕ → Bool
plain [] = false
plain (d ∷ []) = true
plain (d ∷ e ∷ ds) = not (eqb d 48)

-- what digits come to behind a number n
unfoldable pub value_from : ℕ → List ℕ → ℕ
value_from n [] = n
value_from n (d ∷ ds) = value_from (n * 10 + (d - 48)) ds

abbrev pub value_of : List ℕ → ℕ
value_of ds = value_from 0 ds

abbrev pub digits_in : List ℕ → List ℕ
digits_in bs = front Digit (behind Space bs)

abbrev pub number_in : List ℕ → ℕ
number_in bs = value_of (digits_in bs)

abbrev pub after_number : List ℕ → List ℕ
after_number bs = cond (plain (digits_in bs)) (behind Digit (behind Space bs)) []

-- ---- two texts, or two lists of numbers, are the same
unfoldable pub same : List ℕ → List ℕ → Bool
same [] [] = true
same [] (b ∷ bs) = false
same (a ∷ as') [] = false
same (a ∷ as') (b ∷ bs) = eqb a b && same as' bs
