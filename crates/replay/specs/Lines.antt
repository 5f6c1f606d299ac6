-- The lines of a list of cases: a tag and hexadecimal words, one space between. A line ends at an LF (10), a comment
-- begins with # (35), and a space is 32. Definitions only.
use Rattle.std.specs.Prelude.{◌≡◌, Bool, true, false, cond, ◌&&◌, ◌||◌, List, [], ◌∷◌, ℕ, suc, ◌+◌, ◌-◌, ◌*◌, ◌≤◌, eqb, ltb, leb, length, take, drop, Some, None}
use Rattle.std.specs.declared.option.Option.{Option}
use Rattle.replay.specs.declared.Line.{Line}
use Rattle.replay.specs.declared.Line.TheVariants.{Words, Skipped, Malformed}

-- how many bytes stand before the first mark
unfoldable pub before_of : ℕ → List ℕ → ℕ
before_of mark [] = 0
before_of mark (b ∷ bs) = cond (eqb b mark) 0 (suc (before_of mark bs))

pub record Before (text : List ℕ) (mark n : ℕ) : Type 0 where
  pub within : n ≤ length text
  pub first : n ≡ before_of mark text

-- a line ends at its LF, or with the text
pub record LineEnd (text : List ℕ) (from end : ℕ) : Type 0 where
  pub after : from ≤ end
  pub within : end ≤ length text
  pub first : end ≡ from + before_of 10 (drop from text)

-- a byte more at the start of the first part
unfoldable pub onto : ℕ → List (List ℕ) → List (List ℕ)
onto b [] = (b ∷ []) ∷ []
onto b (p ∷ ps) = (b ∷ p) ∷ ps

-- what stands between spaces: one part more than there are spaces
unfoldable pub parts_of : List ℕ → List (List ℕ)
unfolding onto
parts_of [] = [] ∷ []
parts_of (b ∷ bs) = cond (eqb b 32) ([] ∷ parts_of bs) (onto b (parts_of bs))

-- 0 to 9 and a to f; 16 for any other byte
unfoldable pub digit_of : ℕ → ℕ
digit_of b = cond (leb 48 b && leb b 57) (b - 48) (cond (leb 97 b && leb b 102) (b - 87) 16)

-- A to Z and a to z
unfoldable pub letter_of : ℕ → Bool
letter_of b = (leb 65 b && leb b 90) || (leb 97 b && leb b 122)

-- every byte is a digit
unfoldable pub digits_only : List ℕ → Bool
unfolding digit_of
digits_only [] = true
digits_only (b ∷ bs) = cond (eqb (digit_of b) 16) false (digits_only bs)

-- the number that digits stand for, after others that stand for v
unfoldable pub worth : ℕ → List ℕ → ℕ
unfolding digit_of
worth v [] = v
worth v (b ∷ bs) = worth (v * 16 + digit_of b) bs

-- a word: 1 to 16 digits
unfoldable pub word_of : List ℕ → Option ℕ
unfolding digits_only worth
word_of text =
    cond (eqb (length text) 0) None
    (cond (ltb 16 (length text)) None
    (cond (digits_only text) (Some (worth 0 text)) None))

-- a word more in front of others; none where it is no word, or they are not
unfoldable pub in_front : Option ℕ → Option (List ℕ) → Option (List ℕ)
in_front (Some v) (Some vs) = Some (v ∷ vs)
in_front (Some v) None = None
in_front None vs = None

-- the words that stand between spaces, if each is one
unfoldable pub words_of : List (List ℕ) → Option (List ℕ)
unfolding in_front word_of
words_of [] = Some []
words_of (p ∷ ps) = in_front (word_of p) (words_of ps)

-- after the tag: nothing, or a space and the words
unfoldable pub after_tag : List ℕ → Option (List ℕ)
unfolding words_of parts_of
after_tag [] = Some []
after_tag (b ∷ bs) = cond (eqb b 32) (words_of (parts_of bs)) None

-- a tag and its words, where there is room for so many
unfoldable pub counted : ℕ → ℕ → Option (List ℕ) → Line
counted room tag None = Malformed
counted room tag (Some vs) = cond (leb (length vs) room) (Words tag (length vs)) Malformed

-- a blank line or a comment, or a letter and its words
unfoldable pub line_of : ℕ → List ℕ → Line
unfolding letter_of after_tag counted
line_of room [] = Skipped
line_of room (b ∷ bs) = cond (eqb b 35) Skipped (cond (letter_of b) (counted room b (after_tag bs)) Malformed)

abbrev pub count_of : Line → ℕ
count_of (Words tag n) = n
count_of Skipped = 0
count_of Malformed = 0

-- the answer, and its words at the start of the slice that was lent
pub record Answered (expected : Line) (rest lent after : List ℕ) (r : Line) : Type 0 where
  pub within : count_of r ≤ length lent
  pub answer : r ≡ expected
  pub words : (tag n : ℕ) → r ≡ Words tag n → after_tag rest ≡ Some (take n after)

-- of what follows a tag, and of a whole line
abbrev pub Tagged : ℕ → List ℕ → List ℕ → List ℕ → Line → Type 0
Tagged tag rest lent after r = Answered (counted (length lent) tag (after_tag rest)) rest lent after r

abbrev pub Parsed : List ℕ → List ℕ → List ℕ → Line → Type 0
Parsed line lent after r = Answered (line_of (length lent) line) (drop 1 line) lent after r
