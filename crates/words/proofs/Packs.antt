-- What a loop that writes words needs. Assumes nothing.
use mathlib.Core.Path.{◌≡◌, refl, ◌∙◌}
use mathlib.Core.List.{List, ◌++◌}
use Prim.Native.Nat.{ℕ, ◌+◌, ◌-◌, ◌*◌, ◌≤◌}
use lib.ListN.{length, take, drop, get_or}
use lib.Ieee.{Float, binary32, to_bits}
use borrow.Rule.Slice.PartMut.{put_mid}
use Rattle.floats.specs.Sums.{at}
use Rattle.floats.proofs.Loops.{flat_none, flat_length, part_more, rest}
use Rattle.words.specs.Words.{bytes_of, packed, packed_words, packed_floats}

-- the words that are packed: of a list of words, and of a list of numbers; and their bytes
abbrev pub word_in : List ℕ → ℕ → ℕ
word_in ws i = get_or ws i 0

abbrev pub bits_in : List Float → ℕ → ℕ
bits_in xs i = to_bits binary32 (at xs i)

abbrev bytes_at : (ℕ → ℕ) → ℕ → List ℕ
bytes_at f i = bytes_of (f i)

pub four : (f : ℕ → ℕ) (i : ℕ) → length (bytes_at f i) ≡ 4
unfolding bytes_of
four f i = refl

pub packed_length : (f : ℕ → ℕ) (n : ℕ) → length (packed f n) ≡ n * 4
unfolding packed
packed_length f n = flat_length (bytes_at f) 4 (four f) n

pub packed_words_length : (ws : List ℕ) → length (packed_words ws) ≡ length ws * 4
unfolding packed_words
packed_words_length ws = packed_length _ (length ws)

pub packed_floats_length : (ps : List Float) → length (packed_floats ps) ≡ length ps * 4
unfolding packed_floats
packed_floats_length ps = packed_length _ (length ps)

pub pack_none : (f : ℕ → ℕ) (d : List ℕ) → d ≡ packed f 0 ++ drop (0 * 4) d
unfolding packed
pack_none f d = flat_none (bytes_at f) 4 d

-- a turn that lends the rest of e to a call that writes the j-th word there, and so leaves y
pub pack_more : (f : ℕ → ℕ) (j w : ℕ) (d e y : List ℕ) → e ≡ packed f j ++ drop (j * 4) d → j * 4 ≤ length e → w ≡ f j
    → y ≡ bytes_of w ++ drop 4 (take (length e - j * 4) (drop (j * 4) e))
    → put_mid (j * 4) (length e - j * 4) e y ≡ packed f (j + 1) ++ drop ((j + 1) * 4) d
unfolding packed
pack_more f j w d e y p l q r =
    part_more (bytes_at f) 4 (four f) j d e y p l
    (λ h. r ∙ rw (q, rest (j * 4) e, h))

-- a loop that writes words: none yet, and one more
pub ruleset pack_steps = (pack_none, pack_more)
