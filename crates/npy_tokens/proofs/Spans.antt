-- Bytes of a class at the front of a text, byte by byte, as a walk over the text meets them. Assumes nothing.
use Prim.Native.Nat.{ℕ, suc, ◌+◌, ◌-◌, ◌≤◌, ◌<◌}
use native.Mathlib.Nat.{sub_self}
use native.Mathlib.Numerals.{add-one}
use native.Mathlib.Omega.{arith}
use mathlib.Core.Path.{◌≡◌, refl, sym, ap, ◌∙◌}
use mathlib.Core.Bool.{Bool, true, false, cond}
use mathlib.Core.List.{List, [], ◌∷◌}
use lib.ListN.{length, get_or, take, drop, length-drop, drop_of_length-le}
use Rattle.std.specs.List.{prefix_len}
use Rattle.std.proofs.lemmas.List.Sums.{prefix_len-le-length}
use lib.Seq.{drop-cons, drop-drop}
use Rattle.npy_tokens.specs.declared.Class.{Class}
use Rattle.npy_tokens.specs.Tokens.{belongs, front, behind}
use Rattle.npy_tokens.specs.Places.{part, Ended}

-- ---- one byte more at the front of a rest
pub rest_cons : (text : List ℕ) (p : ℕ) → p < length text → drop p text ≡ get_or text p 0 ∷ drop (p + 1) text
rest_cons text p h = rw (add-one p) (drop-cons text p 0 h)

pub rest_none : (text : List ℕ) (p : ℕ) → length text ≤ p → drop p text ≡ []
rest_none text p h = drop_of_length-le text h

-- ---- the bytes from one place up to another
pub part_none : (text : List ℕ) (from : ℕ) → part text from from ≡ []
part_none text from = rw (sub_self from)

-- ---- the bytes of a class at the front of a text: as many as pass its test one after the other
one-more : (n : ℕ) → 1 + n ≡ suc n
one-more n = omega arith

front_prefix : (c : Class) (bs : List ℕ) → take (prefix_len (belongs c) bs) bs ≡ front c bs
unfolding front
front_prefix c [] = refl
front_prefix c (b ∷ bs) = by (belongs c b) (front_prefix c bs)
  where
    by : (t : Bool) → take (prefix_len (belongs c) bs) bs ≡ front c bs
        → take (cond t (1 + prefix_len (belongs c) bs) 0) (b ∷ bs) ≡ cond t (b ∷ front c bs) []
    by true e = rw one-more (ap (λ (t : List ℕ). b ∷ t) e)
    by false e = refl

behind_prefix : (c : Class) (bs : List ℕ) → drop (prefix_len (belongs c) bs) bs ≡ behind c bs
unfolding behind
behind_prefix c [] = refl
behind_prefix c (b ∷ bs) = by (belongs c b) (behind_prefix c bs)
  where
    by : (t : Bool) → drop (prefix_len (belongs c) bs) bs ≡ behind c bs
        → drop (cond t (1 + prefix_len (belongs c) bs) 0) (b ∷ bs) ≡ cond t (behind c bs) (b ∷ bs)
    by true e = rw one-more e
    by false e = refl

pub ended : (text : List ℕ) (from : ℕ) (c : Class) → from ≤ length text
    → Ended text from c (from + prefix_len (belongs c) (drop from text))
ended text from c h =
    let n = prefix_len (belongs c) (drop from text) in
    let only : from + n - from ≡ n = omega arith in
    record {
      behind_from = omega arith;
      front = rw only (front_prefix c (drop from text));
      place = record {
        inside = omega (arith, prefix_len-le-length (belongs c) (drop from text), length-drop from text);
        rest = sym (drop-drop n from text) ∙ behind_prefix c (drop from text);
      };
    }

-- ---- what is behind them is no longer
behind_of : (c : Class) (b : ℕ) (bs : List ℕ) (t : Bool) → length (behind c bs) ≤ length bs
    → length (cond t (behind c bs) (b ∷ bs)) ≤ suc (length bs)
behind_of c b bs true h = omega arith
behind_of c b bs false h = omega arith

pub behind_no_longer : (c : Class) (bs : List ℕ) → length (behind c bs) ≤ length bs
unfolding behind
behind_no_longer c [] = omega arith
behind_no_longer c (b ∷ bs) = behind_of c b bs (belongs c b) (behind_no_longer c bs)
