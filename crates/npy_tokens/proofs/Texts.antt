-- Bytes, words and digits found, or not, at a place of a text. Assumes nothing.
use Prim.Native.Nat.{ℕ, zero, suc, ◌+◌, ◌*◌, ◌-◌, ◌≤◌, ◌<◌}
use native.Mathlib.Omega.{arith}
use mathlib.Core.Path.{◌≡◌, refl, sym, ap, ◌∙◌}
use mathlib.Core.Bool.{Bool, true, false, not, cond, and-eq-true_iff, false≢true}
use mathlib.Core.List.{List, [], ◌∷◌, ◌++◌}
use lib.Dec.{eqb, leb, ltb}
use Rattle.std.specs.Prelude.{nat_eq}
use Rattle.std.specs.Cmp.Lexicographic.{pointwise}
use lib.ListN.{length, get_or, take, drop, length-drop}
use native.Mathlib.Numerals.{add-one}
use lib.Seq.{take-suc, drop-length, drop-drop, get_or-take, get_or-drop, length-take-le}
use borrow.Author.Tests.{leb-true, ltb-true, ltb-false}
use Rattle.npy_tokens.specs.declared.Class.{Class}
use Rattle.npy_tokens.specs.declared.Class.TheVariants.{Digit}
use Rattle.npy_tokens.specs.Tokens.{belongs, front, after_byte, after_bytes, begins_with, plain, value_from, value_of, same}
use Rattle.npy_tokens.specs.Places.{Place, part, Ended, Digits, counted}
use Rattle.npy_tokens.proofs.Spans.{rest_cons, rest_none}

-- ---- a byte at a place
module _ (text : List ℕ) (p c : ℕ) where
  pub begins_here : p < length text → begins_with c (drop p text) ≡ eqb (get_or text p 0) c
  unfolding begins_with
  begins_here h = rw (rest_cons text p h)

  pub begins_nowhere : length text ≤ p → begins_with c (drop p text) ≡ false
  unfolding begins_with
  begins_nowhere h = rw (rest_none text p h)

-- a text that begins with a byte at a place has it there, and goes on behind it
begun : (c : ℕ) (bs : List ℕ) → begins_with c bs ≡ true → after_byte c bs ≡ drop 1 bs
unfolding begins_with after_byte
begun c [] e = absurd (false≢true e)
begun c (b ∷ bs) e = rw e

pub begins_inside : (text : List ℕ) (p c : ℕ) → begins_with c (drop p text) ≡ true → p < length text
begins_inside text p c e = by_test (ltb p (length text)) refl
  where
    by_test : (t : Bool) → ltb p (length text) ≡ t → p < length text
    by_test true h = ltb-true p (length text) h
    by_test false h =
        absurd (false≢true (sym (begins_nowhere text p c (ltb-false p (length text) h)) ∙ e))

pub past_begun : (text : List ℕ) (p c : ℕ) → begins_with c (drop p text) ≡ true → after_byte c (drop p text) ≡ drop (p + 1) text
past_begun text p c e = begun c (drop p text) e ∙ drop-drop 1 p text

-- the place behind a byte that is there, and behind one that is not
pub past_here : (text : List ℕ) (p c : ℕ) → begins_with c (drop p text) ≡ true
    → Place text (p + 1) (after_byte c (drop p text))
past_here text p c e = record { inside = omega (arith, begins_inside text p c e); rest = sym (past_begun text p c e) }

past_missing : (c : ℕ) (bs : List ℕ) → begins_with c bs ≡ false → after_byte c bs ≡ []
unfolding begins_with after_byte
past_missing c [] e = refl
past_missing c (b ∷ bs) e = rw e

pub past_nowhere : (text : List ℕ) (p c : ℕ) → begins_with c (drop p text) ≡ false
    → Place text (length text) (after_byte c (drop p text))
past_nowhere text p c e = record { inside = omega arith; rest = drop-length text ∙ sym (past_missing c (drop p text) e) }

-- one byte behind several
past_more : (bytes rest : List ℕ) (b : ℕ) → after_bytes (bytes ++ (b ∷ [])) rest ≡ after_byte b (after_bytes bytes rest)
unfolding after_bytes
past_more [] rest b = refl
past_more (c ∷ bytes) rest b = past_more bytes (after_byte c rest) b

pub past_on : (text bytes rest : List ℕ) (b place next : ℕ) → Place text place (after_bytes bytes rest)
    → Place text next (after_byte b (drop place text)) → Place text next (after_bytes (bytes ++ (b ∷ [])) rest)
past_on text bytes rest b place next p q = record {
  inside = q.inside;
  rest = q.rest ∙ ap (after_byte b) p.rest ∙ sym (past_more bytes rest b);
}

-- ---- the same bytes, as `==` on slices finds them
pub same_pointwise : (a b : List ℕ) → pointwise nat_eq a b ≡ same a b
unfolding same
same_pointwise [] [] = refl
same_pointwise [] (y ∷ b) = refl
same_pointwise (x ∷ a) [] = refl
same_pointwise (x ∷ a) (y ∷ b) = rw (same_pointwise a b)

-- ---- the bytes from one place up to another
module _ (text : List ℕ) (from end : ℕ) (o : from ≤ end) (h : end ≤ length text) where
  pub part_length : length (part text from end) ≡ end - from
  part_length = length-take-le (end - from) (drop from text) (rw length-drop (omega arith))

  pub part_at_lem : (i : ℕ) → from + i < end → get_or (part text from end) i 0 ≡ get_or text (from + i) 0
  part_at_lem i l = get_or-take (end - from) (drop from text) i 0 (omega arith) ∙ get_or-drop from text i 0

-- ---- digits
pub plain_none : (ds : List ℕ) → length ds ≡ 0 → plain ds ≡ false
unfolding plain
plain_none [] e = refl
plain_none (d ∷ ds) e = absurd (omega (arith, e))

pub plain_one : (ds : List ℕ) → length ds ≡ 1 → plain ds ≡ true
unfolding plain
plain_one [] e = absurd (omega (arith, e))
plain_one (d ∷ []) e = refl
plain_one (d ∷ f ∷ ds) e = absurd (omega (arith, e))

pub plain_more : (ds : List ℕ) → 2 ≤ length ds → plain ds ≡ not (eqb (get_or ds 0 0) 48)
unfolding plain
plain_more [] h = absurd (omega (arith, h))
plain_more (d ∷ []) h = absurd (omega (arith, h))
plain_more (d ∷ f ∷ ds) h = refl

value_last : (n : ℕ) (ds : List ℕ) (d : ℕ) → value_from n (ds ++ (d ∷ [])) ≡ value_from n ds * 10 + (d - 48)
unfolding value_from
value_last n [] d = refl
value_last n (f ∷ ds) d = value_last (n * 10 + (f - 48)) ds d

counted_on : (v k : ℕ) → counted (counted v * 10 + k) ≡ counted (v * 10 + k)
counted_on v k = omega arith

-- a number with one digit more
pub value_more : (ds : List ℕ) (i n : ℕ) → i < length ds → n ≡ counted (value_of (take i ds))
    → counted (n * 10 + (get_or ds i 0 - 48)) ≡ counted (value_of (take (i + 1) ds))
value_more ds i n h e =
    let d = get_or ds i 0 in
    ap (λ (k : ℕ). counted (k * 10 + (d - 48))) e ∙ counted_on (value_of (take i ds)) (d - 48)
    ∙ ap counted (sym (ap value_of (rw add-one (take-suc ds i 0 h)) ∙ value_last 0 (take i ds) d))

pub digit_here : (text : List ℕ) (from end i : ℕ) → Digits text from end → i < end - from
    → 48 ≤ get_or (part text from end) i 0
digit_here text from end i d h =
    rw (part_at_lem text from end d.ordered d.inside i (omega arith)) (d.each (from + i) (omega arith) (omega arith))

-- each byte of a front belongs to its class
belongs_at : (c : Class) (b : ℕ) (bs : List ℕ) (t : Bool) → belongs c b ≡ t
    → ((j : ℕ) → j < length (front c bs) → belongs c (get_or (front c bs) j 0) ≡ true)
    → (i : ℕ) → i < length (cond t (b ∷ front c bs) []) → belongs c (get_or (cond t (b ∷ front c bs) []) i 0) ≡ true
belongs_at c b bs true e more zero l = e
belongs_at c b bs true e more (suc j) l = more j (omega (arith, l))
belongs_at c b bs false e more i l = absurd (omega (arith, l))

front_belongs : (c : Class) (bs : List ℕ) (i : ℕ) → i < length (front c bs) → belongs c (get_or (front c bs) i 0) ≡ true
unfolding front
front_belongs c [] i h = absurd (omega (arith, h))
front_belongs c (b ∷ bs) i h = belongs_at c b bs (belongs c b) refl (front_belongs c bs) i h

digit_least : (b : ℕ) → belongs Digit b ≡ true → 48 ≤ b
unfolding belongs
digit_least b e = leb-true 48 b ((and-eq-true_iff (leb 48 b) (leb b 57)).0 e).0

pub digits_found : (text : List ℕ) (from end : ℕ) → Ended text from Digit end → Digits text from end
digits_found text from end e =
    let o = e.behind_from in
    let h = e.place.inside in
    let whole = part_length text from end o h in
    record {
      ordered = o;
      inside = h;
      each = λ i l m. let j = i - from in
          let there : from + j ≡ i = omega arith in
          let short : j < length (front Digit (drop from text)) = rw (← e.front, whole) (omega arith) in
          let here : get_or (front Digit (drop from text)) j 0 ≡ get_or text i 0 =
          ap (λ (t : List ℕ). get_or t j 0) (sym e.front) ∙ part_at_lem text from end o h j (omega arith)
          ∙ ap (λ (k : ℕ). get_or text k 0) there in
          rw here at (digit_least _ (front_belongs Digit (drop from text) j short));
    }

-- ---- what the functions of one byte, of a number's form and of its digits cite
pub ruleset one_byte = (begins_inside, past_here, past_nowhere)

pub ruleset plains = (plain_none, plain_one, plain_more)

pub ruleset digit_steps = (digit_here, value_more)
