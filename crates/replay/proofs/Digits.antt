-- Digits read one by one. Assumes nothing.
use mathlib.Core.Path.{◌≡◌, refl, ◌∙◌}
use mathlib.Core.Bool.{true, false}
use mathlib.Core.List.{List}
use Prim.Native.Nat.{ℕ, ◌+◌, ◌*◌, ◌^◌, ◌<◌, ◌≤◌}
use native.Mathlib.Numerals.{add-one}
use native.Mathlib.Nat.{pow-suc, pow-le-pow_right}
use native.Mathlib.Omega.{arith}
use lib.Dec.{lit<}
use lib.ListN.{length, get_or, drop, drop_of_length-le}
use lib.Seq.{drop-cons}
use borrow.Author.Tests.{eq-eqb, ne_eqb, lt-ltb, le-ltb}
use Rattle.std.specs.Prelude.{Some, None}
use Rattle.replay.specs.Lines.{digit_of, digits_only, worth, word_of}

-- i digits are read, and stand for `number`
pub record Read (text : List ℕ) (number i : ℕ) : Type 0 where
  pub most : i ≤ length text
  pub room : number < 16 ^ i
  pub value : worth 0 text ≡ worth number (drop i text)
  pub digits : digits_only text ≡ digits_only (drop i text)

pub read_none : (text : List ℕ) → Read text 0 0
read_none text = record { most = omega arith; room = lit< tt; value = refl; digits = refl }

module _ {text : List ℕ} {number i : ℕ} (r : Read text number i) where
  -- sixteen digits fit a word
  pub word_room : i < 16 → number < 2 ^ 60
  word_room h =
      let most : i ≤ 15 = omega arith in
      let w : 16 ^ i ≤ 16 ^ 15 = pow-le-pow_right (lit< tt) most in
      omega (arith, w)

  pub read_more : (d : ℕ) → i < length text → d ≡ digit_of (get_or text i 0) → d < 16 → Read text (number * 16 + d) (i + 1)
  unfolding worth digits_only
  read_more d h e k =
      let p : 16 ^ (i + 1) ≡ 16 ^ i * 16 = rw add-one (pow-suc 16 i) in
      let n : digit_of (get_or text i 0) ≡ 16 → ⊥ = λ q. omega arith in
      record {
        most = omega arith;
        room = omega (arith, p, r.room);
        value = r.value ∙ rw (add-one, drop-cons text i 0 h, e);
        digits = r.digits ∙ rw (add-one, drop-cons text i 0 h, ne_eqb (digit_of (get_or text i 0)) 16 n);
      }

  pub read_other : i < length text → digit_of (get_or text i 0) ≡ 16 → digits_only text ≡ false
  unfolding digits_only
  read_other h e = r.digits ∙ rw (drop-cons text i 0 h, eq-eqb (digit_of (get_or text i 0)) 16 e)

  pub read_all : length text ≤ i → (digits_only text ≡ true) × (worth 0 text ≡ number)
  unfolding worth digits_only
  read_all h = (r.digits ∙ rw (drop_of_length-le text h), r.value ∙ rw (drop_of_length-le text h))

-- which case of a word's definition holds
pub word_none : (text : List ℕ) → length text ≡ 0 → None ≡ word_of text
unfolding word_of
word_none text e = rw (eq-eqb (length text) 0 e)

pub word_long : (text : List ℕ) → 16 < length text → None ≡ word_of text
unfolding word_of
word_long text h =
    let n : length text ≡ 0 → ⊥ = λ q. omega arith in
    rw (ne_eqb (length text) 0 n, lt-ltb 16 (length text) h)

module _ (text : List ℕ) (some : length text ≡ 0 → ⊥) (most : length text ≤ 16) where
  pub word_other : digits_only text ≡ false → None ≡ word_of text
  unfolding word_of
  word_other e = rw (ne_eqb (length text) 0 some, le-ltb 16 (length text) most, e)

  pub word_number : (number : ℕ) → digits_only text ≡ true → worth 0 text ≡ number → Some number ≡ word_of text
  unfolding word_of
  word_number number e v = rw (ne_eqb (length text) 0 some, le-ltb 16 (length text) most, e, v)
