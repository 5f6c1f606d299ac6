-- Digits from the last one on. Assumes nothing.
use Prim.Native.Nat.{ℕ, zero, suc, ◌+◌, ◌-◌, ◌/◌, ◌%◌, ◌^◌, ◌≤◌, ◌<◌}
use native.Mathlib.Omega.{arith}
use mathlib.Core.Path.{◌≡◌, sym, ◌∙◌}
use mathlib.Core.List.{List, [], ◌∷◌}
use lib.ListN.{length, take, drop, set, length-take, length-drop, length-set}
use lib.Seq.{take_all, drop-cons, drop-set-lt, get_or-set_same, lt-length-set}
use borrow.Author.Tests.{lt-ltb, le-ltb}
use Rattle.text.specs.Text.{glyph, decimal_to, bits_text}

-- ---- a number of at least two digits
pub two_digits : (n k : ℕ) → 10 ≤ n → n < 10 ^ k → 2 ≤ k
two_digits n zero h l = absurd (omega arith)
two_digits n (suc zero) h l = absurd (omega arith)
two_digits n (suc (suc k)) h l = omega arith

pub digit_less : (n k : ℕ) → 10 ≤ n → n < 10 ^ k → n / 10 < 10 ^ (k - 1)
digit_less n zero h l = absurd (omega arith)
digit_less n (suc k) h l = let e : suc k - 1 ≡ k = omega arith in rw e (omega (arith, l))

-- ---- one more digit in front
set_drop : (ds : List ℕ) (k v : ℕ) → k < length ds → drop k (set ds k v) ≡ v ∷ drop (suc k) ds
set_drop ds k v h =
    drop-cons (set ds k v) k 0 (lt-length-set ds k v h)
    ∙ rw (get_or-set_same ds k v 0 h, drop-set-lt (suc k) ds k v (omega arith))

module _ (ds : List ℕ) (n : ℕ) where
  more : (k : ℕ) → k < length ds → 10 ≤ n
      → decimal_to (suc k) n (drop (suc k) ds) ≡ decimal_to k (n / 10) (drop k (set ds k (48 + n % 10)))
  unfolding decimal_to
  more k h l = rw (le-ltb n 10 l, set_drop ds k (48 + n % 10) h)

  last : (k : ℕ) → k < length ds → n < 10 → decimal_to (suc k) n (drop (suc k) ds) ≡ drop k (set ds k (48 + n % 10))
  unfolding decimal_to
  last k h l = rw (lt-ltb n 10 l, set_drop ds k (48 + n % 10) h)

  pub digit_more : (k : ℕ) → 0 < k → k ≤ length ds → 10 ≤ n
      → decimal_to k n (drop k ds) ≡ decimal_to (k - 1) (n / 10) (drop (k - 1) (set ds (k - 1) (48 + n % 10)))
  digit_more zero p h l = absurd (omega arith)
  digit_more (suc k) p h l = let e : suc k - 1 ≡ k = omega arith in rw e (more k h l)

  pub digit_last : (k : ℕ) → 0 < k → k ≤ length ds → n < 10
      → decimal_to k n (drop k ds) ≡ drop (k - 1) (set ds (k - 1) (48 + n % 10))
  digit_last zero p h l = absurd (omega arith)
  digit_last (suc k) p h l = let e : suc k - 1 ≡ k = omega arith in rw e (last k h l)

-- the text of all digits
pub last_text : (ds : List ℕ) (n k m : ℕ) (t : List ℕ) → length ds ≡ 20 → 0 < k → k ≤ 20 → n < 10
    → decimal_to k n (drop k ds) ≡ t → 20 ≤ m + (k - 1) → take m (drop (k - 1) (set ds (k - 1) (48 + n % 10))) ≡ t
last_text ds n k m t s p h l e r =
    take_all m (drop (k - 1) (set ds (k - 1) (48 + n % 10))) (simp (length-drop, length-set) (omega arith))
    ∙ sym (digit_last ds n k p (omega arith) l) ∙ e

pub text_short : (ds : List ℕ) (j v m : ℕ) → length ds ≡ 20 → length (take m (drop j (set ds j v))) ≤ 20
text_short ds j v m s = simp (length-take, length-drop, length-set) (omega arith)

-- eight hexadecimal digits
pub eight : (b a0 a1 a2 a3 a4 a5 a6 a7 : ℕ) → a0 ≡ glyph (b / 268435456 % 16) → a1 ≡ glyph (b / 16777216 % 16)
    → a2 ≡ glyph (b / 1048576 % 16) → a3 ≡ glyph (b / 65536 % 16) → a4 ≡ glyph (b / 4096 % 16)
    → a5 ≡ glyph (b / 256 % 16) → a6 ≡ glyph (b / 16 % 16) → a7 ≡ glyph (b % 16)
    → a0 ∷ a1 ∷ a2 ∷ a3 ∷ a4 ∷ a5 ∷ a6 ∷ a7 ∷ [] ≡ bits_text b
unfolding bits_text
eight b a0 a1 a2 a3 a4 a5 a6 a7 e0 e1 e2 e3 e4 e5 e6 e7 = rw (e0, e1, e2, e3, e4, e5, e6, e7)
