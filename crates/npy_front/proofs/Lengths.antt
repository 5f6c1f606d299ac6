-- How long a header is: its sizes have one to six digits, so that its text ends before the 128th byte. Assumes nothing.
use Prim.Native.Nat.{ℕ, zero, suc, ◌+◌, ◌-◌, ◌/◌, ◌%◌, ◌^◌, ◌≤◌, ◌<◌}
use native.Mathlib.Omega.{arith}
use mathlib.Core.Path.{◌≡◌, refl, ap, ◌∙◌}
use mathlib.Core.Bool.{Bool, true, false, cond}
use mathlib.Core.List.{List, [], ◌∷◌, ◌++◌}
use lib.Dec.{ltb}
use lib.ListN.{length, replicate, length-append, length-replicate}
use borrow.Author.Tests.{ltb-true, ltb-false}
use Rattle.text.specs.Text.{decimal_to, decimal_of}
use Rattle.text.proofs.Decimals.{two_digits, digit_less}
use Rattle.npy_header.specs.File.{magic}
use Rattle.npy_front.specs.Front.{opening, separator, closing, dictionary_text, data_at, padded, header_bytes}

-- ---- digits put before a text: the last one, or one and more before it
step : (P : List ℕ → Type 0) (k n : ℕ) (t : List ℕ) → (n < 10 → P ((48 + n % 10) ∷ t))
    → (10 ≤ n → P (decimal_to k (n / 10) ((48 + n % 10) ∷ t))) → P (decimal_to (suc k) n t)
unfolding decimal_to
step P k n t last more = by (ltb n 10) refl
  where
    by : (b : Bool) → ltb n 10 ≡ b → P (cond b ((48 + n % 10) ∷ t) (decimal_to k (n / 10) ((48 + n % 10) ∷ t)))
    by true e = last (ltb-true n 10 e)
    by false e = more (ltb-false n 10 e)

-- no fewer than one, and no more than m where n is below 10 ^ m
none_lost : (k n : ℕ) (t : List ℕ) → length t ≤ length (decimal_to k n t)
unfolding decimal_to
none_lost zero n t = omega arith
none_lost (suc k) n t =
    step (λ (s : List ℕ). length t ≤ length s) k n t (λ h. omega arith)
    (λ h. omega (arith, none_lost k (n / 10) ((48 + n % 10) ∷ t)))

one_more : (k n : ℕ) (t : List ℕ) → length t < length (decimal_to (suc k) n t)
one_more k n t =
    step (λ (s : List ℕ). length t < length s) k n t (λ h. omega arith)
    (λ h. omega (arith, none_lost k (n / 10) ((48 + n % 10) ∷ t)))

at_most : (k m n : ℕ) (t : List ℕ) → 0 < m → m ≤ k → n < 10 ^ m → length (decimal_to k n t) ≤ m + length t
at_most zero m n t p h l = absurd (omega arith)
at_most (suc k) m n t p h l =
    step (λ (s : List ℕ). length s ≤ m + length t) k n t (λ b. omega arith) (λ b.
    let two : 2 ≤ m = two_digits n m b l in
    let rest = at_most k (m - 1) (n / 10) ((48 + n % 10) ∷ t) (omega arith) (omega arith) (digit_less n m b l) in
    omega (arith, rest))

-- ---- sizes below a million
pub record Digits (n : ℕ) : Type 0 where
  pub some : 1 ≤ length (decimal_of n)
  pub few : length (decimal_of n) ≤ 6

digits : (n : ℕ) → n < 1000000 → Digits n
digits n h = record { some = one_more 19 n []; few = at_most 20 6 n [] (omega arith) (omega arith) h }

module _ (a b c : ℕ) where
  pub record Fits : Type 0 where
    pub some : 62 ≤ length (dictionary_text a b c)
    pub few : length (dictionary_text a b c) ≤ 77

  text_length_lem : length (dictionary_text a b c)
      ≡ 59 + (length (decimal_of a) + length (decimal_of b) + length (decimal_of c))
  unfolding dictionary_text opening separator closing
  text_length_lem = simp length-append (omega arith)

  pub fits : a < 1000000 → b < 1000000 → c < 1000000 → Fits
  fits ha hb hc =
      let l = text_length_lem in
      let x = digits a ha in
      let y = digits b hb in
      let z = digits c hc in
      record {
        some = omega (arith, l, x.some, y.some, z.some);
        few = omega (arith, l, x.few, y.few, z.few);
      }

  -- so the header's text is padded to 118 bytes
  spaces : Fits → data_at (length (dictionary_text a b c)) ≡ 128
  unfolding data_at
  spaces f = let q : (10 + length (dictionary_text a b c) + 1 + 63) / 64 ≡ 2 = omega (arith, f.some, f.few) in rw q

  padded_is : Fits → padded (dictionary_text a b c)
      ≡ dictionary_text a b c ++ (replicate (127 - (10 + length (dictionary_text a b c))) 32 ++ (10 ∷ []))
  unfolding padded
  padded_is f =
      let n = length (dictionary_text a b c) in
      let m : 128 - (10 + n + 1) ≡ 127 - (10 + n) = omega arith in
      rw (spaces f, m)

  padded_length : Fits → length (padded (dictionary_text a b c)) ≡ 118
  padded_length f =
      ap length (padded_is f) ∙ simp (length-append, length-replicate) (omega (arith, f.some, f.few))

  -- and all bytes are these
  pub header_is : Fits → header_bytes a b c
      ≡ 147 ∷ 78 ∷ 85 ∷ 77 ∷ 80 ∷ 89 ∷ 1 ∷ 0 ∷ 118 ∷ 0
      ∷ (dictionary_text a b c ++ (replicate (127 - (10 + length (dictionary_text a b c))) 32 ++ (10 ∷ [])))
  unfolding header_bytes magic
  header_is f = rw (padded_length f, padded_is f)

  pub header_size : Fits → length (header_bytes a b c) ≡ 128
  unfolding header_bytes magic
  header_size f = rw (padded_length f)

  pub header_length : a < 1000000 → b < 1000000 → c < 1000000 → length (header_bytes a b c) ≡ 128
  header_length ha hb hc = header_size (fits ha hb hc)
