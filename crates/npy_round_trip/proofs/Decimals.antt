-- A number in decimal is a whole number of the grammar, and its value is the number. Assumes nothing.
use Prim.Native.Nat.{ℕ, zero, suc, ◌+◌, ◌*◌, ◌-◌, ◌/◌, ◌%◌, ◌^◌, ◌<◌}
use native.Mathlib.Omega.{arith}
use mathlib.Core.Path.{◌≡◌, refl, ap, ◌∙◌}
use mathlib.Core.Bool.{Bool, true, false, cond}
use mathlib.Core.List.{List, [], ◌∷◌}
use lib.Dec.{ltb}
use borrow.Author.Tests.{ltb-true, ltb-false, le-leb, ne_eqb}
use Rattle.text.specs.Text.{decimal_to, decimal_of}
use Rattle.npy_tokens.specs.declared.Class.TheVariants.{Digit}
use Rattle.npy_tokens.specs.Tokens.{belongs, plain, value_from, value_of}
use Rattle.npy_header.specs.Grammar.{Many, Decimal}

-- s is n in decimal before a text t
record Before (n : ℕ) (t s : List ℕ) : Type 0 where
  digits : Many Digit t → Many Digit s
  value : value_of s ≡ value_from n t
  -- the first digit is no 0
  written : 0 < n → plain s ≡ true

digit : (d : ℕ) → d < 10 → belongs Digit (48 + d) ≡ true
unfolding belongs
digit d h = rw (le-leb 48 (48 + d) (omega arith), le-leb (48 + d) 57 (omega arith))

not_zero : (d : ℕ) (t : List ℕ) → 0 < d → plain ((48 + d) ∷ t) ≡ true
unfolding plain
not_zero d [] h = refl
not_zero d (b ∷ t) h = rw (ne_eqb (48 + d) 48 (λ e. omega arith))

before : (k n : ℕ) (t : List ℕ) → n < 10 ^ k → Before n t (decimal_to k n t)
unfolding decimal_to value_from Many
before zero n t h =
    let z : 0 ≡ n = omega arith in
    record { digits = λ m. m; value = ap (λ (i : ℕ). value_from i t) z; written = λ p. absurd (omega arith) }
before (suc k) n t h = by (ltb n 10) refl (before k (n / 10) ((48 + n % 10) ∷ t) (omega arith))
  where
    by : (b : Bool) → ltb n 10 ≡ b → Before (n / 10) ((48 + n % 10) ∷ t) (decimal_to k (n / 10) ((48 + n % 10) ∷ t))
        → Before n t (cond b ((48 + n % 10) ∷ t) (decimal_to k (n / 10) ((48 + n % 10) ∷ t)))
    by true e rest =
        let small = ltb-true n 10 e in
        let same : 0 * 10 + (48 + n % 10 - 48) ≡ n = omega arith in
        record {
          digits = λ m. (digit (n % 10) (omega arith), m);
          value = ap (λ (i : ℕ). value_from i t) same;
          written = λ p. not_zero (n % 10) t (omega arith);
        }
    by false e rest =
        let large = ltb-false n 10 e in
        let same : n / 10 * 10 + (48 + n % 10 - 48) ≡ n = omega arith in
        record {
          digits = λ m. rest.digits (digit (n % 10) (omega arith), m);
          value = rest.value ∙ ap (λ (i : ℕ). value_from i t) same;
          written = λ p. rest.written (omega arith);
        }

pub decimal : (n : ℕ) → 0 < n → n < 1000000 → Decimal n (decimal_of n)
unfolding value_from Many
decimal n some few =
    let b = before 20 n [] (omega arith) in
    record { digits = b.digits tt; written = b.written some; value = b.value }
