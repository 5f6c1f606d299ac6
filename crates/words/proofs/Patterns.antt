-- Patterns of 32 bits: which are NaN's, which are finite numbers'. Assumes nothing.
use mathlib.Core.Path.{◌≡◌, refl, sym, ◌∙◌}
use mathlib.Core.Bool.{Bool, true, false, not, cond}
use Prim.Native.Nat.{ℕ, zero, suc, ◌+◌, ◌/◌, ◌%◌, ◌<◌}
use native.Mathlib.Omega.{arith}
use borrow.Author.Tests.{eq-eqb, ne_eqb, ltb-true, ltb-false}
use lib.Dec.{T, ltb, eqb}
use lib.Ieee.{Float, nan, inf, fin, binary32, odd, of_fields, of_bits, is_nan}
use lib.Ieee.Scale.{finite}

-- the patterns below the infinity's, with the sign taken off, are finite numbers'
odd_finite : (d : ℕ) (s : Bool) (q k l : ℕ) → finite (odd d s q k l) ≡ true
unfolding odd
odd_finite d s zero k l = refl
odd_finite d s (suc q) k l = refl

fields_finite : (s : Bool) (x t : ℕ) → finite (of_fields binary32 s x t) ≡ not (eqb x 255)
unfolding of_fields
fields_finite s zero t = odd_finite 24 s t 0 149
fields_finite s (suc x) t = by (eqb (suc x) 255) (eqb t 0)
  where
    by : (b d : Bool) → finite (cond b (cond d (inf s) nan) (odd 24 s (8388608 + t) x 149)) ≡ not b
    by true true = refl
    by true false = refl
    by false d = odd_finite 24 s (8388608 + t) x 149

exponent : (m : ℕ) → m < 0x8000_0000 → not (eqb (m / 8388608) 255) ≡ ltb m 0x7f80_0000
exponent m l = by (ltb m 0x7f80_0000) refl
  where
    by : (b : Bool) → ltb m 0x7f80_0000 ≡ b → not (eqb (m / 8388608) 255) ≡ b
    by true e = let h = ltb-true m 0x7f80_0000 e in rw (ne_eqb (m / 8388608) 255 (λ z. omega arith))
    by false e = let h = ltb-false m 0x7f80_0000 e in rw (eq-eqb (m / 8388608) 255 (omega arith))

pub finite_pattern : (bits : ℕ) → ltb (bits % 0x8000_0000) 0x7f80_0000 ≡ finite (of_bits binary32 bits)
unfolding of_bits
finite_pattern bits =
    sym (exponent (bits % 0x8000_0000) (omega arith))
    ∙ sym (fields_finite _ (bits % 0x8000_0000 / 8388608) (bits % 8388608))

-- a finite number is no NaN
pub finite_number : (x : Float) → finite x ≡ true → T (not (is_nan x))
unfolding is_nan
finite_number nan e = absurd (let z : ◌≡◌ {A = ℕ} 0 1 = cc in omega arith)
finite_number (inf s) e = tt
finite_number (fin s m k) e = tt
