-- Which of the two zeros a number is, by its bits. Assumes nothing.
use mathlib.Core.Path.{◌≡◌, refl, sym, ap, ◌∙◌}
use mathlib.Core.Bool.{Bool, true, false, cond, not, ◌&&◌, true≢false}
use Prim.Native.Nat.{ℕ, zero, suc, ◌+◌, ◌-◌, ◌*◌, ◌/◌, ◌^◌, ◌<◌}
use native.Mathlib.Nat.{zero-mul, zero-div, mul-one, mul-pos, zero-lt-suc}
use native.Mathlib.Omega.{arith}
use lib.Dec.{T, eqb}
use lib.IntN.{ℤ}
use lib.Ieee.{Float, nan, inf, fin, binary32, eq, is_nan, to_bits, of_bits, size, up, down}
use lib.Ieee.Fits.{up_pos}
use borrow.Author.Tests.{eqb-true}
use Rattle.floats.specs.Binary32.{zero32}
use Rattle.floats.specs.Zeros.{is_minus_zero}
use Rattle.floats.proofs.Alike.{eq_zero}

pub eq_real : (x : Float) → eq x zero32 ≡ true → is_nan x ≡ false
unfolding eq is_nan
eq_real nan e = sym e
eq_real (inf s) e = refl
eq_real (fin s m d) e = refl

pub and_left : (a b : Bool) → (a && b) ≡ true → a ≡ true
and_left true b e = refl
and_left false b e = absurd (true≢false (sym e))

-- a finite number that equals zero has no digits
no_digits : (s : Bool) (m : ℕ) (e : ℤ) → eq (fin s m e) zero32 ≡ true → m ≡ 0
unfolding eq of_bits
no_digits s zero e h = refl
no_digits s (suc m) e h =
    let p : suc m * up e * 1 ≡ 0 * 1 * down e = eqb-true _ _ (and_left _ _ h) in
    let q : 0 < suc m * up e = mul-pos (zero-lt-suc m) (up_pos e) in
    absurd (omega (arith, p, q, mul-one (suc m * up e), zero-mul (down e)))

bits : (s : Bool) (e : ℤ) → to_bits binary32 (fin s 0 e) ≡ cond s 0x8000_0000 0
unfolding to_bits size
bits s e =
    let n : 0 * up e * 2 ^ 149 / down e ≡ 0 =
    ap (λ (k : ℕ). k * 2 ^ 149 / down e) (zero-mul (up e)) ∙ zero-div (down e) in
    ap (λ (k : ℕ). cond s 0x8000_0000 0 + (size k - 24) * 0x80_0000 + k / 2 ^ (size k - 24)) n ∙ last s
  where
    last : (b : Bool) → cond b 0x8000_0000 0 + (size 0 - 24) * 0x80_0000 + 0 / 2 ^ (size 0 - 24) ≡ cond b 0x8000_0000 0
    last true = refl
    last false = refl

-- a number that equals zero is -0.0 where its bits are not all 0
pub zero_by_bits : (x : Float) → eq x zero32 ≡ true → not (eqb (to_bits binary32 x) 0) ≡ is_minus_zero x
unfolding eq of_bits
zero_by_bits nan h = absurd (true≢false (sym h))
zero_by_bits (inf s) h = absurd (true≢false (sym h))
zero_by_bits (fin s m e) h =
    let none = no_digits s m e h in
    ap (λ (k : ℕ). not (eqb (to_bits binary32 (fin s k e)) 0)) none ∙ rw (bits s e) (which s)
    ∙ ap (λ (k : ℕ). is_minus_zero (fin s k e)) (sym none)
  where
    which : (b : Bool) → not (eqb (cond b 0x8000_0000 0) 0) ≡ is_minus_zero (fin b 0 e)
    which true = refl
    which false = refl

-- any other is not
pub no_zero : (x : Float) → eq x zero32 ≡ false → false ≡ is_minus_zero x
no_zero nan h = refl
no_zero (inf s) h = refl
no_zero (fin false m e) h = refl
no_zero (fin true m e) h = go (eqb m 0) (eq_zero (fin true m e) tt h)
  where
    go : (b : Bool) → T (not b) → false ≡ b
    go true t = absurd t
    go false t = refl
