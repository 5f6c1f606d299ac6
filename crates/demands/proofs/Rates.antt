-- A learning rate that passes check 19 is above zero. Assumes nothing.
use Prim.Native.Nat.{ℕ, zero, suc, ◌+◌, ◌*◌, ◌<◌}
use native.Mathlib.Nat.{zero-mul, zero-lt-suc}
use native.Mathlib.Omega.{arith}
use mathlib.Core.Path.{◌≡◌, sym, ap, subst}
use mathlib.Core.Bool.{Bool, true, false, not, ◌&&◌, ◌||◌}
use lib.Dec.{T, ltb, eqb, lt→ltb, T_not}
use lib.Ieee.{Float, nan, inf, fin, up, down, le, of_bits}
use lib.Ieee.Scale.{finite}
use lib.Ieee.Positive.{positive}
use lib.Ieee.Fits.{and_l, and_r}
use Rattle.floats.specs.Binary32.{zero32}
use Rattle.update.specs.Update.{rate_sound}

-- ---- `le` of a value without size or with a minus sign, and +0.0
or_left : (a b : Bool) → T a → T (a || b)
or_left true b t = tt
or_left false b t = absurd t

or_right : (a b : Bool) → T b → T (a || b)
or_right true b t = tt
or_right false b t = t

below_zero : (a b : ℕ) → b ≡ 0 → T (ltb 0 (a + b) || (eqb a b && (false || eqb a 0)))
below_zero a b z = subst (λ (x : ℕ). T (ltb 0 (a + x) || (eqb a x && (false || eqb a 0)))) (sym z) (go a)
  where
    some : (a : ℕ) → 0 < suc a + 0
    some a = omega arith

    go : (a : ℕ) → T (ltb 0 (a + 0) || (eqb a 0 && (false || eqb a 0)))
    go zero = tt
    go (suc a) = or_left (ltb 0 (suc a + 0)) _ (lt→ltb 0 (suc a + 0) (some a))

level : (a b : ℕ) → a ≡ 0 → b ≡ 0 → T (eqb a b && true)
level a b x y = subst (λ (a : ℕ). T (eqb a b && true)) (sym x) (subst (λ (b : ℕ). T (eqb 0 b && true)) (sym y) tt)

above_zero : (r : Float) → T (finite r) → T (not (le r zero32)) → T (positive r)
unfolding le of_bits
above_zero nan p q = absurd p
above_zero (inf s) p q = absurd p
above_zero (fin true m e) p q =
    absurd (T_not (le (fin true m e) zero32) q (below_zero (m * up e * 1) (0 * 1 * down e) (zero-mul (down e))))
above_zero (fin false zero e) p q =
    let a = 0 * up e * 1 in
    let b = 0 * 1 * down e in
    absurd (T_not (le (fin false 0 e) zero32) q (or_right (ltb a b) (eqb a b && true)
    (level a b (ap (λ (x : ℕ). x * 1) (zero-mul (up e))) (zero-mul (down e)))))
above_zero (fin false (suc m) e) p q = lt→ltb 0 (suc m) (zero-lt-suc m)

pub rate_positive : (rate : Float) → rate_sound rate ≡ true → T (positive rate)
unfolding rate_sound
rate_positive rate e =
    let sound : T (finite rate && not (le rate zero32)) = subst T (sym e) tt in
    above_zero rate (and_l (finite rate) (not (le rate zero32)) sound) (and_r (finite rate) (not (le rate zero32)) sound)
