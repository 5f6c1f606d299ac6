-- Which values and slopes touch: zeros of either sign do not. Assumes nothing.
use mathlib.Core.Path.{◌≡◌, refl, sym, ap, ◌∙◌}
use mathlib.Core.Logic.{inl, inr}
use mathlib.Core.Bool.{Bool, true, false, not, ◌&&◌, ◌||◌, beq, true≢false}
use Prim.Native.Nat.{ℕ, zero, suc, ◌*◌, ◌<◌}
use native.Mathlib.Nat.{zero-mul, mul-pos, zero-lt-suc}
use native.Mathlib.Omega.{arith}
use lib.Dec.{T, eqb, lit<, eqb-suc-zero}
use lib.Ieee.{Float, of_bits, nan, inf, fin, up, down, eq, ne}
use lib.Ieee.Fits.{up_pos}
use lib.Ieee.Bits.{is_true}
use borrow.Author.Tests.{ne_eqb}
use Rattle.floats.specs.Binary32.{zero32}
use Rattle.floats.specs.Zeros.{is_zero, Alike}
use Rattle.touched_layer.specs.Touched.{touches_by}

-- ---- a comparison with +0.0 tells the zeros of either sign
eq_is_zero : (x : Float) → eq x zero32 ≡ is_zero x
unfolding eq of_bits
eq_is_zero nan = refl
eq_is_zero (inf s) = refl
eq_is_zero (fin s zero e) =
    none s (zero * up e * 1) (0 * 1 * down e) (ap (λ (k : ℕ). k * 1) (zero-mul (up e))) (zero-mul (down e))
  where
    none : (s : Bool) (a b : ℕ) → a ≡ 0 → b ≡ 0 → (eqb a b && (beq s false || eqb a 0)) ≡ true
    none true a b p q = rw (p, q)
    none false a b p q = rw (p, q)
eq_is_zero (fin s (suc m) e) =
    some (suc m * up e * 1) (0 * 1 * down e) (mul-pos (mul-pos (zero-lt-suc m) (up_pos e)) (lit< tt))
    (zero-mul (down e))
    ∙ sym (eqb-suc-zero m)
  where
    some : (a b : ℕ) → 0 < a → b ≡ 0 → (eqb a b && (beq s false || eqb a 0)) ≡ false
    some a b p q = rw (ne_eqb a b (λ e. omega arith))

ne_zero : (x : Float) → T (is_zero x) → ne x zero32 ≡ false
unfolding ne
ne_zero x z = ap not (eq_is_zero x ∙ is_true (is_zero x) z)

ne_alike : (x y : Float) → Alike x y → ne x zero32 ≡ ne y zero32
ne_alike x y (inl e) = ap (λ (z : Float). ne z zero32) e
ne_alike x y (inr z) = ne_zero x z.0 ∙ sym (ne_zero y z.1)

-- so a value and a slope touch as those do that they stand for
pub touches_alike : (v w s u : Float) → Alike v w → Alike s u → touches_by v s ≡ touches_by w u
unfolding touches_by
touches_alike v w s u p q = rw (ne_alike v w p, ne_alike s u q)

pub touches_none : (v s : Float) → T (is_zero v) → T (is_zero s) → touches_by v s ≡ false
unfolding touches_by
touches_none v s p q = rw (ne_zero v p, ne_zero s q)

-- and where they do not touch both are zero
is_zero_lem : (x : Float) → ne x zero32 ≡ false → T (is_zero x)
unfolding ne
is_zero_lem x e = go (is_zero x) (eq_is_zero x)
  where
    go : (b : Bool) → eq x zero32 ≡ b → T b
    go true q = tt
    go false q = true≢false (sym (ap not q) ∙ e)

pub zeros_of : (v s : Float) → touches_by v s ≡ false → T (is_zero v) × T (is_zero s)
unfolding touches_by
zeros_of v s e = go (ne v zero32) (ne s zero32) refl refl e
  where
    go : (a b : Bool) → ne v zero32 ≡ a → ne s zero32 ≡ b → (a || b) ≡ false → T (is_zero v) × T (is_zero s)
    go true b p q d = absurd (true≢false d)
    go false true p q d = absurd (true≢false d)
    go false false p q d = (is_zero_lem v p, is_zero_lem s q)
