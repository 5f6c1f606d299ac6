-- A basis value whose support does not hold x is a zero, and the others by the triangle on six knots. Assumes nothing.
use mathlib.Core.Path.{◌≡◌, refl, sym, ◌∙◌, subst}
use mathlib.Core.Logic.{◌⊎◌, inl, inr}
use Prim.Native.Nat.{ℕ, zero, suc, ◌+◌, ◌≤◌, ◌<◌}
use native.Mathlib.Nat.{le_refl}
use native.Mathlib.Omega.{arith}
use mathlib.Core.Bool.{Bool, true, false, cond, true≢false}
use lib.Dec.{T}
use lib.Ieee.{Float, binary32, le, lt, eq, fits, of_bits}
use lib.Ieee.Fits.{div-fits, cond-fits}
use lib.Ieee.Bits.{of_bits-fits}
use lib.Ieee.Scale.{finite}
use Rattle.floats.specs.Binary32.{◌⊖◌, ◌⊗◌, ◌⊘◌, zero32, one32}
use Rattle.floats.specs.Zeros.{is_zero, Alike}
use Rattle.floats.proofs.Zeros.{mul_zero_zero, add_zeros}
use Rattle.floats.proofs.Order.{le_chain}
use Rattle.floats.proofs.Finite.{le_not_lt}
use Rattle.floats.proofs.Alike.{div_zero, eq_zero, alike_div}
use Rattle.floats.proofs.Sums.{alike_mul}
use Rattle.spline.specs.declared.Grid.{Grid}
use Rattle.spline.specs.Spline.{knot_of, portion_of, indicator_of, blend_of, cox_of}
use Rattle.spline.specs.Steps.{rising_of, falling_of}
use Rattle.spline.proofs.Unrolled.{blend_is}
use Rattle.local_basis.specs.Meshes.{calm_of}
use Rattle.local_basis.proofs.Knots.{knot_mono, knot_finite, gap, from, to}

pub zero_zero : T (is_zero zero32)
unfolding of_bits
zero_zero = tt

pub portion_fits : (u v d : Float) → T (fits binary32 (portion_of u v d))
unfolding portion_of
portion_fits u v d = cond-fits binary32 (eq d zero32) zero32 (u ⊗ v ⊘ d) (of_bits-fits binary32 0)
    (div-fits binary32 (u ⊗ v) d)

pub portion_zero : (u v d : Float) → T (finite u) → T (finite d) → T (is_zero v) → T (is_zero (portion_of u v d))
unfolding portion_of
portion_zero u v d p q h = go (eq d zero32) refl
  where
    go : (b : Bool) → eq d zero32 ≡ b → T (is_zero (cond b zero32 (u ⊗ v ⊘ d)))
    go true e = zero_zero
    go false e = div_zero (u ⊗ v) d (mul_zero_zero binary32 u v p h) q (eq_zero d q e)

pub portion_alike : (u v' v d : Float) → T (finite d) → Alike v' v → Alike (portion_of u v' d) (portion_of u v d)
unfolding portion_of
portion_alike u v' v d q h = go (eq d zero32) refl
  where
    go : (b : Bool) → eq d zero32 ≡ b → Alike (cond b zero32 (u ⊗ v' ⊘ d)) (cond b zero32 (u ⊗ v ⊘ d))
    go true e = inl refl
    go false e = alike_div (u ⊗ v') (u ⊗ v) d q (eq_zero d q e) (alike_mul u v' v h)

-- x lies between the first knot and the last of a calm grid
pub record Inside (g : Grid) (x : Float) : Type 0 where
  pub calm : T (calm_of g)
  pub real : T (finite x)
  pub least : T (le (knot_of g 0) x)
  pub most : T (le x (knot_of g (g.intervals + 6)))

module _ (g : Grid) (x : Float) (s : Inside g x) where
  pub right : (i : ℕ) → i ≤ g.intervals + 6 → T (finite (x ⊖ knot_of g i))
  right i h = from g s.calm x i s.real s.least s.most h

  pub left : (i : ℕ) → i ≤ g.intervals + 6 → T (finite (knot_of g i ⊖ x))
  left i h = to g s.calm x i s.real s.least s.most h

  pub wide : (i j : ℕ) → i ≤ g.intervals + 6 → j ≤ g.intervals + 6 → T (finite (knot_of g i ⊖ knot_of g j))
  wide i j h k = gap g s.calm i j h k

  blend_zero : (d i : ℕ) (low next : Float) → i + d + 1 ≤ g.intervals + 6 → T (is_zero low) → T (is_zero next)
      → T (is_zero (blend_of g d i x low next))
  blend_zero d i low next h p q =
      subst (λ (z : Float). T (is_zero z)) (sym (blend_is g d i x low next (i + 1) (i + d) (i + d + 1) refl refl refl))
      (add_zeros binary32 (rising_of (knot_of g i) (knot_of g (i + d)) x low)
      (falling_of (knot_of g (i + 1)) (knot_of g (i + d + 1)) x next)
      (portion_zero (x ⊖ knot_of g i) low (knot_of g (i + d) ⊖ knot_of g i) (right i (omega arith))
      (wide (i + d) i (omega arith) (omega arith)) p)
      (portion_zero (knot_of g (i + d + 1) ⊖ x) next (knot_of g (i + d + 1) ⊖ knot_of g (i + 1)) (left (i + d + 1) h)
      (wide (i + d + 1) (i + 1) h (omega arith)) q))

  cox_zero : (d k : ℕ) → k + d + 1 ≤ g.intervals + 6 → ((j : ℕ) → k ≤ j → j ≤ k + d → T (is_zero (indicator_of g j x)))
      → T (is_zero (cox_of g d k x))
  unfolding cox_of
  cox_zero zero k h f = f k (le_refl k) (omega arith)
  cox_zero (suc d) k h f =
      blend_zero (suc d) k (cox_of g d k x) (cox_of g d (k + 1) x) h
      (cox_zero d k (omega arith) (λ j p q. f j p (omega arith)))
      (cox_zero d (k + 1) (omega arith) (λ j p q. f j (omega arith) (omega arith)))

  module _ (at : ℕ) (h : at ≤ g.intervals + 5) (l : le (knot_of g at) x ≡ true)
      (u : lt x (knot_of g (at + 1)) ≡ true) where
    pub ind_at : indicator_of g at x ≡ one32
    unfolding indicator_of
    ind_at = rw (l, u)

    ind_off : (j : ℕ) → j ≤ g.intervals + 5 → (j < at) ⊎ (at < j) → indicator_of g j x ≡ zero32
    unfolding indicator_of
    ind_off j k (inl n) =
        let z : lt x (knot_of g (j + 1)) ≡ false =
        le_not_lt (knot_of g (j + 1)) x (knot_finite g s.calm (j + 1) (omega arith)) s.real
        (le_chain (knot_of g (j + 1)) (knot_of g at) x (knot_finite g s.calm (j + 1) (omega arith))
        (knot_finite g s.calm at (omega arith)) s.real
        (knot_mono g s.calm (j + 1) at (omega arith) (omega arith))
        (subst T (sym l) tt)) in
        go (le (knot_of g j) x) z
      where
        go : (b : Bool) → lt x (knot_of g (j + 1)) ≡ false
            → cond b (cond (lt x (knot_of g (j + 1))) one32 zero32) zero32 ≡ zero32
        go true z = rw z
        go false z = refl
    ind_off j k (inr n) = go (le (knot_of g j) x) refl
      where
        go : (b : Bool) → le (knot_of g j) x ≡ b → cond b (cond (lt x (knot_of g (j + 1))) one32 zero32) zero32 ≡ zero32
        go true e =
            absurd (true≢false (sym u ∙ le_not_lt (knot_of g (at + 1)) x
            (knot_finite g s.calm (at + 1) (omega arith)) s.real
            (le_chain (knot_of g (at + 1)) (knot_of g j) x (knot_finite g s.calm (at + 1) (omega arith))
            (knot_finite g s.calm j (omega arith)) s.real
            (knot_mono g s.calm (at + 1) j (omega arith) (omega arith))
            (subst T (sym e) tt))))
        go false e = refl

    pub cox_off : (d k : ℕ) → k + d ≤ g.intervals + 5 → (k + d < at) ⊎ (at < k) → T (is_zero (cox_of g d k x))
    cox_off d k n (inl m) =
        cox_zero d k (omega arith)
        (λ j p q. subst (λ (z : Float). T (is_zero z)) (sym (ind_off j (omega arith) (inl (omega arith)))) zero_zero)
    cox_off d k n (inr m) =
        cox_zero d k (omega arith)
        (λ j p q. subst (λ (z : Float). T (is_zero z)) (sym (ind_off j (omega arith) (inr (omega arith)))) zero_zero)
