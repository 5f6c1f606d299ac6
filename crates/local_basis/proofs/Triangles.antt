-- The triangle on six knots gives the recursion's values. Assumes nothing.
use mathlib.Core.Path.{◌≡◌, refl, sym, subst}
use mathlib.Core.Logic.{◌⊎◌, inl, inr}
use Prim.Native.Nat.{ℕ, suc, ◌+◌, ◌-◌, ◌≤◌, ◌<◌}
use native.Mathlib.Omega.{arith}
use mathlib.Core.Bool.{true}
use lib.Dec.{T}
use lib.Ieee.{Float, le, lt}
use Rattle.floats.specs.Binary32.{◌⊕◌, ◌⊖◌, one32}
use Rattle.floats.specs.Zeros.{is_zero, Alike}
use Rattle.floats.proofs.Alike.{alike_before, alike_after, alike_sym, alike_chain, alike_adds}
use Rattle.spline.specs.declared.Grid.{Grid}
use Rattle.spline.specs.Spline.{knot_of, cox_of}
use Rattle.spline.specs.Steps.{rising_of, falling_of, blend_by}
use Rattle.spline.proofs.Unrolled.{blend_is}
use Rattle.local_basis.specs.Fours.{linear_low, linear_high, square_low, square_middle, square_high, cube_first, cube_second, cube_third}
use Rattle.local_basis.specs.Fours.{cube_fourth}
use Rattle.local_basis.proofs.Apart.{portion_fits, portion_zero, portion_alike, Inside, right, left, wide, ind_at, cox_off}

module _ (g : Grid) (x : Float) (s : Inside g x) where
  -- the lower value is a zero: only the second part is left
  step_right : (d i b e : ℕ) (n : Float) → i + 1 ≡ b → i + suc d + 1 ≡ e → e ≤ g.intervals + 6
      → T (is_zero (cox_of g d i x))
      → Alike n (cox_of g d b x)
      → Alike (falling_of (knot_of g b) (knot_of g e) x n) (cox_of g (suc d) i x)
  unfolding cox_of
  step_right d i b e n p q h z a =
      let u = rising_of (knot_of g i) (knot_of g (i + suc d)) x (cox_of g d i x) in
      let v = falling_of (knot_of g b) (knot_of g e) x (cox_of g d (i + 1) x) in
      let a' : Alike n (cox_of g d (i + 1) x) = subst (λ (k : ℕ). Alike n (cox_of g d k x)) (sym p) a in
      subst (λ (y : Float). Alike (falling_of (knot_of g b) (knot_of g e) x n) y)
      (sym (blend_is g (suc d) i x (cox_of g d i x) (cox_of g d (i + 1) x) b (i + suc d) e p refl q))
      (alike_chain (falling_of (knot_of g b) (knot_of g e) x n) v (u ⊕ v)
      (portion_alike (knot_of g e ⊖ x) n (cox_of g d (i + 1) x) (knot_of g e ⊖ knot_of g b)
      (wide g x s e b h (omega arith)) a')
      (alike_sym (u ⊕ v) v (alike_before u v
      (portion_fits (knot_of g e ⊖ x) (cox_of g d (i + 1) x) (knot_of g e ⊖ knot_of g b))
      (portion_zero (x ⊖ knot_of g i) (cox_of g d i x) (knot_of g (i + suc d) ⊖ knot_of g i) (right g x s i (omega arith))
      (wide g x s (i + suc d) i (omega arith) (omega arith)) z))))

  -- the next value is a zero: only the first part is left
  step_left : (d i b c : ℕ) (n : Float) → i + 1 ≡ b → i + suc d ≡ c → c + 1 ≤ g.intervals + 6 → Alike n (cox_of g d i x)
      → T (is_zero (cox_of g d b x))
      → Alike (rising_of (knot_of g i) (knot_of g c) x n) (cox_of g (suc d) i x)
  unfolding cox_of
  step_left d i b c n p q h a z =
      let e = i + suc d + 1 in
      let u = rising_of (knot_of g i) (knot_of g c) x (cox_of g d i x) in
      let v = falling_of (knot_of g b) (knot_of g e) x (cox_of g d (i + 1) x) in
      let z' : T (is_zero (cox_of g d (i + 1) x)) = subst (λ (k : ℕ). T (is_zero (cox_of g d k x))) (sym p) z in
      subst (λ (y : Float). Alike (rising_of (knot_of g i) (knot_of g c) x n) y)
      (sym (blend_is g (suc d) i x (cox_of g d i x) (cox_of g d (i + 1) x) b c e p q refl))
      (alike_chain (rising_of (knot_of g i) (knot_of g c) x n) u (u ⊕ v)
      (portion_alike (x ⊖ knot_of g i) n (cox_of g d i x) (knot_of g c ⊖ knot_of g i)
      (wide g x s c i (omega arith) (omega arith)) a)
      (alike_sym (u ⊕ v) u (alike_after v u (portion_fits (x ⊖ knot_of g i) (cox_of g d i x) (knot_of g c ⊖ knot_of g i))
      (portion_zero (knot_of g e ⊖ x) (cox_of g d (i + 1) x) (knot_of g e ⊖ knot_of g b) (left g x s e (omega arith))
      (wide g x s e b (omega arith) (omega arith)) z'))))

  step_both : (d i b c e : ℕ) (m n : Float) → i + 1 ≡ b → i + suc d ≡ c → i + suc d + 1 ≡ e → e ≤ g.intervals + 6
      → Alike m (cox_of g d i x)
      → Alike n (cox_of g d b x)
      → Alike (blend_by (knot_of g i) (knot_of g b) (knot_of g c) (knot_of g e) x m n) (cox_of g (suc d) i x)
  unfolding cox_of
  step_both d i b c e m n p q r h a a' =
      subst (λ (y : Float). Alike (blend_by (knot_of g i) (knot_of g b) (knot_of g c) (knot_of g e) x m n) y)
      (sym (blend_is g (suc d) i x (cox_of g d i x) (cox_of g d (i + 1) x) b c e p q r))
      (alike_adds (rising_of (knot_of g i) (knot_of g c) x m)
      (rising_of (knot_of g i) (knot_of g c) x (cox_of g d i x))
      (falling_of (knot_of g b) (knot_of g e) x n)
      (falling_of (knot_of g b) (knot_of g e) x (cox_of g d (i + 1) x))
      (portion_fits (x ⊖ knot_of g i) (cox_of g d i x) (knot_of g c ⊖ knot_of g i))
      (portion_fits (knot_of g e ⊖ x) n (knot_of g e ⊖ knot_of g b))
      (portion_alike (x ⊖ knot_of g i) m (cox_of g d i x) (knot_of g c ⊖ knot_of g i)
      (wide g x s c i (omega arith) (omega arith)) a)
      (portion_alike (knot_of g e ⊖ x) n (cox_of g d (i + 1) x) (knot_of g e ⊖ knot_of g b)
      (wide g x s e b (omega arith) (omega arith))
      (subst (λ (k : ℕ). Alike n (cox_of g d k x)) (sym p) a')))

  module _ (a : ℕ) (h : a ≤ g.intervals + 5) (l : le (knot_of g a) x ≡ true) (u : lt x (knot_of g (a + 1)) ≡ true) where
    one : Alike one32 (cox_of g 0 a x)
    unfolding cox_of
    one = inl (sym (ind_at g x s a h l u))

    off : (d k : ℕ) → k + d ≤ g.intervals + 5 → (k + d < a) ⊎ (a < k) → T (is_zero (cox_of g d k x))
    off d k n m = cox_off g x s a h l u d k n m

    is_1a : 1 ≤ a → Alike (linear_low g a x) (cox_of g 1 (a - 1) x)
    is_1a i =
        step_right 0 (a - 1) a (a + 1) one32 (omega arith) (omega arith) (omega arith)
        (off 0 (a - 1) (omega arith) (inl (omega arith))) one

    is_1b : a ≤ g.intervals + 4 → Alike (linear_high g a x) (cox_of g 1 a x)
    is_1b j =
        step_left 0 a (a + 1) (a + 1) one32 refl (omega arith) (omega arith) one
        (off 0 (a + 1) (omega arith) (inr (omega arith)))

    pub is_2a : 2 ≤ a → Alike (square_low g a x) (cox_of g 2 (a - 2) x)
    unfolding square_low
    is_2a i =
        step_right 1 (a - 2) (a - 1) (a + 1) (linear_low g a x) (omega arith) (omega arith) (omega arith)
        (off 1 (a - 2) (omega arith) (inl (omega arith))) (is_1a (omega arith))

    pub is_2b : 1 ≤ a → a ≤ g.intervals + 4 → Alike (square_middle g a x) (cox_of g 2 (a - 1) x)
    unfolding square_middle
    is_2b i j =
        step_both 1 (a - 1) a (a + 1) (a + 2) (linear_low g a x) (linear_high g a x) (omega arith) (omega arith)
        (omega arith)
        (omega arith) (is_1a i) (is_1b j)

    pub is_2c : a ≤ g.intervals + 3 → Alike (square_high g a x) (cox_of g 2 a x)
    unfolding square_high
    is_2c j =
        step_left 1 a (a + 1) (a + 2) (linear_high g a x) refl (omega arith) (omega arith) (is_1b (omega arith))
        (off 1 (a + 1) (omega arith) (inr (omega arith)))

    pub is_3a : 3 ≤ a → Alike (cube_first g a x) (cox_of g 3 (a - 3) x)
    unfolding cube_first
    is_3a i =
        step_right 2 (a - 3) (a - 2) (a + 1) (square_low g a x) (omega arith) (omega arith) (omega arith)
        (off 2 (a - 3) (omega arith) (inl (omega arith))) (is_2a (omega arith))

    pub is_3b : 2 ≤ a → a ≤ g.intervals + 4 → Alike (cube_second g a x) (cox_of g 3 (a - 2) x)
    unfolding cube_second
    is_3b i j =
        step_both 2 (a - 2) (a - 1) (a + 1) (a + 2) (square_low g a x) (square_middle g a x) (omega arith) (omega arith)
        (omega arith)
        (omega arith) (is_2a i) (is_2b (omega arith) j)

    pub is_3c : 1 ≤ a → a ≤ g.intervals + 3 → Alike (cube_third g a x) (cox_of g 3 (a - 1) x)
    unfolding cube_third
    is_3c i j =
        step_both 2 (a - 1) a (a + 2) (a + 3) (square_middle g a x) (square_high g a x) (omega arith) (omega arith)
        (omega arith)
        (omega arith) (is_2b i (omega arith)) (is_2c j)

    pub is_3d : a ≤ g.intervals + 2 → Alike (cube_fourth g a x) (cox_of g 3 a x)
    unfolding cube_fourth
    is_3d j =
        step_left 2 a (a + 1) (a + 3) (square_high g a x) refl (omega arith) (omega arith) (is_2c (omega arith))
        (off 2 (a + 1) (omega arith) (inr (omega arith)))
