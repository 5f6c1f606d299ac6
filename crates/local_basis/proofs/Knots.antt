-- The knots rise, and where their span is finite so is every difference among them and a number between the first and
-- the last. Assumes nothing.
use mathlib.Core.Path.{◌≡◌, subst}
use Prim.Native.Nat.{ℕ, zero, suc, ◌+◌, ◌≤◌, zero-le}
use native.Mathlib.Nat.{le_refl}
use native.Mathlib.Omega.{arith}
use mathlib.Core.Bool.{Bool, true, false, cond}
use lib.IntN.{pos}
use lib.Dec.{T, eqb}
use lib.Ieee.{Float, nan, inf, fin, binary32, div, le, lt, of_bits, of_int}
use lib.Ieee.Scale.{finite}
use Rattle.floats.specs.Binary32.{◌⊖◌, ◌⊗◌, ◌⊘◌, zero32, whole32, less32}
use Rattle.floats.proofs.Order.{upper, between, add_mono, mul_mono, int_mono, sub_finite}
use Rattle.floats.proofs.Finite.{add_left, add_right, sub_left, sub_right, mul_left, mul_right}
use Rattle.spline.specs.declared.Grid.{Grid}
use Rattle.spline.specs.Spline.{width_of, knot_of}
use Rattle.local_basis.specs.Meshes.{calm_of}
use native.Mathlib.Nat.{zero-lt-suc}
use lib.Ieee.{unlike}
use Rattle.floats.proofs.Own.{round_zero}

above_upper : (w : Float) → T (lt zero32 w) → T (upper w)
unfolding lt of_bits
above_upper nan t = absurd t
above_upper (inf true) t = absurd t
above_upper (inf false) t = tt
above_upper (fin true m e) t = absurd t
above_upper (fin false m e) t = tt

none_is : whole32 0 ≡ fin false 0 (pos 0)
unfolding of_int
none_is = round_zero binary32 false 1 (zero-lt-suc 0)

over_zero : (x : Float) → T (finite (x ⊘ fin false 0 (pos 0))) → ⊥
unfolding div
over_zero nan t = t
over_zero (inf s) t = t
over_zero (fin s m e) t = go (eqb m 0) t
  where
    go : (b : Bool) → T (finite (cond b nan (inf (unlike s false)))) → ⊥
    go true t = t
    go false t = t

over_none : (x : Float) → T (finite (x ⊘ whole32 0)) → ⊥
over_none x t = over_zero x (subst (λ (z : Float). T (finite (x ⊘ z))) none_is t)

cond_T : (a b : Bool) → T (cond a b false) → T a × T b
cond_T true b t = (tt, t)
cond_T false b t = absurd t

module _ (g : Grid) (t : T (calm_of g)) where
  test : T (lt zero32 (width_of g)) × T (finite (knot_of g (g.intervals + 6) ⊖ knot_of g 0))
  unfolding calm_of
  test = cond_T (lt zero32 (width_of g)) (finite (knot_of g (g.intervals + 6) ⊖ knot_of g 0)) t

  width_upper : T (upper (width_of g))
  width_upper = above_upper (width_of g) test.0

  span : T (finite (knot_of g (g.intervals + 6) ⊖ knot_of g 0))
  span = test.1

  last_finite : T (finite (knot_of g (g.intervals + 6)))
  last_finite = sub_left (knot_of g (g.intervals + 6)) (knot_of g 0) span

  first_finite : T (finite (knot_of g 0))
  first_finite = sub_right (knot_of g (g.intervals + 6)) (knot_of g 0) span

  abbrev move : ℕ → Float
  move i = less32 i 3 ⊗ width_of g

  lo_finite_lem : T (finite g.lo)
  unfolding knot_of
  lo_finite_lem = add_left g.lo (move 0) first_finite

  move_first : T (finite (move 0))
  unfolding knot_of
  move_first = add_right g.lo (move 0) first_finite

  move_last : T (finite (move (g.intervals + 6)))
  unfolding knot_of
  move_last = add_right g.lo (move (g.intervals + 6)) last_finite

  width_finite : T (finite (width_of g))
  width_finite = mul_right (less32 0 3) (width_of g) move_first

  steps_finite : (i : ℕ) → i ≤ g.intervals + 6 → T (finite (less32 i 3))
  steps_finite i h =
      between (less32 0 3) (less32 i 3) (less32 (g.intervals + 6) 3) (mul_left (less32 0 3) (width_of g) move_first)
      (mul_left (less32 (g.intervals + 6) 3) (width_of g) move_last) (int_mono 0 i 3 zero-le)
      (int_mono i (g.intervals + 6) 3 h)

  move_mono : (i j : ℕ) → i ≤ j → j ≤ g.intervals + 6 → T (le (move i) (move j))
  move_mono i j h k =
      mul_mono (less32 i 3) (less32 j 3) (width_of g) (steps_finite i (omega arith))
      (steps_finite j k) width_finite width_upper
      (int_mono i j 3 h)

  move_finite : (i : ℕ) → i ≤ g.intervals + 6 → T (finite (move i))
  move_finite i h =
      between (move 0) (move i) (move (g.intervals + 6)) move_first move_last (move_mono 0 i zero-le h)
      (move_mono i (g.intervals + 6) h (le_refl (g.intervals + 6)))

  pub knot_mono : (i j : ℕ) → i ≤ j → j ≤ g.intervals + 6 → T (le (knot_of g i) (knot_of g j))
  unfolding knot_of
  knot_mono i j h k = add_mono g.lo (move i) (move j) lo_finite_lem (move_finite i (omega arith)) (move_finite j k)
      (move_mono i j h k)

  pub knot_finite : (i : ℕ) → i ≤ g.intervals + 6 → T (finite (knot_of g i))
  knot_finite i h =
      between (knot_of g 0) (knot_of g i) (knot_of g (g.intervals + 6)) first_finite last_finite (knot_mono 0 i zero-le h)
      (knot_mono i (g.intervals + 6) h (le_refl (g.intervals + 6)))

  pub gap : (i j : ℕ) → i ≤ g.intervals + 6 → j ≤ g.intervals + 6 → T (finite (knot_of g i ⊖ knot_of g j))
  gap i j h k =
      sub_finite (knot_of g 0) (knot_of g (g.intervals + 6)) (knot_of g i) (knot_of g j) first_finite last_finite
      (knot_finite i h)
      (knot_finite j k) span
      (knot_mono 0 i zero-le h) (knot_mono i (g.intervals + 6) h (le_refl (g.intervals + 6)))
      (knot_mono 0 j zero-le k)
      (knot_mono j (g.intervals + 6) k (le_refl (g.intervals + 6)))

  pub from : (x : Float) (i : ℕ) → T (finite x) → T (le (knot_of g 0) x) → T (le x (knot_of g (g.intervals + 6)))
      → i ≤ g.intervals + 6
      → T (finite (x ⊖ knot_of g i))
  from x i p a b h =
      sub_finite (knot_of g 0) (knot_of g (g.intervals + 6)) x (knot_of g i) first_finite last_finite p
      (knot_finite i h) span
      a b (knot_mono 0 i zero-le h) (knot_mono i (g.intervals + 6) h (le_refl (g.intervals + 6)))

  pub to : (x : Float) (i : ℕ) → T (finite x) → T (le (knot_of g 0) x) → T (le x (knot_of g (g.intervals + 6)))
      → i ≤ g.intervals + 6
      → T (finite (knot_of g i ⊖ x))
  to x i p a b h =
      sub_finite (knot_of g 0) (knot_of g (g.intervals + 6)) (knot_of g i) x first_finite last_finite
      (knot_finite i h) p span
      (knot_mono 0 i zero-le h) (knot_mono i (g.intervals + 6) h (le_refl (g.intervals + 6))) a b

  -- there is an interval: over none the width is no finite number
  pub some_interval : 1 ≤ g.intervals
  unfolding width_of
  some_interval = go g.intervals width_finite
    where
      go : (n : ℕ) → T (finite ((g.hi ⊖ g.lo) ⊘ whole32 n)) → 1 ≤ n
      go zero t = absurd (over_none (g.hi ⊖ g.lo) t)
      go (suc n) t = omega arith
