-- The four slopes stand for all. Assumes nothing.
use mathlib.Core.Path.{◌≡◌, refl, sym, subst}
use mathlib.Core.Logic.{◌⊎◌, inl, inr}
use Prim.Native.Nat.{ℕ, ◌+◌, ◌-◌, ◌≤◌, ◌<◌}
use native.Mathlib.Omega.{arith}
use mathlib.Core.Bool.{true, false}
use lib.Dec.{T}
use lib.Ieee.{Float, binary32, sub, fits, of_bits}
use lib.Ieee.Bits.{of_bits-fits}
use lib.Ieee.Scale.{finite}
use Rattle.floats.specs.Binary32.{◌⊖◌, zero32, three32}
use Rattle.floats.specs.Zeros.{is_zero, Alike}
use Rattle.floats.proofs.Alike.{alike_zero, alike_subs}
use Rattle.spline.specs.declared.Grid.{Grid}
use Rattle.spline.specs.Spline.{knot_of, portion_of, cox_of, outside_of, rise_of, slope_of}
use Rattle.local_basis.specs.declared.Four.{Four}
use Rattle.local_basis.specs.Meshes.{calm_of, Holds}
use Rattle.local_basis.specs.Fours.{square_low, square_middle, square_high, rise_low, rise_middle, rise_high, RisesAt}
use Rattle.local_basis.specs.Fours.{Slopes, no_four, placed_of}
use Rattle.local_basis.proofs.Knots.{gap, some_interval}
use Rattle.local_basis.proofs.Apart.{zero_zero, portion_fits, portion_zero, portion_alike, cox_off}
use Rattle.local_basis.proofs.Triangles.{is_2a, is_2b, is_2c}
use Rattle.local_basis.proofs.Found.{yes, in_of, inside}
use Rattle.local_basis.proofs.Covered.{covers_out, covers_placed}

three_real : T (finite three32)
unfolding of_bits
three_real = tt

none : T (is_zero (zero32 ⊖ zero32))
unfolding sub of_bits
none = tt

-- a part of a slope
abbrev tip : Grid → ℕ → ℕ → Float → Float
tip g i j v = portion_of three32 v (knot_of g j ⊖ knot_of g i)

slope_is : (g : Grid) (i : ℕ) (x : Float) (b c e : ℕ) → i + 1 ≡ b → i + 3 ≡ c → i + 4 ≡ e → outside_of g x ≡ false
    → slope_of g i x ≡ tip g i c (cox_of g 2 i x) ⊖ tip g b e (cox_of g 2 b x)
unfolding rise_of slope_of
slope_is g i x b c e p q r o =
    rw (o, ← p, ← q, ← r)

slope_out : (g : Grid) (x : Float) → outside_of g x ≡ true → (k : ℕ) → T (is_zero (slope_of g k x))
unfolding slope_of
slope_out g x o k = rw o zero_zero

module _ (g : Grid) (x : Float) (t : calm_of g ≡ true) where
  pub slopes_out : outside_of g x ≡ true → Slopes g x no_four
  slopes_out o = covers_out g (λ (k : ℕ). slope_of g k x) (some_interval g (yes t)) (λ k l. slope_out g x o k)

  span : (i j : ℕ) → i ≤ g.intervals + 6 → j ≤ g.intervals + 6 → T (finite (knot_of g i ⊖ knot_of g j))
  span i j h k = gap g (yes t) i j h k

  tip_zero : (i j : ℕ) (v : Float) → i ≤ g.intervals + 6 → j ≤ g.intervals + 6 → T (is_zero v)
      → T (is_zero (tip g i j v))
  tip_zero i j v h k z = portion_zero three32 v (knot_of g j ⊖ knot_of g i) three_real (span j i k h) z

  module _ (o : outside_of g x ≡ false) where
    -- both parts alike
    slope_alike : (i b c e : ℕ) (m n : Float) → i + 1 ≡ b → i + 3 ≡ c → i + 4 ≡ e → Alike m (tip g i c (cox_of g 2 i x))
        → Alike n (tip g b e (cox_of g 2 b x)) → T (fits binary32 n) → Alike (m ⊖ n) (slope_of g i x)
    slope_alike i b c e m n p q r u v f =
        subst (λ (y : Float). Alike (m ⊖ n) y) (sym (slope_is g i x b c e p q r o))
        (alike_subs m (tip g i c (cox_of g 2 i x)) n (tip g b e (cox_of g 2 b x))
        (portion_fits three32 (cox_of g 2 i x) (knot_of g c ⊖ knot_of g i)) f u v)

    slope_zero : (i : ℕ) → i < g.intervals + 3 → T (is_zero (cox_of g 2 i x)) → T (is_zero (cox_of g 2 (i + 1) x))
        → T (is_zero (slope_of g i x))
    slope_zero i h p q =
        alike_zero (zero32 ⊖ zero32) (slope_of g i x)
        (slope_alike i (i + 1) (i + 3) (i + 4) zero32 zero32 refl refl refl
        (inr (zero_zero, tip_zero i (i + 3) (cox_of g 2 i x) (omega arith) (omega arith) p))
        (inr (zero_zero, tip_zero (i + 1) (i + 4) (cox_of g 2 (i + 1) x) (omega arith) (omega arith) q))
        (of_bits-fits binary32 0))
        none

    module _ (at : ℕ) (h : Holds g x at) where
      flat : (k : ℕ) → k + 2 ≤ g.intervals + 5 → (k + 2 < at) ⊎ (at < k) → T (is_zero (cox_of g 2 k x))
      flat k l m = cox_off g x (inside g x t (in_of g x o)) at h.last h.from h.to 2 k l m

      off : (k : ℕ) → k < g.intervals + 3 → (k + 3 < at) ⊎ (at < k) → T (is_zero (slope_of g k x))
      off k l (inl m) = slope_zero k l (flat k (omega arith) (inl (omega arith)))
          (flat (k + 1) (omega arith) (inl (omega arith)))
      off k l (inr m) = slope_zero k l (flat k (omega arith) (inr (omega arith)))
          (flat (k + 1) (omega arith) (inr (omega arith)))

      -- the three quotients, where their values of degree 2 are there
      in_tip : (i j : ℕ) (v : Float) → i ≤ g.intervals + 6 → j ≤ g.intervals + 6 → Alike v (cox_of g 2 i x)
          → Alike (tip g i j v) (tip g i j (cox_of g 2 i x))
      in_tip i j v a b c =
          portion_alike three32 v (cox_of g 2 i x) (knot_of g j ⊖ knot_of g i) (span j i b a) c

      low : 2 ≤ at → Alike (rise_low g at x) (tip g (at - 2) (at + 1) (cox_of g 2 (at - 2) x))
      low i =
          in_tip (at - 2) (at + 1) (square_low g at x) (omega (arith, h.last)) (omega (arith, h.last))
          (is_2a g x (inside g x t (in_of g x o)) at h.last h.from h.to i)

      middle : 1 ≤ at → at ≤ g.intervals + 4
          → Alike (rise_middle g at x) (tip g (at - 1) (at + 2) (cox_of g 2 (at - 1) x))
      middle i j =
          in_tip (at - 1) (at + 2) (square_middle g at x) (omega arith) (omega arith)
          (is_2b g x (inside g x t (in_of g x o)) at h.last h.from h.to i j)

      high : at ≤ g.intervals + 3 → Alike (rise_high g at x) (tip g at (at + 3) (cox_of g 2 at x))
      high j =
          in_tip at (at + 3) (square_high g at x) (omega arith) (omega arith)
          (is_2c g x (inside g x t (in_of g x o)) at h.last h.from h.to j)

      held : (i j : ℕ) (v : Float) → T (fits binary32 (tip g i j v))
      held i j v = portion_fits three32 v (knot_of g j ⊖ knot_of g i)

      -- the triangle's four, moved to indices that the grid has
      pub slopes_placed : (r : Four) → RisesAt g x at r → Slopes g x (placed_of g.intervals at r)
      slopes_placed r p =
          let nil : (i j : ℕ) → i ≤ g.intervals + 3 → j ≤ g.intervals + 6 → (i + 2 < at) ⊎ (at < i)
          → Alike zero32 (tip g i j (cox_of g 2 i x)) =
          λ i j a b away. inr (zero_zero, tip_zero i j (cox_of g 2 i x) (omega arith) b (flat i (omega arith) away)) in
          covers_placed g (λ (k : ℕ). slope_of g k x) at off r (some_interval g (yes t)) h.last p.start
          (λ i. rw p.first (slope_alike (at - 3) (at - 2) at (at + 1) zero32 (rise_low g at x) (omega arith)
          (omega arith) (omega arith)
          (nil (at - 3) at (omega (arith, h.last)) (omega (arith, h.last)) (inl (omega arith))) (low (omega arith))
          (held (at - 2) (at + 1) (square_low g at x))))
          (λ i j. rw p.second (slope_alike (at - 2) (at - 1) (at + 1) (at + 2) (rise_low g at x) (rise_middle g at x)
          (omega arith)
          (omega arith) (omega arith) (low i) (middle (omega arith) j) (held (at - 1) (at + 2) (square_middle g at x))))
          (λ i j. rw p.third (slope_alike (at - 1) at (at + 2) (at + 3) (rise_middle g at x) (rise_high g at x)
          (omega arith) (omega arith)
          (omega arith) (middle i (omega arith)) (high j) (held at (at + 3) (square_high g at x))))
          (λ j. rw p.fourth (slope_alike at (at + 1) (at + 3) (at + 4) (rise_high g at x) zero32 refl refl refl
          (high (omega arith))
          (nil (at + 1) (at + 4) (omega arith) (omega arith) (inr (omega arith))) (of_bits-fits binary32 0)))
