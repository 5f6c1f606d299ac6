-- The recursion by degree, unrolled: a step on knots at hand is the recursion's step, whatever the knots are. No knot or
-- denominator is asked to be finite or other than zero. Assumes nothing.
use Prim.Native.Nat.{ℕ, suc, ◌+◌}
use mathlib.Core.Path.{◌≡◌, sym, ◌∙◌}
use lib.Ieee.{Float}
use Rattle.spline.specs.declared.Grid.{Grid}
use Rattle.spline.specs.Spline.{knot_of, indicator_of, blend_of, cox_of}
use Rattle.spline.specs.Steps.{indicator_by, blend_by}

-- the recursion's step by knots of given indices
pub blend_is : (g : Grid) (d i : ℕ) (x this next : Float) (b c e : ℕ) → i + 1 ≡ b → i + d ≡ c → i + d + 1 ≡ e
    → blend_of g d i x this next ≡ blend_by (knot_of g i) (knot_of g b) (knot_of g c) (knot_of g e) x this next
unfolding blend_of
blend_is g d i x this next b c e p q r = rw (← p, ← r, ← q)

module _ (g : Grid) (x : Float) where
  pub at_degree_0 : (i b : ℕ) → i + 1 ≡ b → {from to : Float} → from ≡ knot_of g i → to ≡ knot_of g b
      → indicator_by from to x ≡ cox_of g 0 i x
  unfolding cox_of indicator_of
  at_degree_0 i b p k l = rw (k, l, ← p)

  -- degree d + 1 from degree d
  pub a_degree_up : (d i b c e : ℕ) → i + 1 ≡ b → i + suc d ≡ c → i + suc d + 1 ≡ e
      → {k l m n this next : Float} → k ≡ knot_of g i → l ≡ knot_of g b → m ≡ knot_of g c → n ≡ knot_of g e
      → this ≡ cox_of g d i x → next ≡ cox_of g d b x
      → blend_by k l m n x this next ≡ cox_of g (suc d) i x
  unfolding cox_of
  a_degree_up d i b c e p q r k l m n s t =
      rw (k, l, m, n, s, t)
      (sym (blend_is g (suc d) i x (cox_of g d i x) (cox_of g d b x) b c e p q r) ∙ rw (← p))
