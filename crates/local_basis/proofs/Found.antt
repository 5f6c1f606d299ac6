-- What the search for an input's interval needs: what `outside` says, and a knot that is not above. Assumes nothing.
use mathlib.Core.Path.{◌≡◌, refl, sym, ◌∙◌, subst}
use Prim.Native.Nat.{ℕ, ◌+◌, ◌≤◌}
use native.Mathlib.Nat.{le_refl}
use native.Mathlib.Omega.{arith}
use mathlib.Core.Bool.{Bool, true, false, cond, true≢false}
use lib.Dec.{T}
use lib.Ieee.{Float, le, lt, eq}
use lib.Ieee.Bits.{is_true}
use lib.Ieee.Scale.{finite}
use Rattle.floats.specs.Binary32.{zero32}
use Rattle.floats.proofs.Order.{or_l, between, le_chain}
use Rattle.floats.proofs.Finite.{not_lt_le, le_not_lt}
use Rattle.spline.specs.declared.Grid.{Grid}
use Rattle.spline.specs.Spline.{knot_of, cox_of, outside_of, value_of}
use Rattle.local_basis.specs.Meshes.{calm_of, Holds}
use Rattle.local_basis.proofs.Knots.{knot_finite, knot_mono}
use Rattle.local_basis.proofs.Apart.{Inside}

pub yes : {b : Bool} → b ≡ true → T b
yes e = subst T (sym e) tt

pub step_up : (g : Grid) (x : Float) (i : ℕ) → calm_of g ≡ true → finite x ≡ true → i ≤ g.intervals + 6
    → lt x (knot_of g i) ≡ false
    → le (knot_of g i) x ≡ true
step_up g x i t p h e = is_true (le (knot_of g i) x) (not_lt_le (knot_of g i) x (knot_finite g (yes t) i h) (yes p) e)

-- ---- what `outside` says
pub record In (g : Grid) (x : Float) : Type 0 where
  pub real : finite x ≡ true
  pub least : lt x (knot_of g 0) ≡ false
  pub most : le (knot_of g (g.intervals + 6)) x ≡ false

-- what `beyond` answers of the first knot and the last
pub outside_by : (g : Grid) (x a b : Float) (r : Bool) → r ≡ cond (finite x) (cond (lt x a) true (le b x)) true
    → a ≡ knot_of g 0
    → b ≡ knot_of g (g.intervals + 6) → r ≡ outside_of g x
unfolding outside_of
outside_by g x a b r e p q = e ∙ rw (p, q)

pub in_of : (g : Grid) (x : Float) → outside_of g x ≡ false → In g x
unfolding outside_of
in_of g x e = go (finite x) (lt x (knot_of g 0)) (le (knot_of g (g.intervals + 6)) x) refl refl refl e
  where
    go : (a b c : Bool) → finite x ≡ a → lt x (knot_of g 0) ≡ b → le (knot_of g (g.intervals + 6)) x ≡ c
        → cond a (cond b true c) true ≡ false → In g x
    go true true c p q r e = absurd (true≢false e)
    go true false c p q r e = record { real = p; least = q; most = r ∙ e }
    go false b c p q r e = absurd (true≢false e)

module _ (g : Grid) (x : Float) (t : calm_of g ≡ true) (n : In g x) where
  pub first_le : le (knot_of g 0) x ≡ true
  first_le = is_true (le (knot_of g 0) x)
      (not_lt_le (knot_of g 0) x (knot_finite g (yes t) 0 (omega arith)) (yes n.real) n.least)

  pub last_lt : lt x (knot_of g (g.intervals + 6)) ≡ true
  last_lt = go (lt x (knot_of g (g.intervals + 6))) refl
    where
      go : (b : Bool) → lt x (knot_of g (g.intervals + 6)) ≡ b → b ≡ true
      go true e = refl
      go false e =
          absurd (true≢false
          (sym (is_true (le (knot_of g (g.intervals + 6)) x)
          (not_lt_le (knot_of g (g.intervals + 6)) x
          (knot_finite g (yes t) (g.intervals + 6) (le_refl (g.intervals + 6))) (yes n.real)
          e)) ∙ n.most))

  last_le : T (le x (knot_of g (g.intervals + 6)))
  unfolding le
  last_le = or_l (lt x (knot_of g (g.intervals + 6))) (eq x (knot_of g (g.intervals + 6))) (yes last_lt)

  pub inside : Inside g x
  inside = record { calm = yes t; real = yes n.real; least = yes first_le; most = last_le }

-- ---- an x that an interval holds is not outside
module _ (g : Grid) (x : Float) (t : calm_of g ≡ true) (at : ℕ) (h : Holds g x at) where
  finite_knot : (i : ℕ) → i ≤ g.intervals + 6 → T (finite (knot_of g i))
  finite_knot i l = knot_finite g (yes t) i l

  next_le : T (le x (knot_of g (at + 1)))
  unfolding le
  next_le = or_l (lt x (knot_of g (at + 1))) (eq x (knot_of g (at + 1))) (yes h.to)

  real : T (finite x)
  real =
      let l = h.last in
      between (knot_of g at) x (knot_of g (at + 1)) (finite_knot at (omega arith)) (finite_knot (at + 1) (omega arith))
      (yes h.from) next_le

  not_below : lt x (knot_of g 0) ≡ false
  not_below =
      let l = h.last in
      le_not_lt (knot_of g 0) x (finite_knot 0 (omega arith)) real
      (le_chain (knot_of g 0) (knot_of g at) x (finite_knot 0 (omega arith)) (finite_knot at (omega arith)) real
      (knot_mono g (yes t) 0 at (omega arith) (omega arith)) (yes h.from))

  not_above : le (knot_of g (g.intervals + 6)) x ≡ false
  not_above = go (le (knot_of g (g.intervals + 6)) x) refl
    where
      go : (b : Bool) → le (knot_of g (g.intervals + 6)) x ≡ b → b ≡ false
      go false e = refl
      go true e =
          let l = h.last in
          let last = g.intervals + 6 in
          let over = le_chain (knot_of g (at + 1)) (knot_of g last) x (finite_knot (at + 1) (omega arith))
          (finite_knot last (omega arith)) real
          (knot_mono g (yes t) (at + 1) last (omega arith) (omega arith)) (yes e) in
          absurd (true≢false (sym h.to
          ∙ le_not_lt (knot_of g (at + 1)) x (finite_knot (at + 1) (omega arith)) real over))

  pub held_in : outside_of g x ≡ false
  unfolding outside_of
  held_in = rw (is_true (finite x) real, not_below, not_above)

-- ---- the value is the recursion's, or +0.0
pub value_out : (g : Grid) (d i : ℕ) (x : Float) → outside_of g x ≡ true → value_of g d i x ≡ zero32
unfolding value_of
value_out g d i x e = rw e

pub value_in : (g : Grid) (d i : ℕ) (x : Float) → outside_of g x ≡ false → value_of g d i x ≡ cox_of g d i x
unfolding value_of
value_in g d i x e = rw e
