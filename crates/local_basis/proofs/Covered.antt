-- Four neighbours of F stand for all of its numbers where the others are zeros, at the ends and within.
-- Assumes nothing.
use mathlib.Core.Path.{◌≡◌, refl, subst, ◌∙◌}
use mathlib.Core.Logic.{◌⊎◌, inl, inr}
use Prim.Native.Nat.{ℕ, zero, suc, ◌+◌, ◌-◌, ◌≤◌, ◌<◌}
use native.Mathlib.Omega.{arith}
use lib.Dec.{T}
use lib.Ieee.{Float}
use Rattle.floats.specs.Binary32.{zero32}
use Rattle.floats.specs.Zeros.{is_zero, Alike}
use Rattle.spline.specs.declared.Grid.{Grid}
use Rattle.local_basis.specs.declared.Four.{Four}
use Rattle.local_basis.specs.Fours.{Neighbours, no_four, Covers, down_by, up_by, placed_of}
use Rattle.local_basis.proofs.Apart.{zero_zero}

module _ (g : Grid) (F : ℕ → Float) where
  pub covers_out : 1 ≤ g.intervals → ((k : ℕ) → k < g.intervals + 3 → T (is_zero (F k)))
      → Covers (g.intervals + 3) F no_four
  covers_out h z = record {
    fit = omega arith;
    first = inr (zero_zero, z 0 (omega arith));
    second = inr (zero_zero, z (0 + 1) (omega arith));
    third = inr (zero_zero, z (0 + 2) (omega arith));
    fourth = inr (zero_zero, z (0 + 3) (omega arith));
    below = λ k l. absurd (omega arith);
    above = λ k l m. z k m;
  }

  module _ (at : ℕ) (off : (k : ℕ) → k < g.intervals + 3 → (k + 3 < at) ⊎ (at < k) → T (is_zero (F k))) where
    covers : (f : ℕ) (a b c d : Float) (r : Four) → f + 4 ≤ g.intervals + 3 → Neighbours f a b c d r
        → Alike a (F f) → Alike b (F (f + 1)) → Alike c (F (f + 2)) → Alike d (F (f + 3))
        → ((k : ℕ) → k < f → k + 3 < at) → ((k : ℕ) → f + 4 ≤ k → k < g.intervals + 3 → at < k)
        → Covers (g.intervals + 3) F r
    covers f a b c d r h p pa pb pc pd lo hi = record {
      fit = omega (arith, p.start);
      first = rw (p.first, p.start) pa;
      second = rw (p.second, p.start) pb;
      third = rw (p.third, p.start) pc;
      fourth = rw (p.fourth, p.start) pd;
      below = λ k m. off k (omega (arith, p.start)) (inl (lo k (omega (arith, p.start))));
      above = λ k m n. off k n (inr (hi k (omega (arith, p.start)) n));
    }

    -- the four of the triangle, as far as each has an index that the grid has
    module _ (r : Four) (n : 1 ≤ g.intervals) (m : at ≤ g.intervals + 5) (p : r.start ≡ at - 3)
        (pa : 3 ≤ at → Alike r.first (F (at - 3))) (pb : 2 ≤ at → at ≤ g.intervals + 4
        → Alike r.second (F (at - 2)))
        (pc : 1 ≤ at → at ≤ g.intervals + 3 → Alike r.third (F (at - 1))) (pd : at ≤ g.intervals + 2
        → Alike r.fourth (F at)) where
      -- a number of F under another name of its index, and a zero
      is : (v : Float) (k j : ℕ) → k ≡ j → Alike v (F k) → Alike v (F j)
      is v k j e a = subst (λ (i : ℕ). Alike v (F i)) e a

      nil : (k : ℕ) → k < g.intervals + 3 → (k + 3 < at) ⊎ (at < k) → Alike zero32 (F k)
      nil k l o = inr (zero_zero, off k l o)

      inner : 3 ≤ at → at ≤ g.intervals + 2 → Covers (g.intervals + 3) F r
      inner h l =
          covers (at - 3) r.first r.second r.third r.fourth r (omega arith)
          (record { start = p; first = refl; second = refl; third = refl; fourth = refl })
          (pa h) (is r.second (at - 2) (at - 3 + 1) (omega arith) (pb (omega arith) (omega arith)))
          (is r.third (at - 1) (at - 3 + 2) (omega arith) (pc (omega arith) (omega arith)))
          (is r.fourth at (at - 3 + 3) (omega arith) (pd l)) (λ k o. omega arith) (λ k o q. omega arith)

      down_1 : at ≡ 2 → Covers (g.intervals + 3) F (down_by 1 r)
      unfolding down_by
      down_1 e =
          covers 0 r.second r.third r.fourth zero32 (down_by 1 r) (omega arith)
          (record { start = p ∙ omega (arith, e); first = refl; second = refl; third = refl; fourth = refl })
          (is r.second (at - 2) 0 (omega (arith, e)) (pb (omega (arith, e)) (omega (arith, e))))
          (is r.third (at - 1) 1 (omega (arith, e)) (pc (omega (arith, e)) (omega (arith, e))))
          (is r.fourth at 2 e (pd (omega (arith, e))))
          (nil 3 (omega arith) (inr (omega (arith, e)))) (λ k o. absurd (omega arith)) (λ k o q. omega (arith, e))

      down_2 : at ≡ 1 → Covers (g.intervals + 3) F (down_by 2 r)
      unfolding down_by
      down_2 e =
          covers 0 r.third r.fourth zero32 zero32 (down_by 2 r) (omega arith)
          (record { start = p ∙ omega (arith, e); first = refl; second = refl; third = refl; fourth = refl })
          (is r.third (at - 1) 0 (omega (arith, e)) (pc (omega (arith, e)) (omega (arith, e))))
          (is r.fourth at 1 e (pd (omega (arith, e))))
          (nil 2 (omega arith) (inr (omega (arith, e)))) (nil 3 (omega arith) (inr (omega (arith, e))))
          (λ k o. absurd (omega arith)) (λ k o q. omega (arith, e))

      down_3 : at ≡ 0 → Covers (g.intervals + 3) F (down_by 3 r)
      unfolding down_by
      down_3 e =
          covers 0 r.fourth zero32 zero32 zero32 (down_by 3 r) (omega arith)
          (record { start = p ∙ omega (arith, e); first = refl; second = refl; third = refl; fourth = refl })
          (is r.fourth at 0 e (pd (omega (arith, e))))
          (nil 1 (omega arith) (inr (omega (arith, e)))) (nil 2 (omega arith) (inr (omega (arith, e))))
          (nil 3 (omega arith) (inr (omega (arith, e)))) (λ k o. absurd (omega arith)) (λ k o q. omega (arith, e))

      up_1 : at ≡ g.intervals + 3 → Covers (g.intervals + 3) F (up_by 1 r)
      unfolding up_by
      up_1 e =
          covers (g.intervals - 1) zero32 r.first r.second r.third (up_by 1 r) (omega arith)
          (record { start = omega (arith, p, e); first = refl; second = refl; third = refl; fourth = refl })
          (nil (g.intervals - 1) (omega arith) (inl (omega (arith, e))))
          (is r.first (at - 3) (g.intervals - 1 + 1) (omega (arith, e)) (pa (omega (arith, e))))
          (is r.second (at - 2) (g.intervals - 1 + 2) (omega (arith, e)) (pb (omega (arith, e)) (omega (arith, e))))
          (is r.third (at - 1) (g.intervals - 1 + 3) (omega (arith, e)) (pc (omega (arith, e)) (omega (arith, e))))
          (λ k o. omega (arith, e)) (λ k o q. absurd (omega arith))

      up_2 : at ≡ g.intervals + 4 → Covers (g.intervals + 3) F (up_by 2 r)
      unfolding up_by
      up_2 e =
          covers (g.intervals - 1) zero32 zero32 r.first r.second (up_by 2 r) (omega arith)
          (record { start = omega (arith, p, e); first = refl; second = refl; third = refl; fourth = refl })
          (nil (g.intervals - 1) (omega arith) (inl (omega (arith, e))))
          (nil (g.intervals - 1 + 1) (omega arith) (inl (omega (arith, e))))
          (is r.first (at - 3) (g.intervals - 1 + 2) (omega (arith, e)) (pa (omega (arith, e))))
          (is r.second (at - 2) (g.intervals - 1 + 3) (omega (arith, e)) (pb (omega (arith, e)) (omega (arith, e))))
          (λ k o. omega (arith, e)) (λ k o q. absurd (omega arith))

      up_3 : at ≡ g.intervals + 5 → Covers (g.intervals + 3) F (up_by 3 r)
      unfolding up_by
      up_3 e =
          covers (g.intervals - 1) zero32 zero32 zero32 r.first (up_by 3 r) (omega arith)
          (record { start = omega (arith, p, e); first = refl; second = refl; third = refl; fourth = refl })
          (nil (g.intervals - 1) (omega arith) (inl (omega (arith, e))))
          (nil (g.intervals - 1 + 1) (omega arith) (inl (omega (arith, e))))
          (nil (g.intervals - 1 + 2) (omega arith) (inl (omega (arith, e))))
          (is r.first (at - 3) (g.intervals - 1 + 3) (omega (arith, e)) (pa (omega (arith, e))))
          (λ k o. omega (arith, e)) (λ k o q. absurd (omega arith))

      -- one of the seven, by how far down and up the four are moved
      by : (d u : ℕ) → 3 - at ≡ d → at - (g.intervals + 2) ≡ u → Covers (g.intervals + 3) F (up_by u (down_by d r))
      unfolding down_by up_by
      by zero zero h l = inner (omega (arith, h)) (omega (arith, l))
      by zero (suc zero) h l = up_1 (omega (arith, l))
      by zero (suc (suc zero)) h l = up_2 (omega (arith, l))
      by zero (suc (suc (suc zero))) h l = up_3 (omega (arith, l))
      by zero (suc (suc (suc (suc u)))) h l = absurd (omega (arith, l))
      by (suc zero) zero h l = down_1 (omega (arith, h))
      by (suc (suc zero)) zero h l = down_2 (omega (arith, h))
      by (suc (suc (suc zero))) zero h l = down_3 (omega (arith, h))
      by (suc d) (suc u) h l = absurd (omega (arith, h, l))
      by (suc (suc (suc (suc d)))) zero h l = absurd (omega (arith, h))

      pub covers_placed : Covers (g.intervals + 3) F (placed_of g.intervals at r)
      covers_placed = by (3 - at) (at - (g.intervals + 2)) refl refl
