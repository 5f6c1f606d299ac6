-- The four values stand for all. Assumes nothing.
use mathlib.Core.Path.{◌≡◌}
use mathlib.Core.Logic.{◌⊎◌}
use Prim.Native.Nat.{ℕ, ◌+◌, ◌-◌, ◌<◌}
use native.Mathlib.Omega.{arith}
use mathlib.Core.Bool.{true, false}
use lib.Dec.{T}
use lib.Ieee.{Float}
use Rattle.floats.specs.Zeros.{is_zero, Alike}
use Rattle.spline.specs.declared.Grid.{Grid}
use Rattle.spline.specs.Spline.{cox_of, outside_of, value_of}
use Rattle.local_basis.specs.declared.Four.{Four}
use Rattle.local_basis.specs.Meshes.{calm_of, Holds}
use Rattle.local_basis.specs.Fours.{cube_first, cube_second, cube_third, cube_fourth, CubesAt, Values, no_four, placed_of}
use Rattle.local_basis.proofs.Knots.{some_interval}
use Rattle.local_basis.proofs.Apart.{zero_zero, cox_off}
use Rattle.local_basis.proofs.Triangles.{is_3a, is_3b, is_3c, is_3d}
use Rattle.local_basis.proofs.Found.{yes, in_of, inside, value_out, value_in}
use Rattle.local_basis.proofs.Covered.{covers_out, covers_placed}

abbrev values_of : Grid → Float → ℕ → Float
values_of g x k = value_of g 3 k x

module _ (g : Grid) (x : Float) (t : calm_of g ≡ true) where
  pub values_out : outside_of g x ≡ true → Values g x no_four
  values_out e = covers_out g (values_of g x) (some_interval g (yes t)) (λ k l. rw (value_out g 3 k x e) zero_zero)

  module _ (e : outside_of g x ≡ false) (at : ℕ) (h : Holds g x at) where
    off : (k : ℕ) → k < g.intervals + 3 → (k + 3 < at) ⊎ (at < k) → T (is_zero (values_of g x k))
    off k l m = rw (value_in g 3 k x e)
        (cox_off g x (inside g x t (in_of g x e)) at h.last h.from h.to 3 k (omega arith) m)

    -- the triangle's four, moved to indices that the grid has
    pub values_placed : (r : Four) → CubesAt g x at r → Values g x (placed_of g.intervals at r)
    values_placed r p =
        let s = inside g x t (in_of g x e) in
        let lo = h.from in
        let hi = h.to in
        let in-value : (v w : Float) (k : ℕ) → v ≡ w → Alike w (cox_of g 3 k x) → Alike v (values_of g x k) =
        λ v w k q a. rw (q, value_in g 3 k x e) a in
        covers_placed g (values_of g x) at off r (some_interval g (yes t)) h.last p.start
        (λ i. in-value r.first (cube_first g at x) (at - 3) p.first (is_3a g x s at h.last lo hi i))
        (λ i j. in-value r.second (cube_second g at x) (at - 2) p.second (is_3b g x s at h.last lo hi i j))
        (λ i j. in-value r.third (cube_third g at x) (at - 1) p.third (is_3c g x s at h.last lo hi i j))
        (λ j. in-value r.fourth (cube_fourth g at x) at p.fourth (is_3d g x s at h.last lo hi j))
