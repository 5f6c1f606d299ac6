-- One edge back by four slopes, where it lies among a layer's, and the sum over the outputs. Assumes nothing.
use mathlib.Core.Path.{◌≡◌, sym, ap, ◌∙◌}
use Prim.Native.Nat.{ℕ, ◌+◌, ◌*◌, ◌≤◌}
use native.Mathlib.Nat.{mul_assoc, add-mul}
use native.Mathlib.Omega.{arith}
use mathlib.Core.List.{List}
use lib.ListN.{drop}
use lib.Seq.{drop-drop}
use lib.Ieee.{Float}
use Rattle.floats.specs.Binary32.{◌⊕◌, ◌⊗◌, zero32}
use Rattle.floats.specs.Sums.{sum_to, at}
use Rattle.floats.proofs.Sums.{sum_ext}
use Rattle.spline.specs.declared.Grid.{Grid}
use Rattle.spline.specs.Spline.{slope_of}
use Rattle.spline.specs.Activation.{silu_derivative_of}
use Rattle.local_basis.specs.declared.Four.{Four}
use Rattle.local_basis.specs.Fours.{Covers, Slopes, four_dot, Finite}
use Rattle.local_basis.proofs.Dots.{dot_four, shift_dot, finite_drop}
use Rattle.layers.specs.Net.{basis_of}
use Rattle.layers.specs.Layer.{dot_of}
use Rattle.fast_forward.specs.Inputs.{edge_four, Edges}
use Rattle.fast_forward.proofs.Edges.{edge_finite}
use Rattle.gradients.specs.Gradient.{back_of}
use Rattle.fast_backward.specs.InputGradients.{back_at, back_four}

-- the coefficients stand behind an edge's two weights
pub curve_is : (n m : ℕ) (F : ℕ → Float) (ps : List Float) (r : Four) → 2 + n ≤ m → Covers n F r → Finite m ps
    → four_dot ps (r.start + 2) r ≡ sum_to (λ (k : ℕ). at (drop 2 ps) k ⊗ F k) n
curve_is n m F ps r h v p =
    let q : r.start + 2 ≡ 2 + r.start = omega arith in
    ap (λ (k : ℕ). four_dot ps k r) q ∙ shift_dot ps 2 r.start r
    ∙ dot_four n F (drop 2 ps) r v (finite_drop 2 n m ps p h)

pub back_is : (g : Grid) (ps : List Float) (x s up : Float) (r : Four) → s ≡ silu_derivative_of x → Slopes g x r
    → Finite (g.intervals + 5) ps
    → up ⊗ edge_four ps s r ≡ back_of (basis_of g) ps x up
unfolding back_of dot_of
back_is g ps x s up r e v p =
    ap (λ (y : Float). up ⊗ ((at ps 0 ⊗ y) ⊕ (at ps 1 ⊗ four_dot ps (r.start + 2) r))) e
    ∙ ap (λ (y : Float). up ⊗ ((at ps 0 ⊗ silu_derivative_of x) ⊕ (at ps 1 ⊗ y)))
    (curve_is (g.intervals + 3) (g.intervals + 5) (λ (k : ℕ). slope_of g k x) ps r (omega arith) v p)

-- the two ways to an edge
pub edge_place : (ps : List Float) (o w i s : ℕ) → drop (i * s) (drop (o * (w * s)) ps) ≡ drop ((o * w + i) * s) ps
edge_place ps o w i s =
    drop-drop (i * s) (o * (w * s)) ps
    ∙ ap (λ (k : ℕ). drop k ps) (ap (λ (k : ℕ). k + i * s) (sym (mul_assoc o w s)) ∙ sym (add-mul (o * w) i s))

module _ {g : Grid} {ps : List Float} {w i n : ℕ} (r : Edges g ps w i n) where
  -- the sum by four slopes is the sum
  pub all_back : (x s : Float) (f : Four) (ups : List Float) (z : Float) → s ≡ silu_derivative_of x → Slopes g x f
      → z ≡ sum_to (back_four ps (w * (g.intervals + 5)) (i * (g.intervals + 5)) s f ups) n
      → z ≡ sum_to (back_at (basis_of g) ps w x ups i) n
  all_back x s f ups z e v p =
      let st = g.intervals + 5 in
      p ∙ sum_ext zero32 (back_four ps (w * st) (i * st) s f ups) (back_at (basis_of g) ps w x ups i) n
      (λ o h. back_is g (drop (i * st) (drop (o * (w * st)) ps)) x s (at ups o) f e v (edge_finite r o h)
      ∙ ap (λ (l : List Float). back_of (basis_of g) l x (at ups o)) (edge_place ps o w i st))
