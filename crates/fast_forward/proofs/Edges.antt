-- One edge by four values is the edge, where it lies, and a loop over the outputs. Assumes nothing.
use mathlib.Core.Path.{◌≡◌, refl, ap, ◌∙◌}
use Prim.Native.Nat.{ℕ, ◌+◌, ◌*◌, ◌≤◌, ◌<◌}
use native.Mathlib.Nat.{le_refl, le_trans}
use native.Mathlib.Omega.{arith}
use mathlib.Core.List.{List, [], ◌++◌, append-nil}
use lib.ListN.{length, take, drop, set, length-set}
use Rattle.std.proofs.lemmas.List.{drop_all, get_or-take, length-take-le}
use lib.Ieee.{Float, nan}
use Rattle.floats.specs.Binary32.{◌⊕◌, ◌⊗◌}
use Rattle.floats.specs.Sums.{tabulate, at}
use Rattle.floats.proofs.Loops.{tab_ext, tab_none, tab_more, tab_rest, room, row_room, within}
use Rattle.spline.specs.declared.Grid.{Grid}
use Rattle.spline.specs.Spline.{value_of}
use Rattle.spline.specs.Activation.{silu_of}
use Rattle.local_basis.specs.declared.Four.{Four}
use Rattle.local_basis.specs.Fours.{Values, four_dot, Finite}
use Rattle.local_basis.proofs.Dots.{dot_four, shift_dot, finite_drop}
use Rattle.layers.specs.Net.{basis_of}
use Rattle.layers.specs.Layer.{dot_of, edge_with, edge_of}
use Rattle.fast_forward.specs.Inputs.{edge_four, with_input, added_input, Edges}

pub edge_is : (g : Grid) (ps : List Float) (x s : Float) (r : Four) → s ≡ silu_of x → Values g x r
    → Finite (g.intervals + 5) ps
    → edge_four ps s r ≡ edge_of (basis_of g) ps x
unfolding edge_of edge_with dot_of
edge_is g ps x s r e v p =
    let q : r.start + 2 ≡ 2 + r.start = omega arith in
    let f = finite_drop 2 (g.intervals + 3) (g.intervals + 5) ps p (omega arith) in
    ap (λ (y : Float). (at ps 0 ⊗ y) ⊕ (at ps 1 ⊗ four_dot ps (r.start + 2) r)) e
    ∙ ap (λ (y : Float). (at ps 0 ⊗ silu_of x) ⊕ (at ps 1 ⊗ y))
    (ap (λ (k : ℕ). four_dot ps k r) q ∙ shift_dot ps 2 r.start r
    ∙ dot_four (g.intervals + 3) (λ (k : ℕ). value_of g 3 k x) (drop 2 ps) r v f)

-- ---- a loop that adds f 0, f 1, .. to the first n numbers of ys: after o turns
pub record Added (f : ℕ → Float) (ys : List Float) (n : ℕ) (zs : List Float) (o : ℕ) : Type 0 where
  pub bound : o ≤ n
  pub size : length zs ≡ length ys
  pub sums : zs ≡ tabulate (λ (k : ℕ). at ys k ⊕ f k) o ++ drop o ys

module _ {f : ℕ → Float} {ys : List Float} {n : ℕ} where
  pub added_none : Added f ys n ys 0
  added_none = record { bound = omega arith; size = refl; sums = tab_none _ ys }

  pub added_more : {zs : List Float} {o : ℕ} (y : Float) → Added f ys n zs o → o < n → n ≤ length ys → y ≡ f o
      → Added f ys n (set zs o (at zs o ⊕ y)) (o + 1)
  added_more {zs} {o} y a l h e = record {
    bound = omega arith;
    size = length-set zs o _ ∙ a.size;
    sums = tab_more _ o _ ys zs a.sums (rw (tab_rest _ o ys zs nan a.sums, e)) (omega arith);
  }

  pub added_all : {zs : List Float} {o : ℕ} → Added f ys n zs o → n ≤ o
      → zs ≡ tabulate (λ (k : ℕ). at ys k ⊕ f k) n ++ drop n ys
  added_all {zs} {o} a h = let e : o ≡ n = omega (arith, a.bound) in rw e at a.sums

-- the loop ran over the first n of ys alone
pub added_front : {f : ℕ → Float} {n : ℕ} {zs : List Float} {o : ℕ} (ys : List Float) → Added f (take n ys) n zs o → n ≤ o → n ≤ length ys
    → zs ++ drop n ys ≡ tabulate (λ (k : ℕ). at ys k ⊕ f k) n ++ drop n ys
added_front {f} {n} {zs} {o} ys a h l =
    let none : drop n (take n ys) ≡ [] = drop_all n (take n ys) (omega (arith, length-take-le n ys l)) in
    let same : tabulate (λ (k : ℕ). at (take n ys) k ⊕ f k) n ≡ tabulate (λ (k : ℕ). at ys k ⊕ f k) n =
    tab_ext _ _ n (λ k i. ap (λ (y : Float). y ⊕ f k) (get_or-take n ys k nan i)) in
    ap (λ (z : List Float). z ++ drop n ys) (added_all a h ∙ rw (none, append-nil, same))

-- ---- the edge of output o and input j
module _ {g : Grid} {ps : List Float} {w j n : ℕ} (r : Edges g ps w j n) where
  pub edge_within : (o : ℕ) → o < n
      → o * (w * (g.intervals + 5)) + j * (g.intervals + 5) + (g.intervals + 5) ≤ n * (w * (g.intervals + 5))
  edge_within o h = within o n j w (g.intervals + 5) (n * (w * (g.intervals + 5))) h r.input
      (le_refl (n * (w * (g.intervals + 5))))

  pub edge_there : (o : ℕ) → o < n
      → o * (w * (g.intervals + 5)) + j * (g.intervals + 5) + (g.intervals + 5) ≤ length ps
  edge_there o h = le_trans (edge_within o h) r.layer.there

  pub first_there : (w * (g.intervals + 5) ≤ length ps) × (j * (g.intervals + 5) + (g.intervals + 5) ≤ length ps)
  first_there =
      let row = row_room n (w * (g.intervals + 5)) (length ps) r.layer.some r.layer.there in
      (row, room j w (g.intervals + 5) (length ps) r.input row)

  pub edge_finite : (o : ℕ) → o < n
      → Finite (g.intervals + 5) (drop (j * (g.intervals + 5)) (drop (o * (w * (g.intervals + 5))) ps))
  edge_finite o h =
      let s = g.intervals + 5 in
      finite_drop (j * s) s (j * s + s) (drop (o * (w * s)) ps)
      (finite_drop (o * (w * s)) (j * s + s) (n * (w * s)) ps r.layer.finite (omega (arith, edge_within o h)))
      (le_refl (j * s + s))

  -- the loop that adds edges by four values has added the edges
  pub all_added_lem : (x s : Float) (f : Four) (ys zs : List Float) → s ≡ silu_of x → Values g x f
      → (let st = g.intervals + 5 in
      zs ≡ tabulate (λ (o : ℕ). at ys o ⊕ edge_four (drop (j * st) (drop (o * (w * st)) ps)) s f) n ++ drop n ys)
      → zs ≡ added_input (basis_of g) ps w j x ys n
  unfolding added_input
  all_added_lem x s f ys zs e v p =
      let st = g.intervals + 5 in
      p ∙ ap (λ (l : List Float). l ++ drop n ys)
      (tab_ext _ (with_input (basis_of g) ps w j x ys) n
      (λ o h. ap (λ (y : Float). at ys o ⊕ y)
      (edge_is g (drop (j * st) (drop (o * (w * st)) ps)) x s f e v (edge_finite o h))))
