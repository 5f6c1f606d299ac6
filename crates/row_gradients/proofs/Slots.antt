-- All layers' parts one after the other, as the work has them: where a walk stands that adds them, and one layer more.
-- Assumes nothing.
use mathlib.Core.Path.{◌≡◌, refl, sym, ap, ◌∙◌}
use mathlib.Core.List.{List}
use Prim.Native.Nat.{ℕ, zero, suc, ◌+◌, ◌-◌, ◌*◌, ◌≤◌, ◌<◌}
use native.Mathlib.Numerals.{add-one}
use native.Mathlib.Omega.{arith}
use lib.ListN.{length, take, drop, length-append}
use lib.Ieee.{Float}
use borrow.Rule.Slice.PartMut.{put_mid}
use Rattle.floats.specs.Places.{part_at}
use Rattle.floats.specs.Sums.{flat_to}
use Rattle.floats.proofs.Loops.{rest, rest_length}
use Rattle.floats.proofs.Places.{part_is, part_length}
use Rattle.spline.specs.declared.Grid.{Grid}
use Rattle.layers.specs.Net.{net_of, basis_of}
use Rattle.layers.specs.Widths.{width_at, layer_size, params_to, widths_to, nodes_in}
use Rattle.layer_cursor.specs.declared.Layer.{Layer}
use Rattle.layer_cursor.specs.Cursor.{Stands}
use Rattle.layer_cursor.proofs.Cursors.{widths_room}
use Rattle.gradients.specs.Gradient.{layer_slots}
use Rattle.gradients.specs.Steps.{plus_of}
use Rattle.gradients.proofs.Adding.{plus_first, plus_part}
use Rattle.gradients.proofs.Edges.{layer_length}
use Rattle.local_basis.specs.Fours.{Finite}
use Rattle.fast_gradients.specs.Adding.{Clean, Gradients}
use Rattle.fast_gradients.proofs.Clean.{flat_held, layer_held, clean_plus, clean_part}
use Rattle.row_gradients.specs.Calls.{two_n, WorkFits}
use Rattle.row_gradients.specs.Steps.{up_at, slots_in}
use Rattle.row_gradients.proofs.Spans.{Lies, lies, parameters, next_node, last_nodes}

-- parts as long as the layers are as long together as the layers
pub flat_params : (per : ℕ) (ws : List ℕ) (f : ℕ → List Float) (n : ℕ)
    → ((l : ℕ) → l < n → length (f l) ≡ layer_size per ws l) → length (flat_to f n) ≡ params_to per ws n
unfolding flat_to params_to
flat_params per ws f zero h = refl
flat_params per ws f (suc n) h =
    rw (length-append, flat_params per ws f n (λ l i. h l (omega arith)), h n (omega arith))

-- the nodes of layer l, and the gradients at those after it, are parts of the work
values_long : (ws : List ℕ) (W : List Float) (l : ℕ) → two_n ws ≤ length W → l < length ws - 1
    → length (part_at W (widths_to ws l) (width_at ws l)) ≡ width_at ws l
values_long ws W l work h =
    part_length W (widths_to ws l) (width_at ws l) (omega (arith, widths_room ws l (length ws) (omega arith)))

ups_long : (ws : List ℕ) (W : List Float) (l : ℕ) → two_n ws ≤ length W → l < length ws - 1
    → length (part_at W (up_at ws (l + 1)) (width_at ws (l + 1))) ≡ width_at ws (l + 1)
ups_long ws W l work h =
    part_length W (up_at ws (l + 1)) (width_at ws (l + 1))
    (omega (arith, widths_room ws (l + 1) (length ws) (omega arith)))

slots_long : (g : Grid) (ps : List Float) (ws : List ℕ) (W : List Float) → two_n ws ≤ length W → (l : ℕ)
    → l < length ws - 1 → length (slots_in (net_of g) ps ws W l) ≡ layer_size (g.intervals + 5) ws l
slots_long g ps ws W work l h =
    layer_length (basis_of g) _ _ _ ∙ rw (values_long ws W l work h, ups_long ws W l work h)

-- ---- at layer l: the parts of the layers before are added to ds
pub record Summed (g : Grid) (ps : List Float) (ws : List ℕ) (W ds : List Float) (l : ℕ) (c : Layer) (e : List Float) :
    Type 0 where
  pub bound : l ≤ length ws - 1
  pub stands : Stands g ws l c
  pub sum : e ≡ plus_of ds (flat_to (slots_in (net_of g) ps ws W) l)

module _ {g : Grid} {ps : List Float} {ws : List ℕ} {W ds : List Float} where
  pub set_out : {c : Layer} → Stands g ws 0 c → Summed g ps ws W ds 0 c ds
  set_out s = record { bound = omega arith; stands = s; sum = plus_first _ ds }

  pub arrived : {l : ℕ} {c : Layer} {e : List Float} → length ws - 1 ≤ l → Summed g ps ws W ds l c e
      → e ≡ plus_of ds (flat_to (slots_in (net_of g) ps ws W) (length ws - 1))
  arrived {l} h k = let e : l ≡ length ws - 1 = omega (arith, k.bound) in rw e at k.sum

-- ---- in a turn at layer l, whose cursor is c; the next layer's is d, and `half` is N
pub record Summing (g : Grid) (ps : List Float) (ws : List ℕ) (W ds : List Float) (half l : ℕ) (c d : Layer)
    (e : List Float) : Type 0 where
  pub fits : WorkFits g ps ws W
  pub same : length ds ≡ length ps
  pub size : length e ≡ length ds
  pub middle : half ≡ nodes_in ws
  pub more : l < length ws - 1
  pub summed : Summed g ps ws W ds l c e
  pub next : Stands g ws (l + 1) d

-- where the layer lies, also in the gradients, and where its inputs end
pub record Reach (g : Grid) (ps : List Float) (ws : List ℕ) (W : List Float) (half : ℕ) (c d : Layer) (e : List Float) :
    Type 0 where
  pub lie : Lies g ps ws W c
  pub gradients : length e ≡ length ps
  pub after : d.node ≡ c.node + c.inputs
  pub middle : half ≡ nodes_in ws

pub summing : {g : Grid} {ps : List Float} {ws : List ℕ} {W ds : List Float} {l : ℕ} {c d end : Layer}
    {e : List Float} → WorkFits g ps ws W → length ds ≡ length ps → Stands g ws (length ws - 1) end → l < end.index
    → Summed g ps ws W ds l c e → length e ≡ length ds → Stands g ws (c.index + 1) d
    → Summing g ps ws W ds (end.node + end.inputs) l c d e
summing f same s more k size n = record {
  fits = f;
  same = same;
  size = size;
  middle = last_nodes f.walkable s;
  more = omega (arith, more, s.index);
  summed = k;
  next = rw k.stands.index at n;
}

module _ {g : Grid} {ps : List Float} {ws : List ℕ} {W ds : List Float} {half l : ℕ} {c d : Layer} {e : List Float}
    (t : Summing g ps ws W ds half l c d e) where
  stood : Stands g ws l c
  stood = t.summed.stands

  pub reach : Reach g ps ws W half c d e
  reach = record {
    lie = lies t.fits t.more stood;
    gradients = t.size ∙ t.same;
    after = next_node stood t.next;
    middle = t.middle;
  }

  -- the parts of the work that the turn reads
  inputs_are : take (d.node - c.node) (drop c.node W) ≡ part_at W (widths_to ws l) (width_at ws l)
  inputs_are = rw (reach.after, part_is W c.node c.inputs, stood.nodes, stood.inputs)

  ups_are : take (half + d.node + c.outputs - (half + d.node)) (drop (half + d.node) W)
      ≡ part_at W (up_at ws (l + 1)) (width_at ws (l + 1))
  ups_are = part_is W (half + d.node) c.outputs ∙ rw (t.middle, t.next.nodes, stood.outputs)

  pub inputs_length : length (take (d.node - c.node) (drop c.node W)) ≡ c.inputs
  inputs_length = ap length inputs_are ∙ values_long ws W l t.fits.work t.more ∙ sym stood.inputs

  pub ups_length : length (take (half + d.node + c.outputs - (half + d.node)) (drop (half + d.node) W)) ≡ c.outputs
  ups_length = ap length ups_are ∙ ups_long ws W l t.fits.work t.more ∙ sym stood.outputs

  -- the layer's parameters and gradients, lent from its part on
  pub cells : Finite (length ps) ps → Gradients c.mesh.grid (take (length ps - c.at) (drop c.at ps)) c.inputs c.outputs
      (take (length e - c.at) (drop c.at e))
  cells y =
      let k = reach.lie in
      record { layer = parameters k y; there = rw (k.own, rest_length) (omega (arith, k.part, reach.gradients)) }

  -- none of them is -0.0, where no gradient was
  pub clean_in : Clean (length ds) ds
      → Clean (c.outputs * (c.inputs * (c.mesh.grid.intervals + 5))) (take (length e - c.at) (drop c.at e))
  clean_in y =
      let k = reach.lie in
      let slots = slots_in (net_of g) ps ws W in
      let held = flat_held slots (λ j. layer_held (basis_of g) _ _ _) l in
      let more : Clean (length ds) e = rw t.summed.sum (clean_plus (length ds) ds (flat_to slots l) held y) in
      rw (k.own, rest c.at e) (clean_part c.at _ (length ds) e (omega (arith, k.part, t.same)) more)

  -- what the turn leaves
  pub left : {y : List Float}
      → y ≡ plus_of (take (length e - c.at) (drop c.at e)) (layer_slots (basis_of c.mesh.grid)
      (take (length ps - c.at) (drop c.at ps)) (take (d.node - c.node) (drop c.node W))
      (take (half + d.node + c.outputs - (half + d.node)) (drop (half + d.node) W)))
      → Summed g ps ws W ds (l + 1) d (put_mid c.at (length e - c.at) e y)
  unfolding flat_to
  left {y} p =
      let slots = slots_in (net_of g) ps ws W in
      let before : length (flat_to slots l) ≡ c.at =
      flat_params (g.intervals + 5) ws slots l (λ j i. slots_long g ps ws W t.fits.work j (omega (arith, t.more)))
      ∙ sym stood.part in
      let added : y ≡ plus_of (drop c.at e) (slots l) =
      p ∙ rw (rest c.at e, rest c.at ps, inputs_are, ups_are, stood.mesh, stood.part) in
      let inside : c.at ≤ length e = omega (arith, reach.lie.part, reach.gradients) in
      record {
        bound = omega (arith, t.more);
        stands = t.next;
        sum = rw (add-one l) (plus_part ds (flat_to slots l) (slots l) c.at e y t.summed.sum before inside added);
      }
