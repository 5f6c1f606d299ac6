-- The gradients at the nodes in the work: where a row stands on its way back, and one layer more. Assumes nothing.
use mathlib.Core.Path.{◌≡◌, refl, sym, subst, ap, ◌∙◌}
use mathlib.Core.Logic.{⊎_elim}
use mathlib.Core.List.{List}
use Prim.Native.Nat.{ℕ, suc, ◌+◌, ◌-◌, ◌≤◌, ◌<◌}
use native.Mathlib.Nat.{eq-or-lt_of_le}
use native.Mathlib.Numerals.{add-one}
use native.Mathlib.Omega.{arith}
use lib.ListN.{length, take, drop}
use lib.Ieee.{Float}
use Rattle.floats.specs.Places.{part_at, written_at}
use Rattle.floats.specs.Sums.{tabulate}
use Rattle.floats.proofs.Loops.{tab_length, rest}
use Rattle.floats.proofs.Places.{part_length, written_length, written_there, written_before, written_after}
use Rattle.spline.specs.declared.Grid.{Grid}
use Rattle.layers.specs.Basis.{Basis}
use Rattle.layers.specs.Net.{Net, net_of, basis_of}
use Rattle.layers.specs.Widths.{width_at, output_width, params_to, widths_to, nodes_in}
use Rattle.layer_cursor.specs.declared.Layer.{Layer}
use Rattle.layer_cursor.specs.Cursor.{Stands}
use Rattle.layer_cursor.proofs.Cursors.{widths_more, widths_room}
use Rattle.gradients.specs.Gradient.{back_layer}
use Rattle.row_gradients.specs.Backward.{output_gradient, ups_of}
use Rattle.row_gradients.specs.Calls.{two_n, WorkFits, Nodes}
use Rattle.row_gradients.specs.Steps.{up_at, Ups, Backed}
use Rattle.row_gradients.proofs.Spans.{Lies, lies, refit, first_width, last_nodes}

pub back_length : (B : Basis) (ps xs us : List Float) → length (back_layer B ps xs us) ≡ length xs
unfolding back_layer
back_length B ps xs us = tab_length _ (length xs)

-- ---- back from the outputs to the nodes l, from the work W₀
pub record Led (g : Grid) (ps : List Float) (ws : List ℕ) (xs ts : List Float) (scale : Float) (W₀ : List Float) (l : ℕ)
    (c : Layer) (W : List Float) : Type 0 where
  pub some : 0 < l
  pub high : l < length ws
  pub stands : Stands g ws l c
  pub nodes : Nodes (net_of g) ps ws xs W (length ws)
  pub ups : Ups (net_of g) ps ws xs ts scale W l
  pub size : length W ≡ length W₀
  pub rest : drop (two_n ws) W ≡ drop (two_n ws) W₀

-- ---- what is written in the second half leaves the first, and what lies past both
module _ (ws : List ℕ) (W : List Float) (a : ℕ) (ys : List Float) (fits : a + length ys ≤ length W) (W' : List Float)
    (p : W' ≡ written_at W a ys) where
  keeps_nodes : (N : Net) (ps xs : List Float) → nodes_in ws ≤ a → Nodes N ps ws xs W (length ws)
      → Nodes N ps ws xs W' (length ws)
  keeps_nodes N ps xs h k j i =
      let before : widths_to ws j + width_at ws j ≤ a = omega (arith, widths_room ws j (length ws) i) in
      rw p (written_before W a ys fits (widths_to ws j) (width_at ws j) before) ∙ k j i

  keeps_rest : a + length ys ≤ two_n ws → drop (two_n ws) W' ≡ drop (two_n ws) W
  keeps_rest h = rw p (written_after W a ys fits (two_n ws) h)

  keeps_front : (w : ℕ) → w ≤ a → take w W' ≡ take w W
  keeps_front w h = rw p (written_before W a ys fits 0 w (omega arith))

  keeps_size : length W' ≡ length W
  keeps_size = rw p (written_length W a ys fits)

-- ---- before the way back: the model, the work and the targets fit, and `end` stands past the last layer
pub record Outset (g : Grid) (ps : List Float) (ws : List ℕ) (ts W : List Float) (end : Layer) : Type 0 where
  pub fits : WorkFits g ps ws W
  pub wide : length ts ≡ output_width ws
  pub stands : Stands g ws (length ws - 1) end

pub outset : {g : Grid} {ps : List Float} {ws : List ℕ} {ts W : List Float} {end : Layer} → WorkFits g ps ws W
    → length ts ≡ output_width ws → Stands g ws (length ws - 1) end → Outset g ps ws ts W end
outset f w s = record { fits = f; wide = w; stands = s }

module _ {g : Grid} {ps : List Float} {ws : List ℕ} {ts W : List Float} {end : Layer}
    (o : Outset g ps ws ts W end) where
  -- N
  pub half : end.node + end.inputs ≡ nodes_in ws
  half = last_nodes o.fits.walkable o.stands

  -- the outputs are the last of the nodes
  pub outputs_last : end.node + length ts ≡ nodes_in ws
  outputs_last = rw (o.wide, ← o.stands.inputs) half

  abbrev last : ℕ
  last = length ws - 1

  -- the gradients at the outputs were written at N and their own place
  module _ (scale : Float) {W' : List Float}
      (p : W' ≡ written_at W (end.node + end.inputs + end.node)
      (tabulate (output_gradient (part_at W end.node (length ts)) ts scale) (length ts))) where
    abbrev outs : List Float
    outs = tabulate (output_gradient (part_at W (widths_to ws last) (width_at ws last)) ts scale) (width_at ws last)

    at_N : W' ≡ written_at W (up_at ws last) outs
    at_N = rw (half, o.stands.nodes, o.wide) at p

    long : length outs ≡ width_at ws last
    long = tab_length _ (width_at ws last)

    in_n : up_at ws last + length outs ≤ two_n ws
    in_n = omega (arith, long, widths_room ws last (length ws) (omega (arith, o.fits.walkable.some)))

    room : up_at ws last + length outs ≤ length W
    room = omega (arith, in_n, o.fits.work)

    -- the row still stands at the front
    same_front : take (width_at ws 0) W' ≡ take (width_at ws 0) W
    same_front =
        keeps_front ws W (up_at ws last) outs room W' at_N (width_at ws 0)
        (omega (arith, first_width o.fits.walkable))

    output_ups : (xs : List Float) → Nodes (net_of g) ps ws xs W (length ws) → Ups (net_of g) ps ws xs ts scale W' last
    unfolding ups_of
    output_ups xs k j h i =
        let e : j ≡ last = omega arith in
        let none : last - j ≡ 0 = omega arith in
        let there = rw long at (written_there W (up_at ws last) outs room) in
        rw (none, e, at_N) (there ∙ rw (k last (omega (arith, o.fits.walkable.some))))

    pub set_out : Nodes (net_of g) ps ws (take (width_at ws 0) W) W (length ws)
        → Led g ps ws (take (width_at ws 0) W') ts scale W' end.index end W'
    set_out k =
        let xs = take (width_at ws 0) W in
        let led : Led g ps ws (take (width_at ws 0) W') ts scale W' last end W' = rw same_front (record {
          some = omega (arith, o.fits.walkable.some);
          high = omega (arith, o.fits.walkable.some);
          stands = o.stands;
          nodes = keeps_nodes ws W (up_at ws last) outs room W' at_N (net_of g) ps xs (omega arith) k;
          ups = output_ups xs k;
          size = refl;
          rest = refl;
        }) in
        subst (λ (i : ℕ). Led g ps ws (take (width_at ws 0) W') ts scale W' i end W') (sym o.stands.index) led

    -- back at the nodes that the second layer reads
    pub ended : {l : ℕ} {c : Layer} {W'' : List Float} → l ≤ 1
        → Led g ps ws (take (width_at ws 0) W') ts scale W' l c W''
        → Backed (net_of g) ps ws (take (width_at ws 0) W) ts scale W W''
    ended h led =
        let k = rw same_front at led in
        record {
          nodes = k.nodes;
          ups = λ j i. k.ups j (omega arith);
          rest = k.rest ∙ keeps_rest ws W (up_at ws last) outs room W' at_N in_n;
        }

-- ---- in a turn, from the nodes m + 1 back to the nodes m, where d stands; `half` is N
pub record Backing (g : Grid) (ps : List Float) (ws : List ℕ) (xs ts : List Float) (scale : Float) (W₀ : List Float)
    (half m : ℕ) (c d : Layer) (W : List Float) : Type 0 where
  pub fits : WorkFits g ps ws W
  pub middle : half ≡ nodes_in ws
  pub some : 0 < m
  pub led : Led g ps ws xs ts scale W₀ (m + 1) c W
  pub stands : Stands g ws m d

pub backing : {g : Grid} {ps : List Float} {ws : List ℕ} {xs ts : List Float} {scale : Float} {U W₀ : List Float} {l : ℕ}
    {c d end : Layer} {W : List Float} → WorkFits g ps ws U → length W₀ ≡ length U → Stands g ws (length ws - 1) end
    → 1 < l → Led g ps ws xs ts scale W₀ l c W → Stands g ws (c.index - 1) d
    → Backing g ps ws xs ts scale W₀ (end.node + end.inputs) (l - 1) c d W
backing {g} {ps} {ws} {xs} {ts} {scale} {W₀ = W₀} {l} {c} {W = W} f size s more k n =
    let e : l ≡ l - 1 + 1 = omega (arith, more) in
    record {
      fits = refit f (k.size ∙ size);
      middle = last_nodes f.walkable s;
      some = omega (arith, more);
      led = subst (λ (i : ℕ). Led g ps ws xs ts scale W₀ i c W) e k;
      stands = rw k.stands.index at n;
    }

module _ {g : Grid} {ps : List Float} {ws : List ℕ} {xs ts : List Float} {scale : Float} {W₀ : List Float} {half m : ℕ}
    {c d : Layer} {W : List Float} (t : Backing g ps ws xs ts scale W₀ half m c d W) where
  -- where the layer lies
  pub lie : Lies g ps ws W d
  lie = lies t.fits (omega (arith, t.led.high)) t.stands

  abbrev inputs : List Float
  inputs = part_at W (widths_to ws m) (width_at ws m)

  abbrev backs : List Float
  backs =
      back_layer (basis_of g) (drop (params_to (g.intervals + 5) ws m) ps) inputs
      (part_at W (up_at ws m + width_at ws m) (width_at ws (m + 1)))

  inside : widths_to ws m + width_at ws m ≤ nodes_in ws
  inside = widths_room ws m (length ws) (omega (arith, t.led.high))

  backs_long : length backs ≡ width_at ws m
  backs_long =
      back_length (basis_of g) _ inputs _
      ∙ part_length W (widths_to ws m) (width_at ws m) (omega (arith, inside, t.fits.work))

  backs_in_n : up_at ws m + length backs ≤ two_n ws
  backs_in_n = omega (arith, backs_long, inside)

  backs_room : up_at ws m + length backs ≤ length W
  backs_room = omega (arith, backs_in_n, t.fits.work)

  backs_are : backs ≡ ups_of (net_of g) ps ws xs ts scale m (length ws - 1 - m)
  unfolding ups_of
  backs_are =
      let above : up_at ws m + width_at ws m ≡ up_at ws (m + 1) = omega (arith, widths_more ws m) in
      let deeper : length ws - 1 - m ≡ suc (length ws - 1 - (m + 1)) = omega (arith, t.led.high) in
      let up = t.led.ups (m + 1) (omega arith) t.led.high in
      rw (above, up, t.led.nodes m (omega (arith, t.led.high)), deeper, add-one m)

  module _ {W' : List Float} (p : W' ≡ written_at W (up_at ws m) backs) where
    next_ups : Ups (net_of g) ps ws xs ts scale W' m
    next_ups j i l = ⊎_elim new old (eq-or-lt_of_le i)
      where
        new : m ≡ j → part_at W' (up_at ws j) (width_at ws j) ≡ ups_of (net_of g) ps ws xs ts scale j (length ws - 1 - j)
        new e =
            let there = rw backs_long at (written_there W (up_at ws m) backs backs_room) in
            rw (← e, p) (there ∙ backs_are)

        old : m < j → part_at W' (up_at ws j) (width_at ws j) ≡ ups_of (net_of g) ps ws xs ts scale j (length ws - 1 - j)
        old z =
            let past : up_at ws m + length backs ≤ up_at ws j = omega (arith, backs_long, widths_room ws m j z) in
            rw p (ap (take (width_at ws j)) (written_after W (up_at ws m) backs backs_room (up_at ws j) past))
            ∙ t.led.ups j (omega arith) l

    one_back : Led g ps ws xs ts scale W₀ m d W'
    one_back = record {
      some = t.some;
      high = omega (arith, t.led.high);
      stands = t.stands;
      nodes = keeps_nodes ws W (up_at ws m) backs backs_room W' p (net_of g) ps xs (omega arith) t.led.nodes;
      ups = next_ups;
      size = keeps_size ws W (up_at ws m) backs backs_room W' p ∙ t.led.size;
      rest = keeps_rest ws W (up_at ws m) backs backs_room W' p backs_in_n ∙ t.led.rest;
    }

  -- what the layer leaves, as the cursor has its places
  pub left : {W' : List Float}
      → W' ≡ written_at W (half + d.node) (back_layer (basis_of d.mesh.grid) (take (length ps - d.at) (drop d.at ps))
      (part_at W d.node d.inputs) (part_at W (half + d.node + d.inputs) d.outputs))
      → Led g ps ws xs ts scale W₀ m d W'
  left {W'} y =
      let s = t.stands in
      one_back (rw (rest d.at ps, t.middle, s.mesh, s.part, s.nodes, s.inputs, s.outputs) at y)
