-- The cursor stands at the definitions' offsets, within an accepted configuration. Assumes nothing.
use mathlib.Core.Path.{◌≡◌, refl, sym, ap, ◌∙◌}
use mathlib.Core.List.{List}
use mathlib.Core.Logic.{⊎_elim}
use Prim.Native.Nat.{ℕ, zero, suc, ◌+◌, ◌-◌, ◌*◌, ◌≤◌, ◌<◌}
use native.Mathlib.Nat.{le_trans, le_of_eq, le-add_left, le-add_right, eq-or-lt_of_le}
use native.Mathlib.Numerals.{add-one}
use native.Mathlib.Omega.{arith}
use lib.ListN.{length}
use Rattle.spline.specs.declared.Grid.{Grid}
use Rattle.floats.proofs.Loops.{row_room}
use Rattle.layers.specs.Widths.{width_at, layer_size, params_to, widths_to}
use Rattle.layers.proofs.Widths.{params_more, params_room}
use Rattle.layer_cursor.specs.declared.Layer.{Layer}
use Rattle.layer_cursor.specs.Cursor.{Walkable, Stands}

-- ---- the nodes of one layer more
pub widths_none : (ws : List ℕ) → 0 ≡ widths_to ws 0
unfolding widths_to
widths_none ws = refl

pub widths_more : (ws : List ℕ) (l : ℕ) → widths_to ws l + width_at ws l ≡ widths_to ws (l + 1)
unfolding widths_to
widths_more ws l = ap (widths_to ws) (sym (add-one l))

pub widths_room : (ws : List ℕ) (l n : ℕ) → l < n → widths_to ws l + width_at ws l ≤ widths_to ws n
unfolding widths_to
widths_room ws l zero h = absurd (omega arith)
widths_room ws l (suc n) h =
    ⊎_elim (λ (e : l ≡ n). le_of_eq (rw e))
    (λ k. le_trans (widths_room ws l n k) (le-add_right (widths_to ws n) (width_at ws n)))
    (eq-or-lt_of_le (omega arith))

-- ---- where a cursor stands
module _ (g : Grid) (ws : List ℕ) where
  abbrev per : ℕ
  per = g.intervals + 5

  -- the layer's number of parameters, as the cursor has it
  pub size : (l : ℕ) (c : Layer) → Stands g ws l c → c.outputs * (c.inputs * per) ≡ layer_size per ws l
  size l c s = rw (s.outputs, s.inputs)

  -- its part lies within the parameters of all layers
  pub inside : (l : ℕ) (c : Layer) → l < length ws - 1 → Stands g ws l c
      → c.at + c.outputs * (c.inputs * per) ≤ params_to per ws (length ws - 1)
  inside l c h s = rw (size l c s, s.part) (params_room per ws l (length ws - 1) h)

  -- one step: where the next layer's part and its nodes begin
  pub step : (l : ℕ) (c : Layer) → Stands g ws l c → c.at + c.outputs * (c.inputs * per) ≡ params_to per ws (l + 1)
  step l c s = rw (size l c s, s.part) (params_more per ws l)

  pub step_nodes : (l : ℕ) (c : Layer) → Stands g ws l c → c.node + c.inputs ≡ widths_to ws (l + 1)
  step_nodes l c s = rw (s.nodes, s.inputs) (widths_more ws l)

-- so nothing that a step works out is large
pub record Small (g : Grid) (c : Layer) : Type 0 where
  pub row : c.inputs * (g.intervals + 5) ≤ 250000
  pub end : c.at + c.outputs * (c.inputs * (g.intervals + 5)) ≤ 250000
  pub nodes : c.node + c.inputs ≤ 250000

pub small : (g : Grid) (ws : List ℕ) (l : ℕ) (c : Layer) → Walkable g ws → l < length ws - 1 → Stands g ws l c → Small g c
small g ws l c a h s =
    let e : c.at + c.outputs * (c.inputs * (g.intervals + 5)) ≤ 250000 = le_trans (inside g ws l c h s) a.small in
    let some : 0 < c.outputs = rw s.outputs (a.positive (l + 1) (omega arith)) in
    let n : c.node + c.inputs ≤ 250000 =
    rw (s.nodes, s.inputs) (le_trans (widths_room ws l (length ws) (omega arith)) a.narrow) in
    record { row = row_room c.outputs _ _ some (le_trans (le-add_left _ c.at) e); end = e; nodes = n }

-- one step back, to a layer of w inputs: it ends where this one begins, and nothing that the step works out is large
pub record Back (g : Grid) (ws : List ℕ) (c : Layer) (w : ℕ) : Type 0 where
  pub row : w * (g.intervals + 5) ≤ 250000
  pub ends : params_to (g.intervals + 5) ws (c.index - 1) + c.inputs * (w * (g.intervals + 5)) ≡ c.at
  pub end : c.at ≤ 250000
  pub nodes : widths_to ws (c.index - 1) + w ≡ c.node
  pub outputs : c.inputs ≡ width_at ws (c.index - 1 + 1)

pub back : (g : Grid) (ws : List ℕ) (c : Layer) (w : ℕ) → Walkable g ws → 0 < c.index → c.index < length ws
    → Stands g ws c.index c → w ≡ width_at ws (c.index - 1) → Back g ws c w
back g ws c w a p h s v =
    let i : ℕ = c.index - 1 in
    let more : i + 1 ≡ c.index = omega arith in
    let below : i < length ws - 1 = omega arith in
    let b : Layer =
    record { index = i; mesh = c.mesh; at = params_to (g.intervals + 5) ws i; node = widths_to ws i; inputs = w; outputs = c.inputs } in
    let wide : c.inputs ≡ width_at ws (i + 1) = s.inputs ∙ ap (width_at ws) (sym more) in
    let t : Stands g ws i b = record { index = refl; mesh = s.mesh; part = refl; nodes = refl; inputs = v; outputs = wide } in
    let e : b.at + b.outputs * (b.inputs * (g.intervals + 5)) ≡ c.at =
    step g ws i b t ∙ ap (params_to (g.intervals + 5) ws) more ∙ sym s.part in
    let m : b.node + b.inputs ≡ c.node = step_nodes g ws i b t ∙ ap (widths_to ws) more ∙ sym s.nodes in
    let n = small g ws i b a below t in
    record { row = n.row; ends = e; end = omega (arith, n.end, e); nodes = m; outputs = wide }
