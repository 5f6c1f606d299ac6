-- Where a layer's parameters lie in the model and its nodes in the work, from where the cursor stands. Assumes nothing.
use mathlib.Core.Path.{◌≡◌, sym, subst, ap, ◌∙◌}
use mathlib.Core.List.{List}
use Prim.Native.Nat.{ℕ, ◌+◌, ◌-◌, ◌*◌, ◌≤◌, ◌<◌}
use native.Mathlib.Nat.{le_trans, le_of_eq}
use native.Mathlib.Omega.{arith}
use lib.ListN.{length, take, drop}
use lib.Ieee.{Float}
use Rattle.floats.proofs.Loops.{rest_length}
use Rattle.spline.specs.declared.Grid.{Grid}
use Rattle.local_basis.specs.Fours.{Finite}
use Rattle.layers.specs.Widths.{width_at, widths_to, nodes_in}
use Rattle.layer_cursor.specs.declared.Layer.{Layer}
use Rattle.layer_cursor.specs.Cursor.{Walkable, Stands}
use Rattle.layer_cursor.proofs.Cursors.{widths_room, inside, step_nodes}
use Rattle.fast_forward.specs.Inputs.{Parameters, Within}
use Rattle.passes.proofs.Passes.{finite_part}
use Rattle.row_gradients.specs.Calls.{WorkFits}

-- the number of a cursor that stands at layer l is l
pub here : {g : Grid} {ws : List ℕ} {l : ℕ} {c : Layer} → Stands g ws l c → Stands g ws c.index c
here {g} {ws} {c = c} s = subst (λ (i : ℕ). Stands g ws i c) (sym s.index) s

-- the work may change, as long as it keeps its length
pub refit : {g : Grid} {ps : List Float} {ws : List ℕ} {W W' : List Float} → WorkFits g ps ws W → length W' ≡ length W
    → WorkFits g ps ws W'
refit f e = record { walkable = f.walkable; params = f.params; work = omega (arith, f.work) }

-- ---- the first nodes, and the last: `end` stands past the last layer
pub first_width : {g : Grid} {ws : List ℕ} → Walkable g ws → width_at ws 0 ≤ nodes_in ws
first_width {g} {ws} a = omega (arith, widths_room ws 0 (length ws) (omega (arith, a.some)))

pub last_nodes : {g : Grid} {ws : List ℕ} {end : Layer} → Walkable g ws → Stands g ws (length ws - 1) end
    → end.node + end.inputs ≡ nodes_in ws
last_nodes {g} {ws} {end} a s =
    let e : length ws - 1 + 1 ≡ length ws = omega (arith, a.some) in
    step_nodes g ws (length ws - 1) end s ∙ ap (widths_to ws) e

-- a layer's outputs begin where its inputs end
pub next_node : {g : Grid} {ws : List ℕ} {l : ℕ} {c d : Layer} → Stands g ws l c → Stands g ws (l + 1) d
    → d.node ≡ c.node + c.inputs
next_node {g} {ws} {l} {c} s n = n.nodes ∙ sym (step_nodes g ws l c s)

-- ---- a layer's part lies in the model, its nodes among the N, and these twice in the work
pub record Lies (g : Grid) (ps : List Float) (ws : List ℕ) (W : List Float) (c : Layer) : Type 0 where
  pub grid : g.intervals ≤ 250000
  pub own : c.mesh.grid ≡ g
  pub part : c.at + c.outputs * (c.inputs * (g.intervals + 5)) ≤ length ps
  pub small : length ps ≤ 250000
  pub some : 0 < c.outputs
  pub nodes : c.node + c.inputs + c.outputs ≤ nodes_in ws
  pub narrow : nodes_in ws ≤ 250000
  pub work : 2 * nodes_in ws ≤ length W

pub lies : {g : Grid} {ps : List Float} {ws : List ℕ} {W : List Float} {l : ℕ} {c : Layer} → WorkFits g ps ws W
    → l < length ws - 1 → Stands g ws l c → Lies g ps ws W c
lies {g} {ps} {ws} {W} {l} {c} f h s =
    let up : c.node + c.inputs + c.outputs ≡ widths_to ws (l + 1) + width_at ws (l + 1) =
    rw (step_nodes g ws l c s, s.outputs) in
    record {
      grid = f.walkable.grid;
      own = s.mesh;
      part = le_trans (inside g ws l c h s) (le_of_eq f.params);
      small = omega (arith, f.params, f.walkable.small);
      some = rw s.outputs (f.walkable.positive (l + 1) (omega arith));
      nodes = omega (arith, widths_room ws (l + 1) (length ws) (omega arith));
      narrow = f.walkable.narrow;
      work = f.work;
    }

module _ {g : Grid} {ps : List Float} {ws : List ℕ} {W : List Float} {c : Layer} (k : Lies g ps ws W c) where
  -- its parameters, in a model that is finite
  pub parameters : Finite (length ps) ps
      → Parameters c.mesh.grid (take (length ps - c.at) (drop c.at ps)) c.inputs c.outputs
  parameters y =
      rw k.own (record {
        some = k.some;
        there = rw rest_length (omega (arith, k.part));
        finite = finite_part c.at _ ps y k.part;
      })

  -- so the layer may be run within the work, in either direction
  pub within : Finite (length ps) ps → (to end : ℕ) → c.node + c.inputs ≤ to → end ≤ length W
      → Within c.mesh.grid (take (length ps - c.at) (drop c.at ps)) W c.node c.inputs to c.outputs end
  within y to end b r = record { layer = parameters y; before = b; room = r }
