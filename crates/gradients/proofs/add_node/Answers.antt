-- A turn adds one edge's part.
use Rattle.floats.proofs.Loops.{tab_length}
use Rattle.layers.specs.Net.{basis_of}
use Rattle.gradients.proofs.Adding.{parts_none, parts_more}
use Rattle.gradients.proofs.Edges.{turn_at, edge_turn}
use Rattle.gradients.proofs.add_node.Goals as goal

pub loop-i-init : goal.loop-i-init
loop-i-init c = parts_none

pub loop-i-preserved : goal.loop-i-preserved
loop-i-preserved c =
    let t = c.loop-i in
    let turn = turn_at t.gradients _ _ _ c.loop-i-test.true c.requires t.invariant.size in
    parts_more _ _ (λ k. tab_length _ _) t.invariant c.loop-i-test.true turn.first
    (edge_turn (basis_of c.args.grid) c.args.params.now c.args.inputs.now c.args.up _ _ _ c.add_edge.ensures)
