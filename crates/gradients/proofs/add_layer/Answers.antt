-- A turn adds one output's part.
use Rattle.layers.specs.Net.{basis_of}
use Rattle.gradients.proofs.Adding.{parts_none, parts_more}
use Rattle.gradients.proofs.Edges.{turn_at, node_turn, node_length}
use Rattle.gradients.proofs.add_layer.Goals as goal

pub loop-o-init : goal.loop-o-init
loop-o-init c = parts_none

pub loop-o-preserved : goal.loop-o-preserved
loop-o-preserved c =
    let t = c.loop-o in
    let a = c.args in
    let B = basis_of a.grid in
    let turn = turn_at t.gradients _ _ _ c.loop-o-test.true c.requires.1 t.invariant.size in
    parts_more _ _ (node_length B a.params.now a.inputs.now a.ups.now) t.invariant c.loop-o-test.true turn.first
    (node_turn B a.params.now a.inputs.now a.ups.now _ _ _ c.add_node.ensures)
