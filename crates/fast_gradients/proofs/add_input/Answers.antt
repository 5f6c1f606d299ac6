-- After o turns the input's edges of o outputs are added.
use Rattle.std.proofs.Common.{length, arith}
use Rattle.floats.proofs.Loops.{tab_length, rest, rest_length, cut}
use Rattle.layers.specs.Net.{basis_of}
use Rattle.fast_forward.specs.Inputs.{Edges}
use Rattle.fast_forward.proofs.Edges.{edge_there, edge_within, edge_finite}
use Rattle.fast_gradients.proofs.Inputs.{edge_clean, edge_turn}
use Rattle.fast_gradients.proofs.Rows.{each_none, each_more}
use Rattle.fast_gradients.proofs.add_input.Goals as goal

pub loop-o-init : goal.loop-o-init
loop-o-init c = each_none

pub add_edge-requires : goal.add_edge-requires
add_edge-requires c =
    let a = c.args in
    let p = c.requires in
    let taken = c.loop-o-test.true in
    let r : Edges a.mesh.grid a.params.now a.w a.i (length a.ups.now) = record { layer = p.0.layer; input = p.2 } in
    let within = edge_within r _ taken in (
      record {
        grid = a.mesh.few;
        params = rw rest_length (omega (arith, edge_there r _ taken));
        gradients = rw rest_length (omega (arith, within, p.0.there, c.loop-o.invariant.size));
      },
      c.silu_by-silu.ensures,
      c.values_at-four.ensures,
      rw cut (edge_finite r _ taken),
      rw rest (edge_clean r a.x a.ups.now a.gradients.now _ _ taken p.0.there p.1 c.loop-o.invariant.sums),
    )

pub loop-o-preserved : goal.loop-o-preserved
loop-o-preserved c =
    let a = c.args in
    let p = c.requires in
    let taken = c.loop-o-test.true in
    let r : Edges a.mesh.grid a.params.now a.w a.i (length a.ups.now) = record { layer = p.0.layer; input = p.2 } in
    each_more _ c.loop-o.invariant taken (rw tab_length (omega (arith, edge_within r _ taken, p.0.there)))
    (edge_turn (basis_of a.mesh.grid) a.params.now a.w a.i a.x a.ups.now _ _ _ c.add_edge.ensures)
