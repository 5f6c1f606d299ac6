-- After e turns e edges are filled.
use Rattle.std.proofs.Common.{refl, arith}
use Rattle.floats.proofs.Loops.{rest_length}
use Rattle.first_parameters.proofs.Parts.{none_done, one_done, edges_sound, edge_room, layer_filled}
use Rattle.first_parameters.proofs.fill_layer.Goals as goal

pub loop-e-init : goal.loop-e-init
loop-e-init c = none_done _ (edges_sound _ _) _ _

-- the turn's edge lies within the parameters
pub overflow_mul-at : goal.overflow_mul-at
overflow_mul-at c = omega (arith, edge_room _ _ _ _ _ c.loop-e-test.true c.requires.1)

pub offset_bounds-params-at : goal.offset_bounds-params-at
offset_bounds-params-at c = omega (arith, edge_room _ _ _ _ _ c.loop-e-test.true c.requires.1)

pub slice_bounds-fill_edge-count : goal.slice_bounds-fill_edge-count
slice_bounds-fill_edge-count c = omega (arith, edge_room _ _ _ _ _ c.loop-e-test.true c.requires.1)

pub slice_bounds-fill_edge-start : goal.slice_bounds-fill_edge-start
slice_bounds-fill_edge-start c = omega (arith, edge_room _ _ _ _ _ c.loop-e-test.true c.requires.1)

pub fill_edge-random-requires : goal.fill_edge-random-requires
fill_edge-random-requires c =
    (c.requires.0, rw rest_length (omega (arith, edge_room _ _ _ _ _ c.loop-e-test.true c.requires.1)))

pub loop-e-preserved : goal.loop-e-preserved
loop-e-preserved c =
    let room = edge_room _ _ _ _ _ c.loop-e-test.true c.requires.1 in
    one_done _ (edges_sound _ _) _ _ _ _ _ _ _ _ refl (omega (arith, room)) c.loop-e.invariant c.fill_edge-random.ensures

pub returns : goal.returns
returns c = layer_filled _ _ _ _ _ _ _ _ _ (omega arith) c.root-root.ensures c.loop-e.invariant
