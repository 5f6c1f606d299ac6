-- At each layer those before it are filled.
use Rattle.std.proofs.Common.{arith, rules}
use Rattle.floats.proofs.Loops.{rest_length}
use Rattle.first_parameters.proofs.Walks.{next_here, set_out, part_in, one_layer, arrived}
use Rattle.first_parameters.proofs.initialise.Goals as goal

pub loop-init : goal.loop-init
loop-init c = set_out c.first-layer.ensures

-- the turn's layer lies within the model
pub offset_bounds-model-at : goal.offset_bounds-model-at
offset_bounds-model-at c = omega (arith, part_in c.requires c.loop-test.true c.loop.invariant)

pub slice_bounds-fill_layer-count : goal.slice_bounds-fill_layer-count
slice_bounds-fill_layer-count c = omega (arith, part_in c.requires c.loop-test.true c.loop.invariant)

pub slice_bounds-fill_layer-start : goal.slice_bounds-fill_layer-start
slice_bounds-fill_layer-start c = omega (arith, part_in c.requires c.loop-test.true c.loop.invariant)

pub fill_layer-random-requires : goal.fill_layer-random-requires
fill_layer-random-requires c =
    (c.requires.walkable.grid, rw rest_length (omega (arith, part_in c.requires c.loop-test.true c.loop.invariant)))

pub loop-preserved : goal.loop-preserved
loop-preserved c =
    let walked = c.loop.invariant in
    one_layer c.requires c.loop-test.true walked c.fill_layer-random.ensures (search rules) (next_here walked c.next-layer.ensures)

pub returns : goal.returns
returns c =
    let walked = c.loop.invariant in
    arrived _ c.requires (omega (arith, walked.bound, c.loop-test.false)) c.new-random.ensures walked
