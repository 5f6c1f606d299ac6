-- Where a layer's part lies, and one layer more. Its parts are cut by the places that the cursors have.
use Rattle.std.proofs.Common.{arith}
use Rattle.row_gradients.proofs.Spans.{last_nodes}
use Rattle.row_gradients.proofs.Slots.{summing, set_out, reach, inputs_length, ups_length, cells, clean_in, left}
use Rattle.row_gradients.proofs.adding.add_layers.Goals as goal

pub overflow_add-half : goal.overflow_add-half
overflow_add-half c = omega (arith, last_nodes c.requires.0.walkable c.requires.2, c.requires.0.walkable.narrow)

pub loop-init : goal.loop-init
loop-init c = set_out c.first-layer.ensures

pub overflow_add-ups : goal.overflow_add-ups
overflow_add-ups c =
    omega (arith, reach (summing c.requires.0 c.requires.1 c.requires.2 c.loop-test.true c.loop.invariant c.loop.auto.gradients c.next-next.ensures))

pub overflow_add-ups_end : goal.overflow_add-ups_end
overflow_add-ups_end c =
    omega (arith, reach (summing c.requires.0 c.requires.1 c.requires.2 c.loop-test.true c.loop.invariant c.loop.auto.gradients c.next-next.ensures))

pub offset_bounds-model-at : goal.offset_bounds-model-at
offset_bounds-model-at c =
    omega (arith, reach (summing c.requires.0 c.requires.1 c.requires.2 c.loop-test.true c.loop.invariant c.loop.auto.gradients c.next-next.ensures))

pub slice_bounds-add_layer-count : goal.slice_bounds-add_layer-count
slice_bounds-add_layer-count c =
    omega (arith, reach (summing c.requires.0 c.requires.1 c.requires.2 c.loop-test.true c.loop.invariant c.loop.auto.gradients c.next-next.ensures))

pub slice_bounds-add_layer-start : goal.slice_bounds-add_layer-start
slice_bounds-add_layer-start c =
    omega (arith, reach (summing c.requires.0 c.requires.1 c.requires.2 c.loop-test.true c.loop.invariant c.loop.auto.gradients c.next-next.ensures))

pub offset_bounds-work-from : goal.offset_bounds-work-from
offset_bounds-work-from c =
    omega (arith, reach (summing c.requires.0 c.requires.1 c.requires.2 c.loop-test.true c.loop.invariant c.loop.auto.gradients c.next-next.ensures))

pub slice_bounds-add_layer-count-in-loop : goal.slice_bounds-add_layer-count-in-loop
slice_bounds-add_layer-count-in-loop c =
    omega (arith, reach (summing c.requires.0 c.requires.1 c.requires.2 c.loop-test.true c.loop.invariant c.loop.auto.gradients c.next-next.ensures))

pub slice_bounds-add_layer-start-in-loop : goal.slice_bounds-add_layer-start-in-loop
slice_bounds-add_layer-start-in-loop c =
    omega (arith, reach (summing c.requires.0 c.requires.1 c.requires.2 c.loop-test.true c.loop.invariant c.loop.auto.gradients c.next-next.ensures))

pub slice_bounds-add_layer-end-in-loop : goal.slice_bounds-add_layer-end-in-loop
slice_bounds-add_layer-end-in-loop c =
    omega (arith, reach (summing c.requires.0 c.requires.1 c.requires.2 c.loop-test.true c.loop.invariant c.loop.auto.gradients c.next-next.ensures))

pub offset_bounds-work-ups : goal.offset_bounds-work-ups
offset_bounds-work-ups c =
    omega (arith, reach (summing c.requires.0 c.requires.1 c.requires.2 c.loop-test.true c.loop.invariant c.loop.auto.gradients c.next-next.ensures))

pub slice_bounds-add_layer-end-in-loop-2 : goal.slice_bounds-add_layer-end-in-loop-2
slice_bounds-add_layer-end-in-loop-2 c =
    omega (arith, reach (summing c.requires.0 c.requires.1 c.requires.2 c.loop-test.true c.loop.invariant c.loop.auto.gradients c.next-next.ensures))

pub offset_bounds-gradients-at : goal.offset_bounds-gradients-at
offset_bounds-gradients-at c =
    omega (arith, reach (summing c.requires.0 c.requires.1 c.requires.2 c.loop-test.true c.loop.invariant c.loop.auto.gradients c.next-next.ensures))

pub slice_bounds-add_layer-count-in-loop-3 : goal.slice_bounds-add_layer-count-in-loop-3
slice_bounds-add_layer-count-in-loop-3 c =
    omega (arith, reach (summing c.requires.0 c.requires.1 c.requires.2 c.loop-test.true c.loop.invariant c.loop.auto.gradients c.next-next.ensures))

pub slice_bounds-add_layer-start-in-loop-3 : goal.slice_bounds-add_layer-start-in-loop-3
slice_bounds-add_layer-start-in-loop-3 c =
    omega (arith, reach (summing c.requires.0 c.requires.1 c.requires.2 c.loop-test.true c.loop.invariant c.loop.auto.gradients c.next-next.ensures))

pub add_layer-requires : goal.add_layer-requires
add_layer-requires c =
    let t = summing c.requires.0 c.requires.1 c.requires.2 c.loop-test.true c.loop.invariant c.loop.auto.gradients c.next-next.ensures in
    let w = inputs_length t in
    let n = ups_length t in
    (rw (w, n) (cells t c.requires.3), λ known. rw (w, n) (clean_in t (c.requires.4 known)))

pub loop-preserved : goal.loop-preserved
loop-preserved c =
    let t = summing c.requires.0 c.requires.1 c.requires.2 c.loop-test.true c.loop.invariant c.loop.auto.gradients c.next-next.ensures in
    left t c.add_layer.ensures
