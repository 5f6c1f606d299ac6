-- Where a layer's part lies, and one layer back.
use Rattle.std.proofs.Common.{arith}
use Rattle.row_gradients.proofs.Spans.{within}
use Rattle.row_gradients.proofs.Ups.{outset, half, outputs_last, set_out, backing, lie, left, ended}
use Rattle.row_gradients.proofs.backward.back_layers.Goals as goal

pub overflow_add-half : goal.overflow_add-half
overflow_add-half c = omega (arith, half (outset c.requires.0 c.requires.1 c.requires.3), c.requires.0.walkable.narrow)

pub overflow_add-half-2 : goal.overflow_add-half-2
overflow_add-half-2 c = omega (arith, half (outset c.requires.0 c.requires.1 c.requires.3), c.requires.0.walkable.narrow)

pub output_gradients-requires : goal.output_gradients-requires
output_gradients-requires c =
    let o = outset c.requires.0 c.requires.1 c.requires.3 in
    let h = half o in
    let outs = outputs_last o in
    (omega arith, omega (arith, c.requires.0.work))

pub loop-init : goal.loop-init
loop-init c =
    set_out (outset c.requires.0 c.requires.1 c.requires.3) _ c.output_gradients.ensures c.requires.2

pub offset_bounds-model-at : goal.offset_bounds-model-at
offset_bounds-model-at c =
    omega (arith, lie (backing c.requires.0 c.output_gradients.auto.work c.requires.3 c.loop-test.true c.loop.invariant c.previous-layer.ensures))

pub slice_bounds-back_layer-count : goal.slice_bounds-back_layer-count
slice_bounds-back_layer-count c =
    omega (arith, lie (backing c.requires.0 c.output_gradients.auto.work c.requires.3 c.loop-test.true c.loop.invariant c.previous-layer.ensures))

pub slice_bounds-back_layer-start : goal.slice_bounds-back_layer-start
slice_bounds-back_layer-start c =
    omega (arith, lie (backing c.requires.0 c.output_gradients.auto.work c.requires.3 c.loop-test.true c.loop.invariant c.previous-layer.ensures))

pub overflow_add-half-in-loop : goal.overflow_add-half-in-loop
overflow_add-half-in-loop c =
    let t = backing c.requires.0 c.output_gradients.auto.work c.requires.3 c.loop-test.true c.loop.invariant c.previous-layer.ensures in
    omega (arith, lie t, t.middle)

pub back_layer-requires : goal.back_layer-requires
back_layer-requires c =
    let t = backing c.requires.0 c.output_gradients.auto.work c.requires.3 c.loop-test.true c.loop.invariant c.previous-layer.ensures in
    let k = lie t in
    within k c.requires.4 _ _ (omega (arith, k, t.middle)) (omega (arith, k, t.middle))

pub loop-preserved : goal.loop-preserved
loop-preserved c =
    left
    (backing c.requires.0 c.output_gradients.auto.work c.requires.3 c.loop-test.true c.loop.invariant c.previous-layer.ensures)
    c.back_layer.ensures

pub returns : goal.returns
returns c =
    ended (outset c.requires.0 c.requires.1 c.requires.3) _ c.output_gradients.ensures c.loop-test.false c.loop.invariant
