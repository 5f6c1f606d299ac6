-- Each turn fills one layer more.
use Rattle.std.proofs.Common.{rules, sym, arith}
use native.Mathlib.Nat.{le_of_eq}
use Rattle.row_gradients.proofs.Spans.{first_width, next_node, within}
use Rattle.row_gradients.proofs.Values.{filling, set_out, lie, left, one_layer, stopped, arrived, copied}
use Rattle.row_gradients.proofs.forward.fill_nodes.Goals as goal

pub copy-requires : goal.copy-requires
copy-requires c = omega (arith, first_width c.requires.0.walkable, c.requires.0.work, c.requires.1)

pub loop-init : goal.loop-init
loop-init c = set_out _ c.first-layer.ensures c.requires.1 c.copy.ensures

pub offset_bounds-model-at : goal.offset_bounds-model-at
offset_bounds-model-at c =
    omega (arith, lie (filling c.requires.0 c.copy.auto.to c.loop-test.true c.loop.invariant c.next-next.ensures))

pub slice_bounds-fill_layer-count : goal.slice_bounds-fill_layer-count
slice_bounds-fill_layer-count c =
    omega (arith, lie (filling c.requires.0 c.copy.auto.to c.loop-test.true c.loop.invariant c.next-next.ensures))

pub slice_bounds-fill_layer-start : goal.slice_bounds-fill_layer-start
slice_bounds-fill_layer-start c =
    omega (arith, lie (filling c.requires.0 c.copy.auto.to c.loop-test.true c.loop.invariant c.next-next.ensures))

pub fill_layer-requires : goal.fill_layer-requires
fill_layer-requires c =
    let t = filling c.requires.0 c.copy.auto.to c.loop-test.true c.loop.invariant c.next-next.ensures in
    let k = lie t in
    let to = next_node t.valued.stands t.next in
    within k c.requires.2 _ _ (le_of_eq (sym to)) (omega (arith, to, k))

pub returns-in_err-fill_layer : goal.returns-in_err-fill_layer
returns-in_err-fill_layer c =
    let t = filling c.requires.0 c.copy.auto.to c.loop-test.true c.loop.invariant c.next-next.ensures in
    let s = copied c.requires.0 c.requires.1 c.copy.ensures (stopped (left t c.in_err-fill_layer.ensures)) in
    search (rules, s)

pub loop-preserved : goal.loop-preserved
loop-preserved c =
    let t = filling c.requires.0 c.copy.auto.to c.loop-test.true c.loop.invariant c.next-next.ensures in
    one_layer (left t c.in_ok-fill_layer.ensures) t.next

pub returns : goal.returns
returns c = copied c.requires.0 c.requires.1 c.copy.ensures (arrived c.loop-test.false c.loop.invariant)
