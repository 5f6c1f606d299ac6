-- What is known in a turn, and what it leaves.
use Rattle.std.proofs.Common.{arith}
use Rattle.std.proofs.lemmas.Result.{err_from_is_err_and}
use Rattle.passes.proofs.Walks.{part_in, may_turn, next_here}
use Rattle.touched_row.proofs.Rows.{in_march, none_marked, one_marked, marks_stopped, all_marked, left_marked}
use Rattle.touched_row.proofs.Rows.{turning, bytes_in, may_mark}
use Rattle.touched_row.proofs.mark_layers.Goals as goal

pub loop-l-init : goal.loop-l-init
loop-l-init c = none_marked c.first-layer.ensures

pub slice_bounds-mark_held-count : goal.slice_bounds-mark_held-count
slice_bounds-mark_held-count c =
    let h = bytes_in (in_march c.requires c.loop-l-test.true c.loop-l.invariant) in omega (arith, h)

pub slice_bounds-mark_held-start : goal.slice_bounds-mark_held-start
slice_bounds-mark_held-start c =
    let h = bytes_in (in_march c.requires c.loop-l-test.true c.loop-l.invariant) in omega (arith, h)

pub mark_held-requires : goal.mark_held-requires
mark_held-requires c =
    let t = in_march c.requires c.loop-l-test.true c.loop-l.invariant in may_mark t

pub offset_bounds-model-at : goal.offset_bounds-model-at
offset_bounds-model-at c =
    let h = part_in (turning (in_march c.requires c.loop-l-test.true c.loop-l.invariant)) in omega (arith, h)

pub slice_bounds-turn-count : goal.slice_bounds-turn-count
slice_bounds-turn-count c =
    let h = part_in (turning (in_march c.requires c.loop-l-test.true c.loop-l.invariant)) in omega (arith, h)

pub slice_bounds-turn-start : goal.slice_bounds-turn-start
slice_bounds-turn-start c =
    let h = part_in (turning (in_march c.requires c.loop-l-test.true c.loop-l.invariant)) in omega (arith, h)

pub turn-requires : goal.turn-requires
turn-requires c =
    let t = turning (in_march c.requires c.loop-l-test.true c.loop-l.invariant) in
    may_turn t c.requires.finite

pub returns-in_err-turn : goal.returns-in_err-turn
returns-in_err-turn c =
    let p = err_from_is_err_and c.from_residual.result c.from_residual.ensures.1 in
    let t = in_march c.requires c.loop-l-test.true c.loop-l.invariant in
    rw (p.1, p.2) (marks_stopped c.in_err-turn.was (left_marked t c.mark_held.ensures c.turn.ensures))

pub loop-l-preserved : goal.loop-l-preserved
loop-l-preserved c =
    let t = in_march c.requires c.loop-l-test.true c.loop-l.invariant in
    one_marked c.in_ok-turn.was (left_marked t c.mark_held.ensures c.turn.ensures) (next_here (turning t) c.next-layer.ensures)

pub returns : goal.returns
returns c = all_marked (omega arith) c.loop-l.invariant
