-- What is known in a turn, and what it leaves.
use Rattle.std.proofs.Common.{arith, refl}
use Rattle.std.proofs.lemmas.Result.{err_from_is_err_and}
use Rattle.passes.proofs.Walks.{in_turn, next_here, set_out, one_layer, stopped, arrived, part_in, may_turn, left}
use Rattle.passes.proofs.run_layers.Goals as goal

pub loop-l-init : goal.loop-l-init
loop-l-init c = set_out c.requires.2 refl

pub offset_bounds-model-at : goal.offset_bounds-model-at
offset_bounds-model-at c =
    let h = part_in (in_turn c.requires.0 c.requires.2.mesh c.loop-l-test.true c.loop-l.invariant) in omega (arith, h)

pub slice_bounds-turn-count : goal.slice_bounds-turn-count
slice_bounds-turn-count c =
    let h = part_in (in_turn c.requires.0 c.requires.2.mesh c.loop-l-test.true c.loop-l.invariant) in omega (arith, h)

pub slice_bounds-turn-start : goal.slice_bounds-turn-start
slice_bounds-turn-start c =
    let h = part_in (in_turn c.requires.0 c.requires.2.mesh c.loop-l-test.true c.loop-l.invariant) in omega (arith, h)

pub turn-requires : goal.turn-requires
turn-requires c =
    let t = in_turn c.requires.0 c.requires.2.mesh c.loop-l-test.true c.loop-l.invariant in
    may_turn t c.requires.1

pub returns-in_err-turn : goal.returns-in_err-turn
returns-in_err-turn c =
    let p = err_from_is_err_and c.from_residual.result c.from_residual.ensures.1 in
    let t = in_turn c.requires.0 c.requires.2.mesh c.loop-l-test.true c.loop-l.invariant in
    rw (p.1, p.2) (stopped c.in_err-turn.was (left t c.turn.ensures))

pub loop-l-preserved : goal.loop-l-preserved
loop-l-preserved c =
    let t = in_turn c.requires.0 c.requires.2.mesh c.loop-l-test.true c.loop-l.invariant in
    one_layer c.in_ok-turn.was (left t c.turn.ensures) (next_here t c.next-layer.ensures)

pub returns : goal.returns
returns c = arrived (omega arith) c.loop-l.invariant
