-- A step more, or a stop.
use Rattle.std.proofs.Common.{arith}
use Rattle.training.proofs.Steps.{ready_moved, before_first, one_more, steps_stopped, steps_all}
use Rattle.training.proofs.calls.run_steps.Goals as goal

pub loop-done-init : goal.loop-done-init
loop-done-init c = before_first _ _ _ _ _ _ _ _ c.requires.finite

pub step-requires : goal.step-requires
step-requires c =
    let h = c.loop-done.invariant in
    ready_moved _ _ _ _ _ _ _ _ _ _ c.requires h.size_p h.size_g h.size_w h.finite

pub returns-in-Err : goal.returns-in-Err
returns-in-Err c =
    steps_stopped _ _ _ _ _ _ _ _ _ _ _ _ _ _ _ _ _ c.loop-done-test.true c.loop-done.invariant c.in-Err.ensures

pub loop-done-preserved : goal.loop-done-preserved
loop-done-preserved c =
    let sizes = c.step.auto in
    one_more _ _ _ _ _ _ _ _ _ _ _ _ _ _ _ sizes.model sizes.gradients sizes.work c.loop-done.invariant c.in_default.ensures

pub returns : goal.returns
returns c = steps_all _ _ _ _ _ _ _ _ _ _ _ _ _ (omega (arith, c.loop-done.auto.done-end, c.loop-done-test.false)) c.loop-done.invariant
