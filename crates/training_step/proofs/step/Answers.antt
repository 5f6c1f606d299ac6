-- Gathered, then moved or left.
use Rattle.std.proofs.lemmas.Result.{err_from_is_err_and}
use Rattle.training_step.proofs.Stepping.{step_stopped, step_moved}
use Rattle.training_step.proofs.step.Goals as goal

pub returns-in_err-gather : goal.returns-in_err-gather
returns-in_err-gather c =
    let p = err_from_is_err_and c.from_residual.result c.from_residual.ensures.1 in
    rw (p.1, p.2) (step_stopped _ _ _ _ _ _ c.in_err-gather.ensures)

pub returns : goal.returns
returns c = step_moved _ _ _ _ _ _ c.in_ok-gather.ensures c.move_or_leave.ensures
