use Rattle.std.proofs.Common.{◌≡◌, ◌++◌, drop}
use Rattle.floats.specs.Sums.{tabulate}
use Rattle.update.specs.Calls.{moved_at}
use Rattle.update.proofs.move_all.Given as goal

abbrev pub invariant-loop-i : goal.invariant-loop-i
invariant-loop-i l = l.model ≡ tabulate (moved_at l.fn.model l.gradients l.rate) l.i ++ drop l.i l.fn.model
