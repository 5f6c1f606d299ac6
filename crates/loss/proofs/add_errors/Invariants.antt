-- The errors so far are added.
use Rattle.std.proofs.Common.{length}
use Rattle.floats.specs.Sums.{sum_from}
use Rattle.loss.specs.Steps.{error_in, error_fault}
use Rattle.loss.proofs.Errors.{Running}
use Rattle.loss.proofs.add_errors.Given as goal

abbrev pub invariant-loop-output : goal.invariant-loop-output
invariant-loop-output l =
    Running (error_fault l.sum l.outputs l.targets) (sum_from l.sum (error_in l.outputs l.targets)) (length l.yielded) l.total
