-- The first j places are written.
use Rattle.std.proofs.Common.{◌≡◌, length}
use Rattle.floats.specs.Places.{part_at, written_at}
use Rattle.floats.specs.Sums.{tabulate}
use Rattle.row_gradients.specs.Backward.{output_gradient}
use Rattle.row_gradients.proofs.backward.output_gradients.Given as goal

abbrev pub invariant-loop-j : goal.invariant-loop-j
invariant-loop-j l =
    l.work
    ≡ written_at l.initial.work l.to
    (tabulate (output_gradient (part_at l.initial.work l.from (length l.targets)) l.targets l.scale) l.j)
