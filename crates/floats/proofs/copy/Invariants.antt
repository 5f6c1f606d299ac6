-- After i turns the first i numbers are those of the source.
use Rattle.std.proofs.Common.{◌≡◌, ◌++◌, drop}
use Rattle.floats.specs.Sums.{tabulate, at}
use Rattle.floats.proofs.copy.Given as goal

abbrev pub invariant-loop-i : goal.invariant-loop-i
invariant-loop-i l = l.to ≡ tabulate (at l.from) l.i ++ drop l.i l.fn.to
