-- After i turns i numbers are read.
use Rattle.std.proofs.Common.{◌≡◌, ◌++◌, ℕ, ◌*◌, drop}
use Rattle.floats.specs.Sums.{tabulate}
use Rattle.words.specs.Words.{float_at}
use Rattle.words.proofs.take_floats.Given as goal

abbrev pub invariant-loop-i : goal.invariant-loop-i
invariant-loop-i l = l.floats ≡ tabulate (λ (k : ℕ). float_at l.bytes (k * 4)) l.i ++ drop l.i l.initial.floats
