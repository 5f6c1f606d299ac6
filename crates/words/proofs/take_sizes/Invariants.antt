-- After i turns i words are read.
use Rattle.std.proofs.Common.{◌≡◌, ◌++◌, ℕ, ◌+◌, ◌*◌, drop}
use Rattle.floats.specs.Sums.{tabulate}
use Rattle.words.specs.Words.{word_at}
use Rattle.words.proofs.take_sizes.Given as goal

abbrev pub invariant-loop-i : goal.invariant-loop-i
invariant-loop-i l =
    l.sizes ≡ tabulate (λ (k : ℕ). word_at l.bytes (l.from + k * 4)) l.i ++ drop l.i l.initial.sizes
