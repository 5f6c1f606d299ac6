-- The words so far are stored, and each turn leaves a shorter rest of the line.
use Rattle.std.proofs.Common.{length}
use Rattle.replay.proofs.Words.{Taken}
use Rattle.replay.proofs.tagged.Given as goal

abbrev pub invariant-loop-mark : goal.invariant-loop-mark
invariant-loop-mark l = Taken l.rest l.fn.words l.words l.left l.count

abbrev pub decreases-loop-mark : goal.decreases-loop-mark
decreases-loop-mark l = length l.left
