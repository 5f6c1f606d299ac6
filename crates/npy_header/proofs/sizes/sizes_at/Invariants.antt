use Prim.Native.Nat.{◌-◌}
use lib.ListN.{length}
use Rattle.npy_header.proofs.Walks.{Walked}
use Rattle.npy_header.proofs.sizes.sizes_at.Given as goal

abbrev pub invariant-loop-matched : goal.invariant-loop-matched
invariant-loop-matched l = Walked l.text l.shape l.at l.next l.matched

abbrev pub decreases-loop-matched : goal.decreases-loop-matched
decreases-loop-matched l = length l.text - l.next
