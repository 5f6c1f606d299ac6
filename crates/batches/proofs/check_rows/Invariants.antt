-- No row so far has a fault.
use Rattle.std.proofs.Common.{◌≡◌}
use Rattle.refusals.specs.Refusals.{first_to}
use Rattle.batches.specs.Sound.{row_fault_at}
use Rattle.batches.proofs.check_rows.Given as goal

abbrev pub invariant-loop-r : goal.invariant-loop-r
invariant-loop-r l = first_to (row_fault_at l.width l.not_wide l.not_finite l.xs) l.r ≡ 0
