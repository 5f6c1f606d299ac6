-- `run_list` ends: each turn passes a line. There are no more lines than bytes.
use Rattle.std.proofs.Common.{◌-◌, ◌≤◌}
use Rattle.case_lists.proofs.run_list.Given as goal

abbrev pub invariant-loop-at : goal.invariant-loop-at
invariant-loop-at g l = l.number ≤ l.at

abbrev pub decreases-loop-at : goal.decreases-loop-at
decreases-loop-at g l = 1048576 - l.at
