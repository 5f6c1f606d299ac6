-- The refusal of a row is that of all rows.
use Rattle.std.proofs.Common.{rules, length}
use Rattle.refusals.proofs.Firsts.{stops_at}
use Rattle.batches.specs.Batch.{rows_in, rows_fault}
use Rattle.batches.specs.Sound.{row_fault_at}
use Rattle.batches.proofs.check_rows.Goals as goal

-- src/lib.rt:54:9
pub returns-in_err-check_row : goal.returns-in_err-check_row
unfolding rows_fault
returns-in_err-check_row c =
    let at = c.args in
    let s =
    stops_at (row_fault_at at.width at.not_wide at.not_finite at.xs.now) c.loop-r.r
    (rows_in (length at.xs.now) at.width) 0 c.in_err-check_row.field-0.0
    (search rules) c.loop-r.invariant (search rules) in
    search (rules, s)
