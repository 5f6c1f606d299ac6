-- What a row asks, and what it leaves.
use Rattle.std.proofs.Common.{◌≡◌, ap, length, sym, ◌∙◌, arith}
use Rattle.batch_gradients.proofs.Turns.{first_some, last_some, row_starts, same_row, none_taken, all_taken}
use Rattle.batch_gradients.proofs.Turns.{taking, still_fits, still_same, still_clean, one_row}
use Rattle.batch_gradients.proofs.taking.take_rows.Goals as goal

pub rows_in-count-requires : goal.rows_in-count-requires
rows_in-count-requires c = first_some c.requires.0.walkable

pub loop-r-init : goal.loop-r-init
loop-r-init c = none_taken c.requires.4

pub row-input-requires : goal.row-input-requires
row-input-requires c =
    row_starts _ _ _ _ (first_some c.requires.0.walkable) c.rows_in-count.ensures c.loop-r-test.true

pub row-target-requires : goal.row-target-requires
row-target-requires c =
    row_starts _ _ _ _ (last_some c.requires.0.walkable) (c.rows_in-count.ensures ∙ sym c.requires.1.same) c.loop-r-test.true

pub take_row-requires : goal.take_row-requires
take_row-requires c =
    let t = taking c.requires.0 c.requires.1 c.requires.2 c.rows_in-count.ensures c.loop-r-test.true c.loop-r.invariant in (
      still_fits t,
      still_same t,
      ap length c.row-input.ensures ∙ t.full.inputs _ t.more,
      ap length c.row-target.ensures ∙ t.full.targets _ t.more,
      c.requires.3,
      still_clean t,
    )

pub loop-r-preserved : goal.loop-r-preserved
loop-r-preserved c =
    let t = taking c.requires.0 c.requires.1 c.requires.2 c.rows_in-count.ensures c.loop-r-test.true c.loop-r.invariant in
    let y = same_row c.row-input.ensures c.row-target.ensures c.take_row.ensures in
    one_row t c.take_row.auto.gradients c.take_row.auto.work y (grind arith)

pub returns : goal.returns
returns c =
    let e : c.loop-r.r ≡ c.rows_in-count.result = omega (arith, c.loop-r.auto.r-end, c.loop-r-test.false) in
    all_taken (e ∙ c.rows_in-count.ensures) c.loop-r.invariant
