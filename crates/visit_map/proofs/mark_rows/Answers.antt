-- What is known past check 11, in a turn, and after a row was marked.
use Rattle.std.proofs.Common.{◌≡◌, ◌<◌, sym, arith}
use Rattle.passes.specs.Pass.{rows_of}
use Rattle.passes.proofs.EachRow.{row_in}
use Rattle.visit_map.proofs.Calls.{past11}
use Rattle.visit_map.proofs.Rows.{in_row_turn, before_first, as_long, may_mark_row, at_row, row_left, one_row, stopped_at, visited_all}
use Rattle.visit_map.proofs.mark_rows.Goals as goal

pub bounds-widths-0 : goal.bounds-widths-0
bounds-widths-0 c = omega (arith, (past11 _ _ _ _ _ _ c.requires).work.size.some)

pub rows_in-r-end-requires : goal.rows_in-r-end-requires
rows_in-r-end-requires c =
    let z = (past11 _ _ _ _ _ _ c.requires).work.size in z.positive 0 (omega (arith, z.some))

pub loop-r-init : goal.loop-r-init
loop-r-init c =
    before_first c.args.map.now _ (past11 _ _ _ _ _ _ c.requires).bytes c.unmark.ensures

pub row-row-requires : goal.row-row-requires
row-row-requires c =
    let h : c.loop-r.r < rows_of c.args.widths.now c.args.inputs.now = omega (arith, c.rows_in-r-end.ensures) in
    let within = row_in (at_row (in_row_turn c.requires h c.loop-r.invariant)) in omega (arith, within)

pub mark_row-marked-requires : goal.mark_row-marked-requires
mark_row-marked-requires c =
    let h : c.loop-r.r < rows_of c.args.widths.now c.args.inputs.now = omega (arith, c.rows_in-r-end.ensures) in
    may_mark_row (in_row_turn c.requires h c.loop-r.invariant)

-- a map of P bytes is as long as the one that was lent, which is all that is cleared
pub unmark-requires-in-Err : goal.unmark-requires-in-Err
unmark-requires-in-Err c =
    let h : c.loop-r.r < rows_of c.args.widths.now c.args.inputs.now = omega (arith, c.rows_in-r-end.ensures) in
    let m = c.mark_row-marked in
    let left = row_left (in_row_turn c.requires h c.loop-r.invariant) c.row-row.ensures m.ensures m.auto.first m.auto.second m.auto.map in
    omega (arith, as_long _ _ _ _ _ _ c.requires left.size)

pub returns-in-Err : goal.returns-in-Err
returns-in-Err c =
    let h : c.loop-r.r < rows_of c.args.widths.now c.args.inputs.now = omega (arith, c.rows_in-r-end.ensures) in
    let m = c.mark_row-marked in
    let left = row_left (in_row_turn c.requires h c.loop-r.invariant) c.row-row.ensures m.ensures m.auto.first m.auto.second m.auto.map in
    stopped_at left c.in-Err.is (sym (as_long _ _ _ _ _ _ c.requires left.size)) c.unmark-in-Err.ensures

pub loop-r-preserved : goal.loop-r-preserved
loop-r-preserved c =
    let h : c.loop-r.r < rows_of c.args.widths.now c.args.inputs.now = omega (arith, c.rows_in-r-end.ensures) in
    let m = c.mark_row-marked in
    let left = row_left (in_row_turn c.requires h c.loop-r.invariant) c.row-row.ensures m.ensures m.auto.first m.auto.second m.auto.map in
    one_row left c.in_default.is

pub returns : goal.returns
returns c =
    let all : c.loop-r.r ≡ rows_of c.args.widths.now c.args.inputs.now = omega (arith, c.rows_in-r-end.ensures) in
    visited_all c.requires all c.loop-r.invariant
