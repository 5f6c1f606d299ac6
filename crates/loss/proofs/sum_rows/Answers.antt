-- Before row r and after its run.
use Rattle.std.proofs.Common.{◌∙◌, arith, sym}
use Rattle.std.proofs.lemmas.Result.{err_from_is_err_and}
use Rattle.passes.proofs.Passes.{kept_all}
use Rattle.passes.proofs.EachRow.{fits_now, finite_all, ran}
use Rattle.loss.proofs.Errors.{before_row, none_summed, one_added, stop_added, row_stops, row_added, rows_summed}
use Rattle.loss.proofs.sum_rows.Goals as goal

pub loop-r-init : goal.loop-r-init
loop-r-init c = record { bound = omega arith; running = none_summed _ _ _ _ _; kept = kept_all _ _ _ }

pub run_row-requires : goal.run_row-requires
run_row-requires c =
    let t = before_row c.requires c.loop-r-test.true c.loop-r.invariant in
    (fits_now t, finite_all t, c.first-start.ensures)

pub returns-in_err-run_row : goal.returns-in_err-run_row
returns-in_err-run_row c =
    let t = before_row c.requires c.loop-r-test.true c.loop-r.invariant in
    let d = ran t c.row.ensures c.run_row.auto.first c.run_row.auto.second c.run_row.ensures in
    let p = err_from_is_err_and c.from_residual.result c.from_residual.ensures.1 in
    let stops = row_stops _ (c.requires.batch.inputs _ t.more) d c.in_err-run_row.was in
    rw (p.1, p.2) (rows_summed d.kept (stop_added _ t.more c.loop-r.invariant.running stops))

pub returns-in_err-sum : goal.returns-in_err-sum
returns-in_err-sum c =
    let t = before_row c.requires c.loop-r-test.true c.loop-r.invariant in
    let d = ran t c.row.ensures c.run_row.auto.first c.run_row.auto.second c.run_row.ensures in
    let p = err_from_is_err_and c.from_residual-in_err-sum.result c.from_residual-in_err-sum.ensures.1 in
    let added = row_added c.args.targets.now (c.requires.batch.inputs _ t.more) d c.loop-r.invariant.running.value c.in_ok-run_row.was in
    let stops = sym ((rw c.row-in-loop-r.ensures at c.row_errors.ensures) ∙ added) ∙ c.in_err-sum.was in
    rw (p.1, p.2) (rows_summed d.kept (stop_added _ t.more c.loop-r.invariant.running stops))

pub loop-r-preserved : goal.loop-r-preserved
loop-r-preserved c =
    let t = before_row c.requires c.loop-r-test.true c.loop-r.invariant in
    let d = ran t c.row.ensures c.run_row.auto.first c.run_row.auto.second c.run_row.ensures in
    let added = row_added c.args.targets.now (c.requires.batch.inputs _ t.more) d c.loop-r.invariant.running.value c.in_ok-run_row.was in
    record {
      bound = omega (arith, c.loop-r-test.true);
      running = one_added c.loop-r.invariant.running (sym ((rw c.row-in-loop-r.ensures at c.row_errors.ensures) ∙ added) ∙ c.in_ok-sum.was);
      kept = d.kept;
    }
