-- Before row r, after its run, and its place among the outputs.
use Rattle.std.proofs.Common.{◌≡◌, arith}
use borrow.Rule.Slice.PartMut.{same_len_mid}
use Rattle.std.proofs.lemmas.Result.{err_from_is_err_and}
use Rattle.floats.proofs.Loops.{rest_length}
use Rattle.passes.proofs.Passes.{kept_all}
use Rattle.passes.proofs.EachRow.{row_in, fits_now, finite_all, ran, fits_kept, outputs_room}
use Rattle.prediction.proofs.Rows.{before_row, place, mapped_ok, mapped_err, none_written, row_written, row_refused, all_written}
use Rattle.prediction.proofs.predict_rows.Goals as goal

pub loop-r-init : goal.loop-r-init
loop-r-init c = record { bound = omega arith; written = none_written; kept = kept_all _ _ _ }

pub row-requires : goal.row-requires
row-requires c = row_in (before_row c.requires c.loop-r-test.true c.loop-r.invariant)

pub run_row-requires : goal.run_row-requires
run_row-requires c =
    let t = before_row c.requires c.loop-r-test.true c.loop-r.invariant in
    (fits_now t, finite_all t, c.first-start.ensures)

pub returns-in_err-map_err : goal.returns-in_err-map_err
returns-in_err-map_err c =
    let t = before_row c.requires c.loop-r-test.true c.loop-r.invariant in
    let d = ran t c.row.ensures c.run_row.auto.first c.run_row.auto.second c.run_row.ensures in
    let p = err_from_is_err_and c.from_residual.result c.from_residual.ensures.1 in
    let m = mapped_err _ _ _ _ c.map_err.ensures.cases c.in_err-map_err.was in
    let z : c.in_err-map_err.field-0.0 ≡ record { number = m.0.number; carried = c.loop-r.r-counter } = grind (arith, m.2) in
    rw (p.1, p.2, z) (row_refused t.more c.loop-r.invariant.written d m.1)

pub copy_outputs-requires : goal.copy_outputs-requires
copy_outputs-requires c =
    let t = before_row c.requires c.loop-r-test.true c.loop-r.invariant in
    let d = ran t c.row.ensures c.run_row.auto.first c.run_row.auto.second c.run_row.ensures in
    let r = outputs_room (fits_kept c.requires.fits d.kept) in
    (r.0, r.1, rw rest_length (omega (arith, place c.requires c.loop-r-test.true c.loop-r.invariant)))

pub loop-r-preserved : goal.loop-r-preserved
loop-r-preserved c =
    let t = before_row c.requires c.loop-r-test.true c.loop-r.invariant in
    let d = ran t c.row.ensures c.run_row.auto.first c.run_row.auto.second c.run_row.ensures in
    let ok = mapped_ok _ _ c.map_err.ensures.variant c.in_ok-map_err.was in
    let here = place c.requires c.loop-r-test.true c.loop-r.invariant in
    record {
      bound = omega (arith, c.loop-r-test.true);
      written =
          row_written _ c.requires.fits.walkable.some (omega (arith, here))
          (same_len_mid _ _ _ _ c.copy_outputs.auto.outputs) c.loop-r.invariant.written d ok
          c.copy_outputs.ensures;
      kept = d.kept;
    }

pub returns : goal.returns
returns c =
    let k = c.loop-r.invariant in
    all_written (omega (arith, k.bound, c.requires.count)) k.written k.kept
