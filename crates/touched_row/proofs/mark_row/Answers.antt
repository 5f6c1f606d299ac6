-- A row that is refused by its own checks, and one that goes through the layers.
use Rattle.std.proofs.Common.{◌∙◌, sym}
use Rattle.std.proofs.lemmas.Result.{err_from_is_err_and}
use Rattle.passes.proofs.Rows.{faultless, room}
use Rattle.touched_row.proofs.Rows.{row_at_fault, row_through}
use Rattle.touched_row.proofs.mark_row.Goals as goal

pub returns-in_err-check_row : goal.returns-in_err-check_row
returns-in_err-check_row c =
    let p = err_from_is_err_and c.from_residual.result c.from_residual.ensures.1 in
    rw (p.1, p.2) (row_at_fault _ _ _ _ _ _ _ _ (sym c.in_err-check_row.was ∙ c.check_row.ensures))

pub copy-requires : goal.copy-requires
copy-requires c = room (faultless c.requires.fits c.check_row.ensures c.in_ok-check_row.was)

pub returns : goal.returns
returns c =
    row_through (faultless c.requires.fits c.check_row.ensures c.in_ok-check_row.was) c.copy.ensures
    c.mark_layers.ensures
