-- A row that is refused by its own checks, and one that goes through the layers.
use Rattle.std.proofs.Common.{◌∙◌, sym}
use Rattle.std.proofs.lemmas.Result.{err_from_is_err_and}
use Rattle.passes.proofs.Rows.{faultless, at_fault, room, through}
use Rattle.passes.proofs.run_row.Goals as goal

pub returns-in_err-check_row : goal.returns-in_err-check_row
returns-in_err-check_row c =
    let p = err_from_is_err_and c.from_residual.result c.from_residual.ensures.1 in
    rw (p.1, p.2) (at_fault _ _ _ _ _ _ _ (sym c.in_err-check_row.was ∙ c.check_row.ensures))

pub copy-requires : goal.copy-requires
copy-requires c = room (faultless c.requires.0 c.check_row.ensures c.in_ok-check_row.was)

pub returns : goal.returns
returns c =
    through (faultless c.requires.0 c.check_row.ensures c.in_ok-check_row.was) c.copy.ensures c.run_layers.ensures
