-- 11, and the row past it.
use Rattle.std.proofs.Common.{◌∙◌, sym}
use Rattle.std.proofs.lemmas.Result.{err_from_is_err_and}
use Rattle.passes.proofs.Passes.{finite_model}
use Rattle.forward.proofs.Passing.{found_finite, ran_passed, wild_passed}
use Rattle.forward.proofs.pass.Goals as goal

pub returns-in_err-refuse_unless : goal.returns-in_err-refuse_unless
returns-in_err-refuse_unless c =
    let p = err_from_is_err_and c.from_residual.result c.from_residual.ensures.1 in
    rw (p.1, p.2) (wild_passed _ _ _ _ _ _ _ _ c.all_finite.ensures
    (sym c.in_err-refuse_unless.was ∙ c.refuse_unless.ensures))

pub run_row-requires : goal.run_row-requires
run_row-requires c =
    let f = found_finite _ _ c.all_finite.ensures c.refuse_unless.ensures c.in_ok-refuse_unless.was in
    (c.requires, finite_model _ f, c.first-start.ensures)

pub returns : goal.returns
returns c =
    let f = found_finite _ _ c.all_finite.ensures c.refuse_unless.ensures c.in_ok-refuse_unless.was in
    ran_passed _ _ _ _ _ _ _ _ _ f c.run_row.ensures
