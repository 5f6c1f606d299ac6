-- The checks up to 8, and then the move.
use Rattle.std.proofs.Common.{sym}
use Rattle.std.proofs.lemmas.Result.{err_from_is_err_and}
use Rattle.config.proofs.Answers.{accepted, rejected}
use Rattle.split_training.proofs.Moving.{not_begun, begun}
use Rattle.split_training.proofs.applying.apply.Goals as goal

pub returns-in_err-check_model : goal.returns-in_err-check_model
returns-in_err-check_model c =
    let p = err_from_is_err_and c.from_residual.result c.from_residual.ensures.1 in
    rw (p.1, p.2) (not_begun _ _ _ _ _ (rejected _ _ _ (sym c.in_err-check_model.ensures)))

pub returns : goal.returns
returns c = begun _ _ _ _ _ (accepted _ _ _ (sym c.in_ok-check_model.ensures)).passed c.apply_sound.ensures
