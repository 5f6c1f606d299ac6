use Rattle.std.proofs.lemmas.Result.{err_from_is_err_and}
use mathlib.Core.Path.{sym, ◌∙◌}
use Rattle.config.proofs.Answers.{accepted}
use Rattle.layer_coefficients.proofs.Layers.{ready}
use Rattle.npy_writing.proofs.Calls.{refused, answered}
use Rattle.npy_writing.proofs.write_npy.Goals as goal

pub returns-in_err-check_model : goal.returns-in_err-check_model
returns-in_err-check_model c =
    let p = err_from_is_err_and c.from_residual.result c.from_residual.ensures.1 in
    rw (p.1, p.2) (refused _ _ _ _ _ _ (sym c.check_model.ensures ∙ c.in_err-check_model.was))

pub write_sound-requires : goal.write_sound-requires
write_sound-requires c =
    ready _ _ _ (accepted _ _ _ (sym c.check_model.ensures ∙ c.in_ok-check_model.was)).passed

pub returns : goal.returns
returns c =
    answered _ _ _ _ _ (accepted _ _ _ (sym c.check_model.ensures ∙ c.in_ok-check_model.was)).passed _ _
    c.write_sound.ensures
