-- Refused by a check up to 9, or passed and swept.
use Rattle.std.proofs.Common.{◌∙◌, sym, refl, arith, length, ◌-◌}
use Rattle.std.proofs.lemmas.Result.{err_from_is_err_and}
use Rattle.config.proofs.Answers.{rejected}
use Rattle.passes.proofs.Past9.{fitted, sound_past9, first_room, second_room}
use Rattle.forward.proofs.Passing.{as_wide, not_begun, passed_through, held_back}
use Rattle.forward.proofs.run.Goals as goal

pub returns-in_err-sizes : goal.returns-in_err-sizes
returns-in_err-sizes c =
    let p = err_from_is_err_and c.from_residual.result c.from_residual.ensures.1 in
    let r = rejected _ _ _ (sym c.check_work.ensures ∙ c.in_err-sizes.was) in
    rw (p.1, p.2) (not_begun _ _ _ _ _ _ _ _ r.number (λ z. r.stopped (r.number ∙ z)))

pub overflow_sub-layers : goal.overflow_sub-layers
overflow_sub-layers c =
    let k = sound_past9 _ _ _ _ _ _ (sym c.check_work.ensures ∙ c.in_ok-sizes.was) in
    omega (arith, k.checked.size.some)

pub pass-requires : goal.pass-requires
pass-requires c =
    fitted _ _ _ _ _ (sound_past9 _ _ _ _ _ _ (sym c.check_work.ensures ∙ c.in_ok-sizes.was)).checked

pub bounds-widths-layers : goal.bounds-widths-layers
bounds-widths-layers c =
    let k = sound_past9 _ _ _ _ _ _ (sym c.check_work.ensures ∙ c.in_ok-sizes.was) in
    omega (arith, k.checked.size.some)

pub sweep_pass-requires : goal.sweep_pass-requires
sweep_pass-requires c =
    let k = sound_past9 _ _ _ _ _ _ (sym c.check_work.ensures ∙ c.in_ok-sizes.was) in
    let size = k.checked.size in
    let last = size.within (length c.args.widths.now - 1) (omega (arith, size.some)) in (
      omega (arith, last, k.widest),
      omega (arith, first_room k, c.pass.auto.first),
      omega (arith, second_room k, c.pass.auto.second),
    )

pub sweep_pass-requires-in-Err : goal.sweep_pass-requires-in-Err
sweep_pass-requires-in-Err c =
    let k = sound_past9 _ _ _ _ _ _ (sym c.check_work.ensures ∙ c.in_ok-sizes.was) in
    (omega arith, omega (arith, first_room k, c.pass.auto.first), omega (arith, second_room k, c.pass.auto.second))

pub returns-in-Ok : goal.returns-in-Ok
returns-in-Ok c =
    let k = sound_past9 _ _ _ _ _ _ (sym c.check_work.ensures ∙ c.in_ok-sizes.was) in
    passed_through _ _ _ _ _ _ _ _ _ _ _ _ k.passed c.pass.auto.first c.pass.auto.second c.pass.ensures
    _ refl c.in-Ok.is (as_wide (sym k.widest) c.sweep_pass.ensures)

pub returns-in-Err : goal.returns-in-Err
returns-in-Err c =
    let k = sound_past9 _ _ _ _ _ _ (sym c.check_work.ensures ∙ c.in_ok-sizes.was) in
    held_back _ _ _ _ _ _ _ _ _ _ _ _ k.passed c.pass.auto.first c.pass.auto.second c.pass.ensures
    _ c.in-Err.is (as_wide (sym k.widest) c.sweep_pass-in-Err.ensures)
