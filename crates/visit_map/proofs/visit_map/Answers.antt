-- Refused by a check up to 9, or visited and swept.
use Rattle.std.proofs.Common.{◌∙◌, sym, arith}
use Rattle.std.proofs.lemmas.Result.{err_from_is_err_and}
use Rattle.config.proofs.Answers.{rejected}
use Rattle.passes.proofs.Past9.{sound_past9, first_room, second_room}
use Rattle.visit_map.proofs.Calls.{not_begun, swept_after}
use Rattle.visit_map.proofs.visit_map.Goals as goal

pub returns-in_err-sizes : goal.returns-in_err-sizes
returns-in_err-sizes c =
    let p = err_from_is_err_and c.from_residual.result c.from_residual.ensures.1 in
    rw (p.1, p.2) (not_begun _ _ _ _ _ _ _ _ _ (rejected _ _ _ (sym c.check_work.ensures ∙ c.in_err-sizes.was)))

pub clear-requires : goal.clear-requires
clear-requires c =
    let k = sound_past9 _ _ _ _ _ _ (sym c.check_work.ensures ∙ c.in_ok-sizes.was) in
    omega (arith, first_room k, c.visit_sound-answer.auto.first)

pub clear-requires-2 : goal.clear-requires-2
clear-requires-2 c =
    let k = sound_past9 _ _ _ _ _ _ (sym c.check_work.ensures ∙ c.in_ok-sizes.was) in
    omega (arith, second_room k, c.visit_sound-answer.auto.second)

pub returns : goal.returns
returns c =
    let k = sound_past9 _ _ _ _ _ _ (sym c.check_work.ensures ∙ c.in_ok-sizes.was) in
    swept_after _ _ _ _ _ _ _ _ _ _ k c.visit_sound-answer.ensures c.clear.ensures c.clear-2.ensures
