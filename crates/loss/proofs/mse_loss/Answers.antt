-- What the checks leave where they accept, and the sweep.
use Rattle.std.proofs.Common.{◌∙◌, arith, sym}
use Rattle.passes.proofs.Past9.{sound_past9, fitted, first_room, second_room}
use Rattle.loss.proofs.Losses.{loss_done}
use Rattle.loss.proofs.mse_loss.Goals as goal

pub loss_sound-answer-requires : goal.loss_sound-answer-requires
loss_sound-answer-requires c =
    fitted _ _ _ _ _ (sound_past9 _ _ _ _ _ _ (sym c.check_work.ensures ∙ c.in_ok-sizes.was)).checked

pub clear-requires : goal.clear-requires
clear-requires c =
    let room = first_room (sound_past9 _ _ _ _ _ _ (sym c.check_work.ensures ∙ c.in_ok-sizes.was)) in
    omega (arith, room, c.loss_sound-answer.auto.first)

pub clear-requires-2 : goal.clear-requires-2
clear-requires-2 c =
    let room = second_room (sound_past9 _ _ _ _ _ _ (sym c.check_work.ensures ∙ c.in_ok-sizes.was)) in
    omega (arith, room, c.loss_sound-answer.auto.second)

pub returns : goal.returns
returns c =
    let s = sound_past9 _ _ _ _ _ _ (sym c.check_work.ensures ∙ c.in_ok-sizes.was) in
    loss_done _ _ s c.loss_sound-answer.ensures c.clear.ensures c.clear-2.ensures
