-- The part begins where the image does.
use Rattle.std.proofs.Common.{arith, sym, ◌∙◌}
use Rattle.std.proofs.lemmas.List.{length-take-le}
use Rattle.image_reading.proofs.Parts.{described_room, read_refused, read_accepted}
use Rattle.image_reading.proofs.read.Goals as goal

pub overflow_mul-end : goal.overflow_mul-end
overflow_mul-end c = omega (arith, described_room _ _ (sym c.describe.ensures ∙ c.in-Ok.is))

pub slice_bounds-result-end : goal.slice_bounds-result-end
slice_bounds-result-end c =
    let room = described_room _ _ (sym c.describe.ensures ∙ c.in-Ok.is) in sym (length-take-le _ _ (omega (arith, room)))

pub returns-in-Ok : goal.returns-in-Ok
returns-in-Ok c = read_accepted _ _ _ (sym c.describe.ensures ∙ c.in-Ok.is)

pub returns-in-Err : goal.returns-in-Err
returns-in-Err c = read_refused _ _ _ (sym c.describe.ensures ∙ c.in-Err.is)
