-- 11, once the image is surveyed.
use Rattle.std.proofs.Common.{rules, arith, sym}
use Rattle.image_reading.proofs.Parts.{surveyed_room, survey_stops, all_sound, some_unsound}
use Rattle.image_reading.proofs.describe.Goals as goal

pub returns-in_err-surveyed : goal.returns-in_err-surveyed
returns-in_err-surveyed c =
    let s = survey_stops _ _ (sym c.in_err-surveyed.ensures) in search (rules, s)

pub all_finite-requires : goal.all_finite-requires
all_finite-requires c = omega (arith, surveyed_room _ _ (sym c.in_ok-surveyed.ensures))

pub returns-in_err-refuse_unless : goal.returns-in_err-refuse_unless
returns-in_err-refuse_unless c =
    let found = c.all_finite.ensures in
    let s = some_unsound _ _ _ (sym c.in_ok-surveyed.ensures) (sym (rw found at c.in_err-refuse_unless.ensures)) in
    search (rules, s)

pub returns : goal.returns
returns c =
    let found = c.all_finite.ensures in
    all_sound _ _ (sym c.in_ok-surveyed.ensures) (sym (rw found at c.in_ok-refuse_unless.ensures))
