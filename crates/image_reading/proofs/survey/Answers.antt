-- Each refusal is that of the first check that fails.
use Rattle.std.proofs.Common.{rules, arith, sym, ◌∙◌}
use Rattle.image_reading.proofs.Lengths.{too_long, too_short}
use Rattle.image_reading.proofs.Stages.{trailered, trailer_stops, past_trailered, unsized, measured, few_parameters_lem}
use Rattle.image_reading.proofs.survey.Goals as goal

pub returns-in_err-refuse_unless : goal.returns-in_err-refuse_unless
returns-in_err-refuse_unless c =
    let s = too_long _ _ (sym c.in_err-refuse_unless.ensures) in search (rules, s)

pub returns-in_err-refuse_unless-2 : goal.returns-in_err-refuse_unless-2
returns-in_err-refuse_unless-2 c =
    let s = too_short _ _ (sym c.in_ok-refuse_unless.ensures) (sym c.in_err-refuse_unless-2.ensures) in search (rules, s)

pub returns-in_err-check_trailer : goal.returns-in_err-check_trailer
returns-in_err-check_trailer c =
    let k =
    trailered _ _ (sym c.in_ok-refuse_unless.ensures) (sym c.in_ok-refuse_unless-2.ensures) c.trailer_at-trailer.ensures in
    let s = trailer_stops _ _ k _ (sym c.in_err-check_trailer.ensures) in
    search (rules, s)

pub overflow_sub-from : goal.overflow_sub-from
overflow_sub-from c =
    let k =
    trailered _ _ (sym c.in_ok-refuse_unless.ensures) (sym c.in_ok-refuse_unless-2.ensures) c.trailer_at-trailer.ensures in
    (past_trailered _ _ k (sym c.in_ok-check_trailer.ensures)).within

pub check_widths-requires : goal.check_widths-requires
check_widths-requires c =
    let k =
    trailered _ _ (sym c.in_ok-refuse_unless.ensures) (sym c.in_ok-refuse_unless-2.ensures) c.trailer_at-trailer.ensures in
    omega (arith, past_trailered _ _ k (sym c.in_ok-check_trailer.ensures))

pub returns-in_err-sizes : goal.returns-in_err-sizes
returns-in_err-sizes c =
    let k =
    trailered _ _ (sym c.in_ok-refuse_unless.ensures) (sym c.in_ok-refuse_unless-2.ensures) c.trailer_at-trailer.ensures in
    let s = unsized _ _ k (sym c.in_ok-check_trailer.ensures) _ (sym c.in_err-sizes.ensures) in
    search (rules, s)

pub describe_length-requires : goal.describe_length-requires
describe_length-requires c =
    let few = few_parameters_lem _ _ _ (sym c.in_ok-sizes.ensures) in
    (c.trailer_at-trailer.ensures.few, omega (arith, few))

pub returns : goal.returns
returns c =
    let k =
    trailered _ _ (sym c.in_ok-refuse_unless.ensures) (sym c.in_ok-refuse_unless-2.ensures) c.trailer_at-trailer.ensures in
    c.describe_length.ensures ∙ measured _ _ k (sym c.in_ok-check_trailer.ensures) _ (sym c.in_ok-sizes.ensures)
