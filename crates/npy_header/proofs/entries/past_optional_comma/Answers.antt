use mathlib.Core.Path.{sym, ap, ◌∙◌}
use native.Mathlib.Omega.{arith}
use Rattle.npy_tokens.specs.Tokens.{after_byte, begins_with}
use Rattle.npy_tokens.proofs.Texts.{begins_inside, past_begun}
use Rattle.npy_header.proofs.entries.past_optional_comma.Goals as goal

pub returns-then-stands_at : goal.returns-then-stands_at
returns-then-stands_at c =
    let here = c.end_of-here.ensures.place.rest in
    let begun = sym c.stands_at.ensures ∙ c.if-stands_at.true in
    let text = c.args.text.now in
    let comma = c.end_of-here.result in
    record {
      inside = omega (arith, begins_inside text comma 44 begun);
      rest = sym (past_begun text comma 44 begun) ∙ ap (after_byte 44) here ∙ rw (sym (ap (begins_with 44) here) ∙ begun);
    }
