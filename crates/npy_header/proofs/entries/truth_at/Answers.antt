use mathlib.Core.Path.{sym, ap, ◌∙◌}
use Rattle.npy_tokens.specs.Tokens.{after_bytes, begins_with}
use Rattle.npy_header.specs.Dictionary.{true_word, false_word}
use Rattle.npy_header.proofs.entries.truth_at.Goals as goal

pub returns-then-stands_at : goal.returns-then-stands_at
unfolding true_word false_word
returns-then-stands_at c =
    let here = c.end_of-word.ensures.place.rest in
    let holds = sym c.if-stands_at.true ∙ c.stands_at.ensures ∙ ap (begins_with 84) here in
    record {
      holds = holds;
      place = record {
        inside = c.past_bytes.ensures.inside;
        rest = c.past_bytes.ensures.rest ∙ ap (after_bytes true_word) here ∙ rw (← holds);
      };
    }

pub returns : goal.returns
unfolding true_word false_word
returns c =
    let here = c.end_of-word.ensures.place.rest in
    let holds = sym c.if-stands_at.false ∙ c.stands_at.ensures ∙ ap (begins_with 84) here in
    record {
      holds = holds;
      place = record {
        inside = c.past_bytes-2.ensures.inside;
        rest = c.past_bytes-2.ensures.rest ∙ ap (after_bytes false_word) here ∙ rw (← holds);
      };
    }
