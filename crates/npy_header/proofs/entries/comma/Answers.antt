use mathlib.Core.Path.{ap, ◌∙◌}
use Rattle.npy_tokens.specs.Tokens.{after_token}
use Rattle.npy_header.specs.Reading.{comma_of}
use Rattle.npy_header.proofs.entries.comma.Goals as goal

pub returns : goal.returns
unfolding comma_of
returns c =
    λ sizes s w.
    let found = c.past_token.ensures in
    record {
      place = record { inside = found.inside; rest = found.rest ∙ ap (after_token 44) w.place.rest };
      descr = w.descr;
      order = w.order;
      shape = w.shape;
    }
