use mathlib.Core.Path.{◌≡◌, ap, ◌∙◌}
use lib.ListN.{drop}
use Rattle.npy_tokens.specs.Tokens.{after_token, string_in, after_string}
use Rattle.npy_tokens.specs.Places.{part}
use Rattle.npy_header.specs.Reading.{entry_of}
use Rattle.npy_header.proofs.entries.take_entry.Goals as goal

pub returns : goal.returns
unfolding entry_of
returns c =
    λ s w.
    let key = c.string-key.ensures in
    let text = c.args.text.now in
    let name = c.string-key.result in
    let words : part text name.from name.end ≡ string_in s.rest = key.content ∙ ap string_in w.place.rest in
    let rest : drop c.past_token-value.result text ≡ after_token 58 (after_string s.rest) =
    c.past_token-value.ensures.rest ∙ ap (after_token 58) (key.place.rest ∙ ap after_string w.place.rest) in
    rw (← words, ← rest) (c.take_value.ensures s w)
