use Prim.Native.Nat.{ℕ}
use mathlib.Core.Path.{sym, ap, ◌∙◌}
use mathlib.Core.List.{List}
use Rattle.npy_tokens.specs.Tokens.{same}
use Rattle.npy_header.specs.Dictionary.{single_word}
use Rattle.npy_header.proofs.Founds.{takes_descr}
use Rattle.npy_header.proofs.entries.take_descr.Goals as goal

pub returns : goal.returns
unfolding single_word
returns c =
    λ sizes s w.
    let value = c.string-value.ensures in
    takes_descr _ sizes s _ w _ _ _ (sym c.is_some.ensures ∙ c.if-is_some.false) value.place
    (c.spells-asked.ensures ∙ ap (λ (t : List ℕ). same t single_word) value.content)
