use Prim.Native.Nat.{◌-◌, ℕ}
use mathlib.Core.Path.{ap, ◌∙◌}
use lib.Seq.{take_all}
use lib.ListN.{length, drop, length-drop}
use native.Mathlib.Omega.{arith}
use mathlib.Core.List.{List, [], ◌∷◌}
use Rattle.npy_tokens.specs.declared.Class.TheVariants.{Space}
use Rattle.npy_tokens.specs.Tokens.{behind, after_token, same}
use Rattle.npy_header.specs.Reading.{is_closed}
use Rattle.npy_header.proofs.entries.is_closed.Goals as goal

pub returns : goal.returns
unfolding is_closed
returns c =
    let text = c.args.text.now in
    let last = c.end_of-newline.result in
    let whole = take_all (length text - last) (drop last text) (rw length-drop (omega arith)) in
    c.spells.ensures
    ∙ ap (λ (t : List ℕ). same t (10 ∷ []))
    (whole ∙ c.end_of-newline.ensures.place.rest
    ∙ ap (behind Space) (c.past_token-brace.ensures.rest ∙ ap (after_token 125) c.past_optional_comma-last.ensures.rest))
