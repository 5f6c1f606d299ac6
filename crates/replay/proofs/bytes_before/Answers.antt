-- The first mark, as std finds it.
use borrow.Author.Tests.{tests}
use Rattle.std.proofs.Common.{rules, ◌≡◌, eqb}
use Rattle.std.proofs.lemmas.Iterator.{YieldsList-from_slice}
use Rattle.std.proofs.lemmas.Iterator.Search.{position_from_yields_List}
use Rattle.std.specs.List.{position}
use Rattle.replay.proofs.Cuts.{first_mark}
use Rattle.replay.proofs.bytes_before.Goals as goal

pub returns : goal.returns
returns c =
    let found : c.position.result ≡ position (λ b. eqb b c.args.mark) c.args.text.now =
    position_from_yields_List (λ b. eqb b c.args.mark) _ _ c.position.result c.position.ensures.ran
    (YieldsList-from_slice c.args.text.now cc) (λ x b q k. search (rules, tests)) in
    rw (c.unwrap_or.ensures, found) (first_mark c.args.mark c.args.text.now)
