-- As many bytes as pass the class's test one after the other.
use Rattle.std.proofs.Common.{◌≡◌, ◌∙◌, rules, tests, take, drop, length, ◌-◌, arith}
use Rattle.std.specs.List.{prefix_len}
use Rattle.std.proofs.Math.ListN.{length-drop}
use Rattle.std.proofs.lemmas.List.{take_all}
use Rattle.std.proofs.lemmas.Iterator.{YieldsList-from_slice}
use Rattle.std.proofs.lemmas.Iterator.Search.{YieldsList-from_take_while}
use Rattle.std.proofs.lemmas.Iterator.Consumers.{count_from_yields_List}
use Rattle.std.proofs.lemmas.List.Folds.{length-prefix_len}
use Rattle.npy_tokens.specs.Tokens.{belongs}
use Rattle.npy_tokens.proofs.Spans.{ended}
use Rattle.npy_tokens.proofs.end_of.Goals as goal

pub returns : goal.returns
returns c =
    let bytes = drop c.args.from c.args.text.now in
    let passes = belongs c.args.class in
    let whole : take (length c.args.text.now - c.args.from) bytes ≡ bytes = take_all _ bytes (omega (arith, length-drop c.args.from c.args.text.now)) in
    let source : c.take_while.result.iter.rest.now ≡ bytes = cc (whole, c.take_while.ensures.source, c.iter.ensures.rest) in
    let n : c.count.result ≡ prefix_len passes bytes =
    count_from_yields_List c.take_while.result _ c.count.ensures.ran
    (YieldsList-from_take_while _ passes (YieldsList-from_slice bytes source) c.take_while.ensures.closure
    c.take_while.ensures.done (λ x b q k. search (rules, tests)))
    ∙ length-prefix_len passes bytes in
    rw n (ended c.args.text.now c.args.from c.args.class c.requires)
