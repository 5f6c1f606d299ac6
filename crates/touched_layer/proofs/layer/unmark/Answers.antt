use Rattle.std.proofs.Common.{◌≡◌, ◌++◌, ap, ◌∙◌, rules, List, ℕ, drop, replicate}
use Rattle.touched_layer.proofs.Marking.{blank_is}
use Rattle.touched_layer.proofs.layer.unmark.Goals as goal

pub returns : goal.returns
returns c =
    let filled : c.fill.new.self ≡ replicate c.args.n 0 = search rules in
    ap (λ (l : List ℕ). l ++ drop c.args.n c.args.map.now) (filled ∙ blank_is c.args.n)
