-- The pattern is that of the rounded number, which is the definition's.
use Rattle.std.proofs.Common.{◌+◌, ◌*◌, ◌/◌, ◌^◌, false, ◌∙◌}
use Rattle.std.specs.Float.{binary32}
use Rattle.exponential.proofs.Product.{whole, read_back}
use Rattle.exponential.proofs.table.PowerTable.from_raised.Goals as goal

pub returns : goal.returns
returns c =
    let a = c.args in
    let r = c.power in
    let s = c.series in
    let n = c.nearest_pattern in
    (read_back binary32 false (r.result * s.result * 2 ^ (a.q / 2 ^ 56 + a.bias)) (2 ^ 213) n.result n.ensures).1
    ∙ whole a.q a.bias r.result s.result r.ensures s.ensures
