-- What `fill` leaves is a table of zeros.
use Rattle.std.proofs.Common.{◌∙◌, ◌++◌, List, Float, replicate, drop, ap}
use Rattle.floats.specs.Binary32.{zero32}
use Rattle.floats.proofs.Loops.{tab_replicate}
use Rattle.std.proofs.Math.Seq.{length-take-le}
use Rattle.floats.proofs.clear.Goals as goal

pub returns : goal.returns
returns c =
    let n = c.args.n in
    let xs = c.args.xs.now in
    let e = c.fill.ensures.after (λ y e. e) in
    ap (λ (l : List Float). l ++ drop n xs) (e ∙ ap (λ k. replicate k zero32) (length-take-le n xs c.requires) ∙ tab_replicate zero32 n)
