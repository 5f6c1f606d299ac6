use Rattle.std.proofs.Common.{◌<◌, ◌+◌, rules}
use Rattle.std.specs.Float.{nan}
use Rattle.std.proofs.lemmas.List.{get_or-take}
use Rattle.floats.proofs.Loops.{sum_more}
use Rattle.gradients.proofs.slope_dot.Goals as goal

pub loop-k-preserved : goal.loop-k-preserved
loop-k-preserved c =
    let inside : c.loop-k.k < c.args.grid.intervals + 3 = search rules in
    sum_more _ _ _ _ _ c.loop-k.invariant (rw (c.basis_slope.ensures, get_or-take _ c.args.coefficients.now _ nan inside))
