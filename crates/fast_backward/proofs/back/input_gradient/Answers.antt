-- After o turns the sum has o outputs.
use Rattle.std.proofs.Common.{◌≡◌, length, rules}
use Rattle.floats.proofs.Loops.{sum_more, cut}
use Rattle.fast_backward.proofs.Backs.{all_back}
use Rattle.fast_backward.proofs.back.input_gradient.Goals as goal

pub loop-o-preserved : goal.loop-o-preserved
loop-o-preserved c = sum_more _ _ _ _ _ c.loop-o.invariant (rw (c.edge_by.ensures, cut))

pub returns : goal.returns
returns c =
    let ups = c.args.ups.now in
    let e : c.loop-o.o ≡ length ups = search rules in
    all_back c.requires.0 _ _ _ ups _ c.silu_derivative_by-rise.ensures c.slopes_at-four.ensures (rw e at c.loop-o.invariant)
