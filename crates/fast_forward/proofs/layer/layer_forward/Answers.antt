-- After j turns each output is the sum of j inputs.
use Rattle.std.proofs.Common.{◌≤◌, length, arith}
use Rattle.fast_forward.proofs.Summed.{summed_none, summed_more, summed_all}
use Rattle.fast_forward.proofs.layer.layer_forward.Goals as goal

pub loop-j-init : goal.loop-j-init
loop-j-init c = summed_none _ _ _ _ _ _ c.clear.ensures

pub loop-j-preserved : goal.loop-j-preserved
loop-j-preserved c =
    let room : c.args.n ≤ length c.clear.new.xs = omega (arith, c.requires.outputs, c.clear.auto.xs) in
    summed_more _ _ _ _ _ c.loop-j.invariant c.loop-j-test.true room c.add_input.ensures

pub returns : goal.returns
returns c = summed_all _ _ _ _ _ c.clear.ensures c.loop-j.invariant (omega arith)
