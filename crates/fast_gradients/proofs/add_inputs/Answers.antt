-- After i turns each output's first i edges are added.
use Rattle.std.proofs.Common.{arith}
use Rattle.fast_gradients.proofs.Inputs.{input_none, input_more, input_all, input_clean}
use Rattle.fast_gradients.proofs.add_inputs.Goals as goal

pub loop-i-init : goal.loop-i-init
loop-i-init c = input_none c.requires.0.there

pub loop-i-preserved : goal.loop-i-preserved
loop-i-preserved c = input_more c.requires.0.there _ c.loop-i.invariant c.loop-i-test.true c.add_input.ensures

pub returns : goal.returns
returns c = input_all c.requires.0.there c.loop-i.invariant (omega arith)

pub add_input-requires : goal.add_input-requires
add_input-requires c =
    let so_far = c.loop-i.invariant in
    let p = c.requires in (
      record { layer = p.0.layer; there = omega (arith, p.0.there, so_far.size) },
      input_clean p.0.there so_far p.1,
      c.loop-i-test.true,
      p.2,
    )
