-- After k turns k coefficients are drawn.
use Rattle.std.proofs.Common.{◌≡◌, ◌+◌, arith}
use Rattle.floats.specs.Binary32.{◌⊘◌}
use Rattle.first_parameters.proofs.Edges.{drawn_none, drawn_more, edge_filled, places}
use Rattle.first_parameters.proofs.fill_edge.Goals as goal

pub loop-coefficient-init : goal.loop-coefficient-init
loop-coefficient-init c = drawn_none _ _

pub loop-coefficient-preserved : goal.loop-coefficient-preserved
loop-coefficient-preserved c =
    drawn_more _ _ _ _ _ _ c.loop-coefficient-test.true c.loop-coefficient.invariant c.signed_uniform-drawn.ensures

pub returns : goal.returns
returns c =
    let g = c.args.intervals in
    let last : c.loop-coefficient.coefficient-index ≡ g + 3 = omega (arith, places g c.args.params.now (c.signed_uniform-base.result.value ⊘ c.args.root) c.requires.1) in
    edge_filled _ _ _ _ _ _ _ _ c.requires.1 last c.signed_uniform-base.ensures c.loop-coefficient.invariant
