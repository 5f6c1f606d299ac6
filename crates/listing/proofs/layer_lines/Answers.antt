-- A line more in each turn. Its numbers are small, since the layer is one of an accepted image.
use Rattle.std.proofs.Common.{arith}
use Rattle.text.proofs.Appends.{lines_none}
use Rattle.listing.proofs.Layered.{layers_more, layers_all, inner_small, outer_small}
use Rattle.listing.proofs.layer_lines.Goals as goal

pub loop-layer-init : goal.loop-layer-init
loop-layer-init c = lines_none _ 90 _ _ (omega (arith, c.requires.0))

pub overflow_mul-parameters : goal.overflow_mul-parameters
overflow_mul-parameters c =
    let inputs = c.size-inputs.ensures.0 in
    let outputs = c.size-outputs.ensures.0 in
    omega (arith, inner_small _ _ c.requires.1 c.loop-layer.layer _ _ (omega arith) inputs outputs)

pub overflow_mul-parameters-in-loop-layer : goal.overflow_mul-parameters-in-loop-layer
overflow_mul-parameters-in-loop-layer c =
    let inputs = c.size-inputs.ensures.0 in
    let outputs = c.size-outputs.ensures.0 in
    omega (arith, outer_small _ _ c.requires.1 c.loop-layer.layer _ _ (omega arith) inputs outputs)

pub loop-layer-preserved : goal.loop-layer-preserved
loop-layer-preserved c =
    layers_more _ _ _ c.loop-layer.layer _ _ (omega arith) c.size-inputs.ensures.0 c.size-outputs.ensures.0 _
    c.loop-layer.invariant c.layer_line-next.ensures

pub returns : goal.returns
returns c = layers_all _ _ c.loop-layer.layer c.requires.1.some (omega arith) c.loop-layer.invariant
