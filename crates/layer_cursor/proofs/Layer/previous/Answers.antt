use Rattle.std.proofs.Common.{refl, arith}
use Rattle.layer_cursor.proofs.Cursors.{back}
use Rattle.layer_cursor.proofs.Layer.previous.Goals as goal

pub overflow_mul-result : goal.overflow_mul-result
overflow_mul-result c =
    let b = back _ _ _ _ c.requires.0 c.requires.1 c.requires.2 c.requires.3 c.width-inputs.ensures in
    omega arith

pub overflow_mul-result-2 : goal.overflow_mul-result-2
overflow_mul-result-2 c =
    let b = back _ _ _ _ c.requires.0 c.requires.1 c.requires.2 c.requires.3 c.width-inputs.ensures in
    omega arith

pub overflow_sub-result : goal.overflow_sub-result
overflow_sub-result c =
    let b = back _ _ _ _ c.requires.0 c.requires.1 c.requires.2 c.requires.3 c.width-inputs.ensures in
    omega arith

pub overflow_sub-result-2 : goal.overflow_sub-result-2
overflow_sub-result-2 c =
    let b = back _ _ _ _ c.requires.0 c.requires.1 c.requires.2 c.requires.3 c.width-inputs.ensures in
    omega arith

pub returns : goal.returns
returns c =
    let b = back _ _ _ _ c.requires.0 c.requires.1 c.requires.2 c.requires.3 c.width-inputs.ensures in
    record {
      index = refl;
      mesh = c.requires.3.mesh;
      part = omega (arith, b.ends);
      nodes = omega (arith, b.nodes);
      inputs = c.width-inputs.ensures;
      outputs = b.outputs;
    }
