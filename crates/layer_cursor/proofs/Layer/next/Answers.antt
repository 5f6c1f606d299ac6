use Rattle.std.proofs.Common.{refl, arith}
use Rattle.layer_cursor.proofs.Cursors.{small, step, step_nodes}
use Rattle.layer_cursor.proofs.Layer.next.Goals as goal

pub overflow_add-result-2 : goal.overflow_add-result-2
overflow_add-result-2 c = omega (arith, small _ _ _ _ c.requires.0 c.requires.1 c.requires.2)

pub returns : goal.returns
returns c =
    let stood = c.requires.2 in
    record {
      index = refl;
      mesh = stood.mesh;
      part = step _ _ _ _ stood;
      nodes = step_nodes _ _ _ _ stood;
      inputs = stood.outputs;
      outputs = c.width.ensures;
    }
