use Rattle.std.proofs.Common.{◌*◌, take, drop}
use Rattle.layers.specs.Net.{basis_of}
use Rattle.layers.specs.Layer.{edge_with}
use Rattle.fast_forward.proofs.Edges.{Added}
use Rattle.fast_forward.proofs.inputs.add_plain.Given as goal

abbrev pub invariant-loop-o : goal.invariant-loop-o
invariant-loop-o l =
    Added (λ k. edge_with (basis_of l.mesh.grid) (drop l.first (drop (k * l.row) l.params)) l.x l.silu)
    (take l.n l.fn.outputs) l.n l.output-items l.o
