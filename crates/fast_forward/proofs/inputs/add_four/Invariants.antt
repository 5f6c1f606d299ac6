use Rattle.std.proofs.Common.{◌*◌, take, drop}
use Rattle.fast_forward.specs.Inputs.{edge_four}
use Rattle.fast_forward.proofs.Edges.{Added}
use Rattle.fast_forward.proofs.inputs.add_four.Given as goal

abbrev pub invariant-loop-o : goal.invariant-loop-o
invariant-loop-o l =
    Added (λ k. edge_four (drop l.first (drop (k * l.row) l.params)) l.silu l.four) (take l.n l.fn.outputs) l.n l.output-items l.o
