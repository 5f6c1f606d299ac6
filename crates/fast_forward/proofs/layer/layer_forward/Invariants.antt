use Rattle.layers.specs.Net.{basis_of}
use Rattle.fast_forward.proofs.Summed.{Summed}
use Rattle.fast_forward.proofs.layer.layer_forward.Given as goal

abbrev pub invariant-loop-j : goal.invariant-loop-j
invariant-loop-j l = Summed (basis_of l.mesh.grid) l.params l.inputs l.n l.initial.outputs l.outputs l.j
