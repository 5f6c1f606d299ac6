use Rattle.layers.specs.Net.{basis_of}
use Rattle.fast_forward.proofs.Summed.{Summed}
use Rattle.fast_forward.proofs.layer.layer_in.Given as goal

abbrev pub invariant-loop-j : goal.invariant-loop-j
invariant-loop-j l = Summed (basis_of l.mesh.grid) l.params l.x-items l.n l.initial.behind l.behind l.j
