use Rattle.layers.specs.Net.{basis_of}
use Rattle.fast_gradients.proofs.Inputs.{ByInput}
use Rattle.fast_gradients.proofs.add_inputs.Given as goal

abbrev pub invariant-loop-i : goal.invariant-loop-i
invariant-loop-i l = ByInput (basis_of l.mesh.grid) l.params l.inputs l.ups l.fn.gradients l.gradients l.i
