use Rattle.std.proofs.Common.{length}
use Rattle.layers.specs.Net.{basis_of}
use Rattle.gradients.specs.Gradient.{node_slots}
use Rattle.gradients.proofs.Adding.{Parts}
use Rattle.gradients.proofs.add_layer.Given as goal

abbrev pub invariant-loop-o : goal.invariant-loop-o
invariant-loop-o l = Parts (node_slots (basis_of l.grid) l.params l.inputs l.ups) (length l.ups) l.fn.gradients l.gradients l.o
