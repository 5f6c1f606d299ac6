use Rattle.std.proofs.Common.{length}
use Rattle.layers.specs.Net.{basis_of}
use Rattle.gradients.specs.Gradient.{edge_slots}
use Rattle.gradients.proofs.Adding.{Parts}
use Rattle.gradients.proofs.add_node.Given as goal

abbrev pub invariant-loop-i : goal.invariant-loop-i
invariant-loop-i l = Parts (edge_slots (basis_of l.grid) l.params l.inputs l.up) (length l.inputs) l.fn.gradients l.gradients l.i
