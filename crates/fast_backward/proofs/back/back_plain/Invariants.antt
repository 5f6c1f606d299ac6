use Rattle.std.proofs.Common.{◌≡◌, ◌++◌, drop}
use Rattle.floats.specs.Sums.{tabulate}
use Rattle.layers.specs.Net.{basis_of}
use Rattle.gradients.specs.Gradient.{input_gradient}
use Rattle.fast_backward.proofs.back.back_plain.Given as goal

abbrev pub invariant-loop-i : goal.invariant-loop-i
invariant-loop-i l =
    l.results ≡ tabulate (input_gradient (basis_of l.mesh.grid) l.params l.inputs l.ups) l.i ++ drop l.i l.initial.results
