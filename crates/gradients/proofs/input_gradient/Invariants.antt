use Rattle.std.proofs.Common.{◌≡◌, ℕ, ◌+◌, ◌*◌, length, drop}
use Rattle.floats.specs.Sums.{sum_to, at}
use Rattle.layers.specs.Net.{basis_of}
use Rattle.gradients.specs.Gradient.{back_of}
use Rattle.gradients.proofs.input_gradient.Given as goal

abbrev pub invariant-loop-o : goal.invariant-loop-o
invariant-loop-o l =
    l.gradient
    ≡ sum_to (λ (k : ℕ).
    back_of (basis_of l.grid) (drop ((k * length l.inputs + l.fn.i) * (l.grid.intervals + 5)) l.params) (at l.inputs l.fn.i) (at l.ups k)) l.o
