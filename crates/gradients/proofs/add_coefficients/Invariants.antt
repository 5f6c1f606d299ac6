use Rattle.std.proofs.Common.{◌≡◌, take}
use Rattle.floats.specs.Sums.{tabulate}
use Rattle.layers.specs.Net.{basis_of}
use Rattle.gradients.specs.Steps.{plus_of, weighted}
use Rattle.gradients.proofs.add_coefficients.Given as goal

abbrev pub invariant-loop-k : goal.invariant-loop-k
invariant-loop-k l = l.gradient-items ≡ plus_of (take l.n l.fn.gradients) (tabulate (weighted (basis_of l.grid) l.u l.x) l.k)
