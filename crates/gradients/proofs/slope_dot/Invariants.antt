use Rattle.std.proofs.Common.{◌≡◌, ℕ}
use Rattle.floats.specs.Binary32.{◌⊗◌}
use Rattle.floats.specs.Sums.{sum_to, at}
use Rattle.layers.specs.Net.{basis_of}
use Rattle.gradients.proofs.slope_dot.Given as goal

abbrev pub invariant-loop-k : goal.invariant-loop-k
invariant-loop-k l = l.sum ≡ sum_to (λ (j : ℕ). at l.coefficients j ⊗ (basis_of l.grid).slope j l.x) l.k
