use Rattle.std.proofs.Common.{◌≡◌, ℕ}
use Rattle.floats.specs.Binary32.{◌⊗◌}
use Rattle.floats.specs.Sums.{sum_to, at}
use Rattle.layers.specs.Net.{basis_of}
use Rattle.layers.proofs.dot.Given as goal

abbrev pub invariant-loop-k : goal.invariant-loop-k
invariant-loop-k l = l.sum ≡ sum_to (λ (j : ℕ). at l.coefficients j ⊗ (basis_of l.grid).value j l.x) l.k
