use Rattle.std.proofs.Common.{◌≡◌, ℕ}
use Rattle.std.specs.Float.Ieee.Scale.{finite}
use Rattle.floats.specs.Sums.{all_to}
use Rattle.update.specs.Calls.{moved_at}
use Rattle.update.proofs.moves_finite.Given as goal

abbrev pub invariant-loop-i : goal.invariant-loop-i
invariant-loop-i l = l.sound ≡ all_to (λ (k : ℕ). finite (moved_at l.model l.gradients l.rate k)) l.i
