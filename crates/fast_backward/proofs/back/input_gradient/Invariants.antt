use Rattle.std.proofs.Common.{◌≡◌}
use Rattle.floats.specs.Sums.{sum_to}
use Rattle.fast_backward.specs.InputGradients.{back_four}
use Rattle.fast_backward.proofs.back.input_gradient.Given as goal

abbrev pub invariant-loop-o : goal.invariant-loop-o
invariant-loop-o l = l.gradient ≡ sum_to (back_four l.params l.row l.first l.rise l.four l.ups) l.o
