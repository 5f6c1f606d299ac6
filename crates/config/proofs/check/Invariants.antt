-- The loop of `config::check` folds the widths.
use Rattle.std.proofs.Common.{◌≡◌}
use Rattle.config.specs.Fold.{shape_to}
use Rattle.config.proofs.check.Given as goal

abbrev pub invariant-loop-width : goal.invariant-loop-width
invariant-loop-width l = l.shape ≡ shape_to l.each l.widths l.width-index
