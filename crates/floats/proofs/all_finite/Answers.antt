-- The fold is the test of every number.
use Rattle.std.proofs.Common.{rules, tests, ◌∙◌, ◌&&◌, true}
use Rattle.std.specs.Float.Ieee.Scale.{finite}
use Rattle.std.proofs.lemmas.Iterator.{YieldsList-from_slice}
use Rattle.std.proofs.lemmas.Iterator.Consumers.{fold_from_yields_List}
use Rattle.floats.specs.Sums.{all_finite}
use Rattle.floats.proofs.Loops.{all_fold}
use Rattle.floats.proofs.all_finite.Goals as goal

pub returns : goal.returns
unfolding all_finite
returns c =
    fold_from_yields_List _ (λ s x. s && finite x) true c.fold.result c.fold.ensures.ran (YieldsList-from_slice c.args.xs.now cc) (λ s x r q k. search (rules, tests))
    ∙ all_fold finite c.args.xs.now
