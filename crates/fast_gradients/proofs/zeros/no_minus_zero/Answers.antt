-- The fold is the test of every number.
use Rattle.std.proofs.Common.{rules, tests, ◌∙◌, ◌&&◌, true, not}
use Rattle.std.proofs.lemmas.Iterator.{YieldsList-from_slice}
use Rattle.std.proofs.lemmas.Iterator.Consumers.{fold_from_yields_List}
use Rattle.floats.specs.Zeros.{is_minus_zero}
use Rattle.floats.proofs.Loops.{all_fold}
use Rattle.fast_gradients.proofs.Clean.{tested}
use Rattle.fast_gradients.proofs.zeros.no_minus_zero.Goals as goal

pub returns : goal.returns
returns c =
    let xs = c.args.numbers.now in
    tested _ _
    (fold_from_yields_List _ (λ s x. s && not (is_minus_zero x)) true c.fold.result c.fold.ensures.ran (YieldsList-from_slice xs cc) (λ s x r q k. search (rules, tests))
    ∙ all_fold (λ x. not (is_minus_zero x)) xs) c.type_inv.numbers
