-- The fold is the test of every word of the block.
use Rattle.std.proofs.Common.{ℕ, ◌+◌, ◌*◌, ◌∙◌, true, Bool, rules, refl, arith, tests}
use Rattle.std.specs.Float.Ieee.Scale.{finite}
use Rattle.std.proofs.lemmas.Iterator.{YieldsList-from_range}
use Rattle.std.proofs.lemmas.Iterator.Consumers.{fold_from_yields_List}
use Rattle.words.specs.Words.{float_at}
use Rattle.words.specs.declared.TheConstants.{BLOCK}
use Rattle.words.proofs.Blocks.{also, fold_range}
use Rattle.words.proofs.block_finite.Goals as goal

pub returns : goal.returns
returns c =
    let p : ℕ → Bool = λ k. finite (float_at c.args.bytes.now ((c.args.first + k) * 4)) in
    fold_from_yields_List _ (also p) true c.fold.result c.fold.ensures.ran (YieldsList-from_range 0 BLOCK BLOCK refl (omega arith))
    (λ s x r q k. search (rules, tests))
    ∙ fold_range p BLOCK
