-- After each byte the place is behind those so far.
use Rattle.std.proofs.Common.{ℕ, List, drop, refl, rules, tests}
use Rattle.std.proofs.lemmas.Fn.{fold_over, fronts}
use Rattle.std.proofs.lemmas.Iterator.{YieldsList-from_slice}
use Rattle.npy_tokens.proofs.Texts.{past_on}
use Rattle.npy_tokens.specs.Tokens.{after_bytes}
use Rattle.npy_tokens.specs.Places.{Place}
use Rattle.npy_tokens.proofs.past_bytes.Goals as goal

pub returns : goal.returns
unfolding after_bytes
returns c =
    let text = c.args.text.now in
    let J = λ (done : List ℕ) (place : ℕ). Place text place (after_bytes done (drop c.args.at text)) in
    fold_over fronts (λ y. y.now) _ J _ (λ ys a x b f' j k. (past_on text ys (drop c.args.at text) x.now a b j (search (rules, tests)), search (rules, tests)))
    c.iter.result c.args.bytes.now _ _
    (YieldsList-from_slice {s = c.iter.result} c.args.bytes.now c.iter.ensures.rest).runs (record { inside = c.requires; rest = refl })
    c.fold.ensures.ran
