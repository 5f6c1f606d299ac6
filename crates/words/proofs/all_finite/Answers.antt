-- What `all` answered over the blocks and, where it was true, over the words after them, in the words of the contract.
use Rattle.std.proofs.Common.{◌≡◌, ◌∙◌, sym, refl, rules, tests, arith, Bool, ◌&&◌, ℕ, ◌+◌, ◌*◌, ◌/◌, ◌-◌, List}
use Rattle.std.specs.Float.Ieee.Scale.{finite}
use Rattle.std.specs.List.{list_all, range_with_len}
use Rattle.std.proofs.lemmas.Iterator.{YieldsList-from_range}
use Rattle.std.proofs.lemmas.Iterator.Search.{all_from_yields_List}
use Rattle.floats.specs.Sums.{all_finite}
use Rattle.floats.proofs.Loops.{all_table}
use Rattle.words.specs.Words.{float_at, floats_in}
use Rattle.words.specs.declared.TheConstants.{BLOCK}
use Rattle.words.proofs.Tables.{all_range, all_range_from}
use Rattle.words.proofs.Blocks.{block, all_parts}
use Rattle.words.proofs.all_finite.Goals as goal

abbrev finite_word : List ℕ → ℕ → Bool
finite_word bytes k = finite (float_at bytes (k * 4))

-- n words are q blocks of BLOCK and r more, the words from `from` on; `seen` is what the test of the blocks answered
whole : (bytes : List ℕ) (n q from r : ℕ) (passed seen rest : Bool)
    → passed ≡ list_all (block (finite_word bytes) BLOCK) (range_with_len 0 q) → passed ≡ seen
    → rest ≡ list_all (finite_word bytes) (range_with_len from r) → from ≡ q * BLOCK → q * BLOCK + r ≡ n
    → (seen && rest) ≡ all_finite (floats_in bytes n)
unfolding floats_in
whole bytes n q from r passed seen rest blocks answer more at all =
    all_parts (finite_word bytes) BLOCK q from r n seen rest (sym answer ∙ blocks ∙ all_range _ q) (more ∙ all_range_from _ from r) at all
    ∙ sym (all_table _ n)

pub returns-then-all : goal.returns-then-all
returns-then-all c =
    let test = finite_word c.args.bytes.now in
    let n = c.args.count in
    let q = n / BLOCK in
    let blocks = all_from_yields_List (block test BLOCK) _ _ _ c.all.ensures.ran (YieldsList-from_range 0 q q refl (omega arith))
    (λ x b f k. search (rules, tests)) in
    let rest = all_from_yields_List test _ _ _ c.all-then-all.ensures.ran (YieldsList-from_range _ n _ refl refl)
    (λ x b f k. search (rules, tests)) in
    whole _ n q _ _ _ _ _ blocks c.if-all.true rest (omega arith) (omega arith)

pub returns-else-all : goal.returns-else-all
returns-else-all c =
    let test = finite_word c.args.bytes.now in
    let n = c.args.count in
    let q = n / BLOCK in
    let blocks = all_from_yields_List (block test BLOCK) _ _ _ c.all.ensures.ran (YieldsList-from_range 0 q q refl (omega arith))
    (λ x b f k. search (rules, tests)) in
    c.if-all.false ∙ whole _ n q _ (n - q * BLOCK) _ _ _ blocks c.if-all.false refl refl (omega arith)
