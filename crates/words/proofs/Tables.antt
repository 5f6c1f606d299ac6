-- Words that are read: one of n, and what a test of all of them sees. Assumes nothing.
use mathlib.Core.Path.{◌≡◌, ap, ◌∙◌}
use mathlib.Core.Bool.{Bool, true, not}
use mathlib.Core.List.{List}
use Prim.Native.Nat.{ℕ, ◌+◌, ◌*◌, ◌<◌}
use native.Mathlib.Omega.{arith}
use lib.ListN.{length, get_or}
use lib.Dec.{T}
use lib.Ieee.{Float, nan, is_nan}
use Rattle.std.specs.List.{list_all, range_with_len}
use Rattle.std.proofs.lemmas.List.FromFn.{length-range_with_len, get_or-range_with_len}
use Rattle.floats.specs.Sums.{at, all_to, all_finite}
use Rattle.floats.proofs.Loops.{tab_none, tab_more, tab_whole, tab_length, all_each, all_ext, all_listed, table_get}
use Rattle.words.specs.Words.{word_at, float_at, words_from, floats_in}
use Rattle.words.proofs.Patterns.{finite_number}
use Rattle.words.proofs.Packs.{pack_steps}

pub words_length : (bs : List ℕ) (p n : ℕ) → length (words_from bs p n) ≡ n
unfolding words_from
words_length bs p n = tab_length _ n

pub word_at_lem : (bs : List ℕ) (p n i : ℕ) → i < n → get_or (words_from bs p n) i 0 ≡ word_at bs (p + i * 4)
unfolding words_from
word_at_lem bs p n i h = table_get _ n i 0 h

pub floats_length : (bs : List ℕ) (n : ℕ) → length (floats_in bs n) ≡ n
unfolding floats_in
floats_length bs n = tab_length _ n

pub float_at_lem : (bs : List ℕ) (n i : ℕ) → i < n → at (floats_in bs n) i ≡ float_at bs (i * 4)
unfolding floats_in
float_at_lem bs n i h = table_get _ n i nan h

-- a finite number of a list of them is no NaN
pub finite_each : (xs : List Float) (i : ℕ) → all_finite xs ≡ true → i < length xs → T (not (is_nan (get_or xs i nan)))
unfolding all_finite
finite_each xs i e h = finite_number _ (all_each _ _ e i h)

-- a test of all numbers of a range
pub all_range_from : (p : ℕ → Bool) (from n : ℕ) → list_all p (range_with_len from n) ≡ all_to (λ (k : ℕ). p (from + k)) n
all_range_from p from n =
    all_listed p 0 (range_with_len from n)
    ∙ rw length-range_with_len (all_ext _ _ n (λ k h. ap p (get_or-range_with_len from n k 0 h)))

pub all_range : (p : ℕ → Bool) (n : ℕ) → list_all p (range_with_len 0 n) ≡ all_to p n
all_range p n = all_range_from p 0 n ∙ all_ext _ _ n (λ k h. ap p (omega arith))

-- a loop that reads words: none yet, one more, and all
pub ruleset table_steps = (tab_none, tab_more, tab_whole)

-- a loop that writes finite numbers as words
pub ruleset float_steps = (finite_each, pack_steps)
