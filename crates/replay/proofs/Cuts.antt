-- Where a text is cut at a mark. Assumes nothing.
use mathlib.Core.Path.{◌≡◌, refl, ◌∙◌, ap}
use mathlib.Core.Bool.{Bool, true, false, cond}
use mathlib.Core.List.{List, [], ◌∷◌}
use Prim.Native.Nat.{ℕ, suc, ◌≤◌}
use native.Mathlib.Omega.{arith}
use lib.Dec.{eqb}
use lib.ListN.{length, take, drop}
use Rattle.std.specs.List.{position, position_or_len}
use Rattle.std.specs.Option.{unwrap_or}
use Rattle.std.proofs.lemmas.List.Sums.{prefix_len-le-length}
use Rattle.std.proofs.lemmas.Bool.Decides.{nat_tests}
use Rattle.std.proofs.Common.{Some, None, not, sym, ltb}
use Rattle.std.proofs.lemmas.List.Recursion.{is_position_or_len}
use Rattle.replay.specs.Lines.{Before, before_of, parts_of, onto, word_of, in_front, words_of, after_tag}

-- the first mark, as std finds it
before_is : (mark : ℕ) (text : List ℕ) → before_of mark text ≡ position_or_len (λ b. eqb b mark) text
unfolding before_of
before_is mark text =
    is_position_or_len (before_of mark) (λ b. eqb b mark) refl (λ b bs. ap (λ n. cond (eqb b mark) 0 n) (omega arith)) text

place_or : (n k : ℕ) → n ≤ k → unwrap_or (cond (ltb n k) (Some n) None) k ≡ n
place_or n k h = grind (arith, nat_tests)

pub first_mark : (mark : ℕ) (text : List ℕ) → Before text mark (unwrap_or (position (λ b. eqb b mark) text) (length text))
first_mark mark text =
    let p : ℕ → Bool = λ b. eqb b mark in
    let within = prefix_len-le-length (λ b. not (p b)) text in
    let place = place_or (position_or_len p text) (length text) within in
    record { within = rw place within; first = place ∙ sym (before_is mark text) }

-- the parts after a part: none at the end, and else those behind the space
unfoldable pub later : List ℕ → List (List ℕ)
later [] = []
later (b ∷ bs) = parts_of bs

parts_by : (t : Bool) (b : ℕ) (bs : List ℕ) → parts_of bs ≡ take (before_of 32 bs) bs ∷ later (drop (before_of 32 bs) bs)
    → cond t ([] ∷ parts_of bs) (onto b (parts_of bs))
    ≡ take (cond t 0 (suc (before_of 32 bs))) (b ∷ bs) ∷ later (drop (cond t 0 (suc (before_of 32 bs))) (b ∷ bs))
unfolding later onto
parts_by true b bs e = refl
parts_by false b bs e = ap (onto b) e

parts_cut : (l : List ℕ) → parts_of l ≡ take (before_of 32 l) l ∷ later (drop (before_of 32 l) l)
unfolding parts_of before_of later
parts_cut [] = refl
parts_cut (b ∷ bs) = parts_by (eqb b 32) b bs (parts_cut bs)

space_by : (t : Bool) (b : ℕ) (bs : List ℕ) → eqb b 32 ≡ t
    → words_of (later (drop (before_of 32 bs) bs)) ≡ after_tag (drop (before_of 32 bs) bs)
    → let n = cond t 0 (suc (before_of 32 bs)) in
    words_of (later (drop n (b ∷ bs))) ≡ after_tag (drop n (b ∷ bs))
unfolding later after_tag
space_by true b bs e h = rw e
space_by false b bs e h = h

-- where a part ends, the text ends or a space stands
space : (l : List ℕ) → words_of (later (drop (before_of 32 l) l)) ≡ after_tag (drop (before_of 32 l) l)
unfolding before_of later words_of after_tag
space [] = refl
space (b ∷ bs) = space_by (eqb b 32) b bs refl (space bs)

-- a word, and what follows it
pub words_cut : (l : List ℕ)
    → words_of (parts_of l) ≡ in_front (word_of (take (before_of 32 l) l)) (after_tag (drop (before_of 32 l) l))
unfolding words_of
words_cut l = ap words_of (parts_cut l) ∙ ap (in_front (word_of (take (before_of 32 l) l))) (space l)
