-- The numbers of a shape up to the parenthesis that closes them: their reader finds them, and what it finds are such
-- numbers. Assumes nothing.
use Prim.Native.Nat.{ℕ, zero, suc, ◌<◌}
use native.Mathlib.Nat.{le_refl}
use native.Mathlib.Omega.{arith}
use mathlib.Core.Path.{◌≡◌, refl, sym, ap}
use mathlib.Core.Logic.{◌⊎◌, inl, inr}
use mathlib.Core.Bool.{Bool, true, false, cond}
use mathlib.Core.List.{List, [], ◌∷◌}
use lib.ListN.{length}
use Rattle.npy_tokens.specs.declared.Class.TheVariants.{Space, Digit}
use Rattle.npy_tokens.specs.Tokens.{belongs, behind, after_token, begins_with, number_in, after_number}
use Rattle.npy_header.specs.Grammar.{Language, Token, Number, Comma, Numbers, Sizes, ◌⨾◌}
use Rattle.npy_header.specs.Reading.{numbers_to, after_numbers_to, sizes_in, after_sizes}
use Rattle.npy_grammar.proofs.Pieces.{Reads, Parts, both, parts, exactly, nothing, from, no_longer}
use Rattle.npy_grammar.proofs.Pieces.{without, present, whether, Filled, filled}
use Rattle.npy_grammar.proofs.Spans.{Stops}
use Rattle.npy_grammar.proofs.Marks.{after_byte_lem, token, after_token_lem, begins, token_at}
use Rattle.npy_grammar.proofs.Decimals.{number_no_close, number_is, after_number_lem, number_at}

abbrev Close : Language
Close = Token (41 ∷ [])

-- numbers, and the parenthesis that closes them
abbrev Closed : List ℕ → Language
Closed ns = Numbers ns ⨾ Close

-- ---- what follows the first number: the parenthesis, or a comma and the other numbers
abbrev More : List ℕ → List ℕ → List ℕ → Type 0
More ns m r = ((ns ≡ []) × Reads Close m r) ⊎ Parts Comma (Closed ns) m r

record First (n : ℕ) (ns bs r : List ℕ) : Type 0 where
  middle : List ℕ
  number : Reads (Number n) bs middle
  more : More ns middle r

first : (n : ℕ) (ns : List ℕ) {bs r : List ℕ} → Reads (Closed (n ∷ ns)) bs r → First n ns bs r
unfolding Numbers
first n [] p =
    let q = parts p in
    let s = parts q.before in
    record {
      middle = s.middle;
      number = s.before;
      more = elim (whether s.after) [
        | inl e ↦ inl (refl, from Close e q.after)
        | inr c ↦ inr (record { middle = q.middle; before = c; after = both (nothing q.middle) q.after })
      ];
    }
first n (k ∷ ns) p =
    let q = parts p in
    let s = parts q.before in
    let t = parts s.after in
    record {
      middle = s.middle;
      number = s.before;
      more = inr (record { middle = t.middle; before = t.before; after = both t.after q.after });
    }

-- and back: the first number alone, or followed by others
alone : (n : ℕ) {bs m r : List ℕ} → Reads (Number n) bs m → Reads Close m r → Reads (Closed (n ∷ [])) bs r
unfolding Numbers
alone n {bs} {m} {r} p q = both (both p (without Comma m)) q

followed : (n : ℕ) (ns : List ℕ) {bs m l r : List ℕ} → Reads (Number n) bs m → Reads Comma m l → Reads (Closed ns) l r
    → Reads (Closed (n ∷ ns)) bs r
unfolding Numbers
followed n [] p c q =
    let s = parts q in
    both (both p (present c)) (from Close (exactly s.before) s.after)
followed n (k ∷ ns) p c q =
    let s = parts q in
    both (both p (both c s.before)) s.after

-- ---- found where they stand: fewer than k bytes hold no more than k numbers
shorter : (c : ℕ) {bs r : List ℕ} → Reads (Token (c ∷ [])) bs r → length r < length bs
shorter c p =
    let q = parts p in
    omega (arith, no_longer q.before, ap length (exactly q.after))

abbrev Found : ℕ → List ℕ → List ℕ → List ℕ → Type 0
Found k ns bs r = (numbers_to k bs ≡ ns) × (after_numbers_to k bs ≡ r)

found : (k : ℕ) (ns : List ℕ) {bs r : List ℕ} → length bs < k → Reads (Closed ns) bs r → Found k ns bs r
unfolding Numbers numbers_to after_numbers_to belongs begins_with
found zero ns h p = absurd (omega (arith, h))
found (suc k) [] {bs} {r} h p =
    let q = parts p in
    let close = from Close (exactly q.before) q.after in
    rw (token refl close) (refl, after_byte_lem 41 r)
found (suc k) (n ∷ ns) {bs} {r} h p =
    let f = first n ns p in
    let number = f.number in
    elim f.more [
      | inl e ↦
          let stops : Stops Digit f.middle = begins Digit 41 refl refl e.1 in
          rw (number_no_close number, number_is number stops, after_number_lem number stops, token refl e.1)
          (ap (λ (l : List ℕ). n ∷ l) (sym e.0), after_byte_lem 41 r)
      | inr q ↦
          let stops : Stops Digit f.middle = begins Digit 44 refl refl q.before in
          let room : length q.middle < k = omega (arith, no_longer number, shorter 44 q.before) in
          let rest = found k ns room q.after in
          rw (
            number_no_close number,
            number_is number stops,
            after_number_lem number stops,
            token refl q.before,
            after_byte_lem 44 q.middle,
          )
          (ap (λ (l : List ℕ). n ∷ l) rest.0, rest.1)
    ]

-- ---- what is found are such numbers
closed_at : (k : ℕ) (bs : List ℕ) → Filled (after_numbers_to k bs)
    → Reads (Closed (numbers_to k bs)) bs (after_numbers_to k bs)
unfolding Numbers numbers_to after_numbers_to
closed_at zero bs h = absurd h
closed_at (suc k) bs h =
    go (begins_with 41 (behind Space bs)) (begins_with 44 (behind Space (after_number bs)))
    (closed_at k (after_token 44 (after_number bs))) h
  where
    -- the text behind the number, and behind the comma that follows it
    number : List ℕ
    number = after_number bs

    comma : List ℕ
    comma = after_token 44 (after_number bs)

    go : (a b : Bool)
        → (Filled (after_numbers_to k comma) → Reads (Closed (numbers_to k comma)) comma (after_numbers_to k comma))
        → let r = cond a (after_token 41 bs) (cond b (after_numbers_to k comma) (after_token 41 number)) in
        Filled r → Reads (Closed (cond a [] (number_in bs ∷ cond b (numbers_to k comma) []))) bs r
    go true b rest f = both (nothing bs) (token_at 41 bs f)
    go false true rest f =
        let c = token_at 44 number (filled (rest f) f) in
        followed (number_in bs) (numbers_to k comma) (number_at bs (filled c (filled (rest f) f))) c (rest f)
    go false false rest f =
        let close = token_at 41 number f in
        alone (number_in bs) (number_at bs (filled close f)) close

-- ---- with the parenthesis that opens them
module _ (ns : List ℕ) {bs r : List ℕ} (p : Reads (Sizes ns) bs r) where
  both_found : Found (suc (length (after_token 40 bs))) ns (after_token 40 bs) r
  unfolding belongs
  both_found =
      let q = parts p in
      let e = after_token_lem 40 refl q.before in
      found (suc (length (after_token 40 bs))) ns (le_refl _) (from (Closed ns) e q.after)

  pub sizes_are : sizes_in bs ≡ ns
  sizes_are = both_found.0

  pub after_sizes_lem : after_sizes bs ≡ r
  after_sizes_lem = both_found.1

pub sizes_at : (bs : List ℕ) → Filled (after_sizes bs) → Reads (Sizes (sizes_in bs)) bs (after_sizes bs)
sizes_at bs h =
    let inner = closed_at (suc (length (after_token 40 bs))) (after_token 40 bs) h in
    both (token_at 40 bs (filled inner h)) inner
