-- The three entries are found where they stand. Assumes nothing.
use Prim.Native.Nat.{ℕ}
use mathlib.Core.Path.{◌≡◌, refl, sym, ap, ◌∙◌}
use mathlib.Core.List.{List}
use mathlib.Core.Option.{none, some}
use Rattle.npy_tokens.specs.Tokens.{belongs, after_token}
use Rattle.npy_header.specs.Dictionary.{Dictionary, Key, name_of}
use Rattle.npy_header.specs.Grammar.{Comma, Value, Entry, Entries, ◌⨾◌}
use Rattle.npy_header.specs.Reading.{Read, nothing_from, entry_of, comma_of}
use Rattle.npy_grammar.proofs.Pieces.{Reads, Parts, parts, from, retold}
use Rattle.npy_grammar.proofs.Marks.{after_token_lem}
use Rattle.npy_grammar.proofs.Strings.{string_is, after_string_lem}
use Rattle.npy_grammar.proofs.Values.{value_is, after_value_lem}
use Rattle.npy_grammar.proofs.States.{Agrees, three_from, at, at_first, at_comma}
use Rattle.npy_grammar.proofs.States.{value, step_rest, step_at, step_others}
use Rattle.npy_grammar.proofs.Orders.{every}

-- ---- the state r, and the state s behind the entry of a key, of which the rest is m
record Taken (d : Dictionary) (k : Key) (r s : Read) (m : List ℕ) : Type 0 where
  rest : s.rest ≡ m
  agrees : Agrees d s k
  others : (j : Key) → (j ≡ k → ⊥) → at j s ≡ at j r

take : (d : Dictionary) (k : Key) (r : Read) {m : List ℕ} → at k r ≡ none → Reads (Entry d k) r.rest m
    → Taken d k r (entry_of r) m
unfolding belongs
take d k r {m} new p =
    let q = parts p in
    let s = parts q.after in
    let name = string_is (name_of k) q.before in
    let colon : value r ≡ s.middle =
    ap (after_token 58) (after_string_lem (name_of k) q.before) ∙ after_token_lem 58 refl s.before in
    let v = from (Value d k) colon s.after in
    record {
      rest = step_rest k r name new ∙ after_value_lem d k v;
      agrees = step_at k r name new ∙ ap some (value_is d k v);
      others = step_others k r name new;
    }

-- a comma before it
take_next : (d : Dictionary) (k : Key) (r : Read) {bs m : List ℕ} → r.rest ≡ bs → at k r ≡ none
    → Parts Comma (Entry d k) bs m → Taken d k r (entry_of (comma_of r)) m
unfolding belongs comma_of
take_next d k r e new q =
    let comma : (comma_of r).rest ≡ q.middle = ap (after_token 44) e ∙ after_token_lem 44 refl q.before in
    let t = take d k (comma_of r) (at_comma k r ∙ new) (from (Entry d k) comma q.after) in
    record { rest = t.rest; agrees = t.agrees; others = λ j n. t.others j n ∙ at_comma j r }

-- ---- the three
pub record Found (d : Dictionary) (bs m : List ℕ) : Type 0 where
  pub rest : (three_from bs).rest ≡ m
  pub agrees : (k : Key) → Agrees d (three_from bs) k

pub entries_found : (d : Dictionary) {bs m : List ℕ} → Reads (Entries d) bs m → Found d bs m
entries_found d {bs} {m} p =
    let e = p.holds in
    let a = e.key1 in
    let b = e.key2 in
    let c = e.key3 in
    let ab = e.different.0 in
    let ac = e.different.1 in
    let bc = e.different.2 in
    let q1 = parts (retold (Entry d a ⨾ Comma ⨾ Entry d b ⨾ Comma ⨾ Entry d c) p e.text) in
    let c1 = parts q1.after in
    let q2 = parts c1.after in
    let c2 = parts q2.after in
    let r0 = nothing_from bs in
    let r1 = entry_of r0 in
    let r2 = entry_of (comma_of r1) in
    let first = take d a r0 (at_first a bs) q1.before in
    let second =
    take_next d b r1 first.rest (first.others b (λ x. ab (sym x)) ∙ at_first b bs)
    (record { middle = c1.middle; before = c1.before; after = q2.before }) in
    let third =
    take_next d c r2 second.rest
    (second.others c (λ x. bc (sym x)) ∙ first.others c (λ x. ac (sym x)) ∙ at_first c bs) c2 in
    record {
      rest = third.rest;
      agrees = every (Agrees d (three_from bs)) a b c e.different
          (third.others a ac ∙ second.others a ab ∙ first.agrees) (third.others b bc ∙ second.agrees)
          third.agrees;
    }
