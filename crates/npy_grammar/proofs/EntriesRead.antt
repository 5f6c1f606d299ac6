-- Where three entries are read, three entries stand. Assumes nothing.
use Prim.Native.Nat.{ℕ}
use mathlib.Core.Path.{◌≡◌, sym, ◌∙◌, subst}
use mathlib.Core.List.{List, [], ◌∷◌}
use mathlib.Core.Option.{none, some, none-ne-some, some-injective}
use Rattle.npy_tokens.specs.Tokens.{behind, between, string_in, after_string, after_token, same}
use Rattle.npy_header.specs.Dictionary.{Dictionary, Key, descr_word, order_word, shape_word}
use Rattle.npy_header.specs.Grammar.{Text, Comma, Entry, Entries}
use Rattle.npy_header.specs.Reading.{Read, nothing_from, with_value, entry_of, comma_of}
use Rattle.npy_grammar.proofs.Pieces.{Reads, both, upto, retold, Filled, filled}
use Rattle.npy_grammar.proofs.Marks.{token_at}
use Rattle.npy_grammar.proofs.Strings.{text_at}
use Rattle.npy_grammar.proofs.Values.{Kind, said, value_in, value_at}
use Rattle.npy_grammar.proofs.States.{Agrees, three_from, at, at_comma}
use Rattle.npy_grammar.proofs.States.{value, step_rest, step_at, step_others, Named, named}

-- ---- the state r, and the state s behind an entry that stands at the front of bs
record Entered (bs : List ℕ) (r s : Read) : Type 0 where
  key : Key
  new : at key r ≡ none
  content : Kind key
  there : at key s ≡ some content
  others : (j : Key) → (j ≡ key → ⊥) → at j s ≡ at j r
  entry : (d : Dictionary) → Agrees d s key → Reads (Entry d key) bs s.rest

entry_at : (d : Dictionary) (r : Read) (n : Named r) → Filled (entry_of r).rest → Agrees d (entry_of r) n.key
    → Reads (Entry d n.key) r.rest (entry_of r).rest
entry_at d r n h a =
    let k = n.key in
    let e = step_rest k r n.name n.new in
    let f = subst Filled e h in
    let says = some-injective (value_in k (value r)) (said d k) (sym (step_at k r n.name n.new) ∙ a) in
    let v = value_at d k (value r) says f in
    let colon = token_at 58 (after_string r.rest) (filled v f) in
    let text = text_at r.rest (filled colon (filled v f)) in
    let name = subst (λ (s : List ℕ). Reads (Text s) r.rest (after_string r.rest)) n.name text in
    upto (Entry d k) (sym e) (both name (both colon v))

enter : (r : Read) → Filled (entry_of r).rest → Entered r.rest r (entry_of r)
enter r h =
    let n = named r h in
    let k = n.key in
    record {
      key = k;
      new = n.new;
      content = value_in k (value r);
      there = step_at k r n.name n.new;
      others = step_others k r n.name n.new;
      entry = λ d a. entry_at d r n h a;
    }

-- a comma before it
enter_next : (r : Read) → Filled (entry_of (comma_of r)).rest → Entered (after_token 44 r.rest) r (entry_of (comma_of r))
unfolding comma_of
enter_next r h =
    let t = enter (comma_of r) h in
    record {
      key = t.key;
      new = sym (at_comma t.key r) ∙ t.new;
      content = t.content;
      there = t.there;
      others = λ j n. t.others j n ∙ at_comma j r;
      entry = t.entry;
    }

-- a key that is there is not one that is not
clash : (j k : Key) (r : Read) {v : Kind j} → at j r ≡ some v → at k r ≡ none → j ≡ k → ⊥
clash j k r {v} p q e = none-ne-some v (sym (subst (λ (i : Key). at i r ≡ none) (sym e) q) ∙ p)

-- ---- three, one behind the other, of which the last state agrees with a dictionary
module _ (d : Dictionary) {bs bs' bs'' : List ℕ} {r0 r1 r2 r3 : Read} (first : Entered bs r0 r1)
    (second : Entered bs' r1 r2) (third : Entered bs'' r2 r3) (agrees : (k : Key) → Agrees d r3 k) where
  ab : first.key ≡ second.key → ⊥
  ab = clash first.key second.key r1 first.there second.new

  bc : second.key ≡ third.key → ⊥
  bc = clash second.key third.key r2 second.there third.new

  ac : first.key ≡ third.key → ⊥
  ac = clash first.key third.key r2 (second.others first.key ab ∙ first.there) third.new

  three : Reads Comma r1.rest bs' → Reads Comma r2.rest bs'' → Reads (Entries d) bs r3.rest
  three comma comma' =
      let a = first.key in
      let b = second.key in
      let c = third.key in
      let entry1 = first.entry d (sym (third.others a ac ∙ second.others a ab) ∙ agrees a) in
      let entry2 = second.entry d (sym (third.others b bc) ∙ agrees b) in
      let entry3 = third.entry d (agrees c) in
      let text = both entry1 (both comma (both entry2 (both comma' entry3))) in
      retold (Entries d) text (record { key1 = a; key2 = b; key3 = c; different = (ab, ac, bc); text = text.holds })

-- ---- what is left behind the last tells that none of them failed
entry_left : (r : Read) → Filled (entry_of r).rest → Filled r.rest
unfolding entry_of with_value descr_word order_word shape_word between behind same
entry_left r h = go r.rest h
  where
    go : (bs : List ℕ) → Filled (with_value (string_in bs) r (after_token 58 (after_string bs))).rest → Filled bs
    go [] f = f
    go (b ∷ bs) f = tt

pub entries_read : (d : Dictionary) (bs : List ℕ) → Filled (three_from bs).rest
    → ((k : Key) → Agrees d (three_from bs) k) → Reads (Entries d) bs (three_from bs).rest
unfolding comma_of
entries_read d bs h agrees =
    let r1 = entry_of (nothing_from bs) in
    let r2 = entry_of (comma_of r1) in
    let left'' = entry_left (comma_of r2) h in
    let comma' = token_at 44 r2.rest left'' in
    let left2 = filled comma' left'' in
    let left' = entry_left (comma_of r1) left2 in
    let comma = token_at 44 r1.rest left' in
    let left1 = filled comma left' in
    three d (enter (nothing_from bs) left1) (enter_next r1 left2) (enter_next r2 h) agrees comma comma'
