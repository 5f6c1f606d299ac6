-- The reader of a header's text and the grammar are the same. Assumes nothing.
use Prim.Native.Nat.{ℕ}
use mathlib.Core.Path.{◌≡◌, refl, ap, ◌∙◌}
use mathlib.Core.Bool.{Bool, true, false, cond}
use mathlib.Core.List.{List}
use mathlib.Core.Option.{Option, none, some, none-ne-some, some-injective}
use Rattle.npy_tokens.specs.Tokens.{after_byte}
use Rattle.npy_header.specs.Dictionary.{Dictionary, Key, Descr, FortranOrder, Shape}
use Rattle.npy_header.specs.Grammar.{Entries, Header}
use Rattle.npy_header.specs.Reading.{Read, is_closed, gathered, dictionary_of, entries_of, header_of}
use Rattle.npy_grammar.specs.Exact.{Exact}
use Rattle.npy_grammar.proofs.Pieces.{whole, alone, both, parts, exactly, from, filled}
use Rattle.npy_grammar.proofs.Marks.{after_byte_lem, byte}
use Rattle.npy_grammar.proofs.States.{Agrees, three_from}
use Rattle.npy_grammar.proofs.EntriesFound.{entries_found}
use Rattle.npy_grammar.proofs.EntriesRead.{entries_read}
use Rattle.npy_grammar.proofs.Ends.{end_found, end_filled, end_read}

-- ---- a state that agrees with a dictionary on every key gives that dictionary, and back
gathers : (d : Dictionary) (r : Read) → ((k : Key) → Agrees d r k) → dictionary_of r ≡ some d
gathers d r agrees = rw (agrees Descr, agrees FortranOrder, agrees Shape)

Each : Dictionary → Option (List ℕ) → Option Bool → Option (List ℕ) → Type 0
Each d a b c = (a ≡ some d.descr) × (b ≡ some d.fortran_order) × (c ≡ some d.shape)

gathered_from : (d : Dictionary) (a : Option (List ℕ)) (b : Option Bool) (c : Option (List ℕ)) → gathered a b c ≡ some d
    → Each d a b c
unfolding Each
gathered_from d none b c e = absurd (none-ne-some d e)
gathered_from d (some a) none c e = absurd (none-ne-some d e)
gathered_from d (some a) (some b) none e = absurd (none-ne-some d e)
gathered_from d (some a) (some b) (some c) e =
    let same = some-injective _ d e in (
      ap (λ (x : Dictionary). some x.descr) same,
      ap (λ (x : Dictionary). some x.fortran_order) same,
      ap (λ (x : Dictionary). some x.shape) same,
    )

agrees_with : (d : Dictionary) (r : Read) → dictionary_of r ≡ some d → (k : Key) → Agrees d r k
unfolding Each
agrees_with d r e Descr = (gathered_from d r.descr r.fortran_order r.shape e).0
agrees_with d r e FortranOrder = (gathered_from d r.descr r.fortran_order r.shape e).1
agrees_with d r e Shape = (gathered_from d r.descr r.fortran_order r.shape e).2

-- ---- the whole
complete : (d : Dictionary) (text : List ℕ) → Header d text → header_of text ≡ some d
unfolding Header header_of entries_of
complete d text h =
    let q = parts (whole (Header d) text h) in
    let s = parts q.after in
    let opened : after_byte 123 text ≡ q.middle =
    ap (after_byte 123) (exactly q.before) ∙ after_byte_lem 123 q.middle in
    let found = entries_found d (from (Entries d) opened s.before) in
    rw (found.rest, end_found s.middle s.after) (gathers d (three_from (after_byte 123 text)) found.agrees)

sound : (d : Dictionary) (text : List ℕ) → header_of text ≡ some d → Header d text
unfolding Header header_of entries_of
sound d text e = go (is_closed state.rest) refl e
  where
    state : Read
    state = three_from (after_byte 123 text)

    go : (t : Bool) → is_closed state.rest ≡ t → cond t (dictionary_of state) none ≡ some d → Header d text
    go true closed f =
        let h = end_filled state.rest closed in
        let entries = entries_read d (after_byte 123 text) h (agrees_with d state f) in
        let open-brace = byte 123 text (filled entries h) in
        alone (Header d) text (both open-brace (both entries (end_read state.rest closed)))
    go false closed f = absurd (none-ne-some d f)

pub exact : Exact
exact = record { complete = complete; sound = sound }
