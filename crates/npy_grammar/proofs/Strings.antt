-- Strings between quotes: their reader finds them, and what it finds is one. Assumes nothing.
use Prim.Native.Nat.{ℕ}
use mathlib.Core.Path.{◌≡◌, refl, sym, ap, ◌∙◌, subst}
use mathlib.Core.Bool.{Bool, true, false, ◌&&◌, not, cond, and-false}
use mathlib.Core.List.{List, [], ◌∷◌, ◌++◌, append_assoc}
use lib.Dec.{leb, eqb}
use borrow.Author.Tests.{eq-eqb, ne_eqb}
use Rattle.npy_tokens.specs.declared.Class.TheVariants.{Space, Within}
use Rattle.npy_tokens.specs.Tokens.{belongs, front, behind, is_quote, between, after_quotes, after_byte}
use Rattle.npy_tokens.specs.Tokens.{string_in, after_string}
use Rattle.npy_header.specs.Grammar.{Many, Quoted, Text}
use Rattle.npy_grammar.proofs.Pieces.{Reads, both, exactly, Filled}
use Rattle.npy_grammar.proofs.Spans.{Stops, behind_is, front_is, span}
use Rattle.npy_grammar.proofs.Marks.{apart, past_spaces, after_byte_lem, byte}

-- ---- found where they stand
between_quotes : (s : List ℕ) {m r : List ℕ} (p : Reads (Quoted s) m r)
    → let q = p.holds.quote in m ≡ q ∷ (s ++ (q ∷ r))
between_quotes s {m} {r} p =
    let q = p.holds.quote in
    p.split ∙ ap (λ (l : List ℕ). l ++ r) p.holds.closed
    ∙ ap (λ (l : List ℕ). q ∷ l) (append_assoc s (q ∷ []) r)

-- what a string begins with is no space, and what closes it is not within it
no_space : (s r m : List ℕ) → Reads (Quoted s) m r → Stops Space m
unfolding belongs
no_space s r m p =
    let q = p.holds.quote in
    subst (Stops Space) (sym (between_quotes s p)) (ne_eqb q 32 (apart is_quote q 32 p.holds.either refl))

quote_stops : (q : ℕ) (r : List ℕ) → Stops (Within q) (q ∷ r)
unfolding belongs
quote_stops q r = rw (eq-eqb q q refl) (and-false (leb 32 q && leb q 126 && not (eqb q 92)))

module _ (s : List ℕ) {bs r : List ℕ} (p : Reads (Text s) bs r) where
  quoted : Reads (Quoted s) (behind Space bs) r
  quoted = past_spaces p (no_space s r)

  abbrev mark : ℕ
  mark = quoted.holds.quote

  at_quote : behind Space bs ≡ mark ∷ (s ++ (mark ∷ r))
  at_quote = between_quotes s quoted

  abbrev content : Reads (Many (Within mark)) (s ++ (mark ∷ r)) (mark ∷ r)
  content = record { piece = s; split = refl; holds = quoted.holds.inside }

  pub string_is : string_in bs ≡ s
  unfolding between
  string_is = rw (at_quote, quoted.holds.either) (front_is (Within mark) content (quote_stops mark r))

  pub after_string_lem : after_string bs ≡ r
  unfolding after_quotes
  after_string_lem =
      rw (at_quote, quoted.holds.either, behind_is (Within mark) content (quote_stops mark r)) (after_byte_lem mark r)

-- ---- what is found is one
quoted_at : (bs : List ℕ) → Filled (after_quotes bs) → Reads (Quoted (between bs)) bs (after_quotes bs)
unfolding between after_quotes
quoted_at [] h = absurd h
quoted_at (q ∷ bs) h = go (is_quote q) refl h
  where
    go : (t : Bool) → is_quote q ≡ t → Filled (cond t (after_byte q (behind (Within q) bs)) [])
        → Reads (Quoted (cond t (front (Within q) bs) [])) (q ∷ bs) (cond t (after_byte q (behind (Within q) bs)) [])
    go true e f =
        let inner = span (Within q) bs in
        let rest = after_byte q (behind (Within q) bs) in
        let close = byte q (behind (Within q) bs) f in
        let s = front (Within q) bs in
        record {
          piece = q ∷ (s ++ (q ∷ []));
          split = ap (λ (l : List ℕ). q ∷ l)
              (inner.split ∙ ap (λ (l : List ℕ). s ++ l) (exactly close) ∙ sym (append_assoc s (q ∷ []) rest));
          holds = record { quote = q; either = e; closed = refl; inside = inner.holds };
        }
    go false e f = absurd f

pub text_at : (bs : List ℕ) → Filled (after_string bs) → Reads (Text (string_in bs)) bs (after_string bs)
text_at bs h = both (span Space bs) (quoted_at (behind Space bs) h)
