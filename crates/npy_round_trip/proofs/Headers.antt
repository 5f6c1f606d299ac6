-- The header that is written is one of the grammar, for the shape that was written, and so it is read as such.
-- Assumes nothing.
use Prim.Native.Nat.{ℕ, zero, suc, ◌<◌}
use native.Mathlib.Omega.{arith}
use mathlib.Core.Path.{◌≡◌, refl, sym, ap, subst}
use mathlib.Core.List.{List, [], ◌∷◌, ◌++◌, append_assoc}
use mathlib.Core.Option.{some}
use lib.ListN.{replicate}
use Rattle.text.specs.Text.{decimal_of}
use Rattle.npy_tokens.specs.declared.Class.TheVariants.{Space, Within}
use Rattle.npy_tokens.specs.Tokens.{belongs, front}
use Rattle.npy_header.specs.Dictionary.{Dictionary, Descr, FortranOrder, Shape, name_of}
use Rattle.npy_header.specs.Dictionary.{descr_word, order_word, shape_word, false_word, single_word}
use Rattle.npy_header.specs.Grammar.{Language, Exactly, Many, Spaces, Token, Quoted, Number, Comma, Numbers, Value}
use Rattle.npy_header.specs.Grammar.{Entry, Entries, Header, ◌⨾◌}
use Rattle.npy_header.specs.Reading.{header_of}
use Rattle.npy_grammar.proofs.Pieces.{Reads, alone, retold, both, from, without, present}
use Rattle.npy_grammar.proofs.Spans.{all_belong}
use Rattle.npy_grammar.proofs.Exact.{exact}
use Rattle.npy_front.specs.Front.{opening, separator, closing, dictionary_text}
use Rattle.npy_round_trip.specs.RoundTrip.{singles}
use Rattle.npy_round_trip.proofs.Decimals.{decimal}

-- ---- pieces: a text alone, n spaces before a piece, a string, a number
this : {r : List ℕ} (w : List ℕ) → Reads (Exactly w) (w ++ r) r
this w = record { piece = w; split = refl; holds = refl }

spaces : (n : ℕ) → Many Space (replicate n 32)
unfolding Many belongs
spaces zero = tt
spaces (suc n) = (refl, spaces n)

behind : {Q : Language} {bs r : List ℕ} (n : ℕ) → Reads Q bs r → Reads (Spaces ⨾ Q) (replicate n 32 ++ bs) r
behind n q = both (record { piece = replicate n 32; split = refl; holds = spaces n }) q

quoted : {r : List ℕ} (s : List ℕ) → front (Within 39) s ≡ s → Reads (Quoted s) (39 ∷ (s ++ (39 ∷ r))) r
quoted {r} s e = record {
  piece = 39 ∷ (s ++ (39 ∷ []));
  split = ap (λ (l : List ℕ). 39 ∷ l) (sym (append_assoc s (39 ∷ []) r));
  holds = record {
    quote = 39;
    either = refl;
    closed = refl;
    inside = subst (Many (Within 39)) e (all_belong (Within 39) s);
  };
}

-- sizes that a layer may have
pub record Size (n : ℕ) : Type 0 where
  pub some : 0 < n
  pub few : n < 1000000

number : {n : ℕ} {r : List ℕ} (spaces : ℕ) → Size n → Reads (Number n) (replicate spaces 32 ++ (decimal_of n ++ r)) r
number {n} spaces h = behind spaces (record { piece = decimal_of n; split = refl; holds = decimal n h.some h.few })

mark : {r : List ℕ} (spaces b : ℕ) → Reads (Token (b ∷ [])) (replicate spaces 32 ++ (b ∷ r)) r
mark spaces b = behind spaces (this (b ∷ []))

-- three different keys, in the order in which they are written
in_order : (d : Dictionary) {bs r : List ℕ}
    → Reads (Entry d Descr ⨾ Comma ⨾ Entry d FortranOrder ⨾ Comma ⨾ Entry d Shape) bs r → Reads (Entries d) bs r
in_order d p =
    retold (Entries d) p (record {
      key1 = Descr;
      key2 = FortranOrder;
      key3 = Shape;
      different = ((λ e. absurd (apart (cc))), (λ e. absurd (apart (cc))), (λ e. absurd (apart (cc))));
      text = p.holds;
    })
  where
    apart : ◌≡◌ {A = ℕ} 0 1 → ⊥
    apart e = omega arith

module _ (a b c : ℕ) (ha : Size a) (hb : Size b) (hc : Size c) where
  abbrev written : Dictionary
  written = singles (a ∷ b ∷ c ∷ [])

  numbers : {r : List ℕ} → Reads (Numbers (a ∷ b ∷ c ∷ []) ⨾ Token (41 ∷ []))
      (decimal_of a ++ (separator ++ (decimal_of b ++ (separator ++ (decimal_of c ++ (41 ∷ r)))))) r
  unfolding Numbers separator
  numbers =
      let last = both (number 1 hc) (without _ _) in
      both (both (number 0 ha) (both (mark 0 44) (both (number 1 hb) (both (mark 0 44) last)))) (mark 0 41)

  -- the brace, the entries, and what follows them
  entries : {Q : Language} {m r : List ℕ} → Reads Q m r → Reads (Exactly (123 ∷ []) ⨾ Entries written ⨾ Q)
      (opening ++ (decimal_of a ++ (separator ++ (decimal_of b ++ (separator ++ (decimal_of c ++ (41 ∷ m))))))) r
  unfolding Value front belongs name_of descr_word order_word shape_word false_word single_word opening
  entries end =
      let descr = both (behind 0 (quoted descr_word refl)) (both (mark 0 58) (behind 1 (quoted single_word refl))) in
      let order = both (behind 1 (quoted order_word refl)) (both (mark 0 58) (behind 1 (this false_word))) in
      let shape = both (behind 1 (quoted shape_word refl)) (both (mark 0 58) (both (mark 1 40) numbers)) in
      let three = in_order written (both descr (both (mark 0 44) (both order (both (mark 0 44) shape)))) in
      both (this (123 ∷ [])) (both three end)

  -- the whole, with n spaces and the newline behind it
  header : (n : ℕ) → Reads (Header written) (dictionary_text a b c ++ (replicate n 32 ++ (10 ∷ []))) []
  unfolding Header dictionary_text closing
  header n =
      let end = both (present (mark 0 44)) (both (mark 1 125) (mark n 10)) in
      from (Header written) (simp append_assoc) (entries end)

  pub header_read : (n : ℕ) → header_of (dictionary_text a b c ++ (replicate n 32 ++ (10 ∷ []))) ≡ some written
  header_read n = exact.complete written _ (alone (Header written) _ (header n))
