-- Single bytes, words and tokens: their reader finds them, and what it finds is one. Assumes nothing.
use Prim.Native.Nat.{ℕ}
use mathlib.Core.Path.{◌≡◌, refl, sym, ap, ◌∙◌, subst}
use mathlib.Core.Bool.{Bool, true, false, ◌&&◌, cond, false≢true}
use mathlib.Core.List.{List, [], ◌∷◌, ◌++◌}
use lib.Dec.{eqb}
use borrow.Author.Tests.{eqb-true, eq-eqb}
use Rattle.npy_tokens.specs.declared.Class.{Class}
use Rattle.npy_tokens.specs.declared.Class.TheVariants.{Space}
use Rattle.npy_tokens.specs.Tokens.{belongs, behind, after_byte, after_bytes, after_token, same}
use Rattle.npy_header.specs.Grammar.{Language, Exactly, Many, Spaces, Token, ◌⨾◌}
use Rattle.npy_grammar.proofs.Pieces.{Reads, both, parts, exactly, nothing, from, Filled, filled}
use Rattle.npy_grammar.proofs.Spans.{Stops, behind_is, span}

-- two bytes between which a test tells
pub apart : (test : ℕ → Bool) (a b : ℕ) → test a ≡ true → test b ≡ false → a ≡ b → ⊥
apart test a b p q e = false≢true (sym q ∙ ap test (sym e) ∙ p)

-- two texts that pass the test are the same
pub same_true : (a b : List ℕ) → same a b ≡ true → a ≡ b
unfolding same
same_true [] [] e = refl
same_true [] (b ∷ bs) e = absurd (false≢true e)
same_true (a ∷ as') [] e = absurd (false≢true e)
same_true (a ∷ as') (b ∷ bs) e = go (eqb a b) refl e (same_true as' bs)
  where
    go : (t : Bool) → eqb a b ≡ t → t && same as' bs ≡ true → (same as' bs ≡ true → as' ≡ bs) → a ∷ as' ≡ b ∷ bs
    go true h f rest = cc (eqb-true a b h, rest f)
    go false h f rest = absurd (false≢true f)

-- ---- found where they stand
pub after_byte_lem : (c : ℕ) (r : List ℕ) → after_byte c (c ∷ r) ≡ r
unfolding after_byte
after_byte_lem c r = rw (eq-eqb c c refl)

pub after_bytes_lem : (w r : List ℕ) → after_bytes w (w ++ r) ≡ r
unfolding after_bytes
after_bytes_lem [] r = refl
after_bytes_lem (c ∷ w) r = ap (after_bytes w) (after_byte_lem c (w ++ r)) ∙ after_bytes_lem w r

-- a piece that does not begin with a space stands behind the spaces before it
pub past_spaces : {Q : Language} {bs r : List ℕ} → Reads (Spaces ⨾ Q) bs r
    → ((m : List ℕ) → Reads Q m r → Stops Space m) → Reads Q (behind Space bs) r
past_spaces {Q} {bs} {r} p stops =
    let q = parts p in
    from Q (behind_is Space q.before (stops q.middle q.after)) q.after

-- a token of which the first byte is no space
pub token : {c : ℕ} {w bs r : List ℕ} → belongs Space c ≡ false → Reads (Token (c ∷ w)) bs r
    → behind Space bs ≡ c ∷ (w ++ r)
token s p = exactly (past_spaces p (λ m q. subst (Stops Space) (sym (exactly q)) s))

pub after_token_lem : (c : ℕ) {bs r : List ℕ} → belongs Space c ≡ false → Reads (Token (c ∷ [])) bs r → after_token c bs ≡ r
after_token_lem c {bs} {r} s p = ap (after_byte c) (token s p) ∙ after_byte_lem c r

-- what a token begins with: a space, or its first byte
pub begins : (c : Class) (b : ℕ) {bs r : List ℕ} → belongs c 32 ≡ false → belongs c b ≡ false
    → Reads (Token (b ∷ [])) bs r → Stops c bs
unfolding Many belongs
begins c b {bs} {r} space stops p =
    let q = parts p in
    let m = q.before in
    subst (Stops c) (sym m.split) (go m.piece m.holds q.middle (exactly q.after))
  where
    go : (spaces : List ℕ) → Many Space spaces → (m : List ℕ) → m ≡ b ∷ r → Stops c (spaces ++ m)
    go [] h m e = subst (Stops c) (sym e) stops
    go (a ∷ as') h m e = ap (belongs c) (eqb-true a 32 h.0) ∙ space

-- ---- what is found is one
pub byte : (c : ℕ) (bs : List ℕ) → Filled (after_byte c bs) → Reads (Exactly (c ∷ [])) bs (after_byte c bs)
unfolding after_byte
byte c [] h = absurd h
byte c (b ∷ bs) h = go (eqb b c) refl h
  where
    go : (t : Bool) → eqb b c ≡ t → Filled (cond t bs []) → Reads (Exactly (c ∷ [])) (b ∷ bs) (cond t bs [])
    go true e f = record { piece = b ∷ []; split = refl; holds = ap (λ (a : ℕ). a ∷ []) (eqb-true b c e) }
    go false e f = absurd f

pub bytes : (w bs : List ℕ) → Filled (after_bytes w bs) → Reads (Exactly w) bs (after_bytes w bs)
unfolding after_bytes
bytes [] bs h = nothing bs
bytes (c ∷ w) bs h =
    let tail = bytes w (after_byte c bs) h in
    let head = byte c bs (filled tail h) in
    record {
      piece = c ∷ w;
      split = exactly head ∙ ap (λ (l : List ℕ). c ∷ l) (exactly tail);
      holds = refl;
    }

pub token_at : (c : ℕ) (bs : List ℕ) → Filled (after_token c bs) → Reads (Token (c ∷ [])) bs (after_token c bs)
token_at c bs h = both (span Space bs) (byte c (behind Space bs) h)
