-- A text that has a piece of a language at its front and a rest behind it, and how such pieces follow one another. Both
-- halves of the theorem speak of texts this way. Assumes nothing.
use Prim.Native.Nat.{ℕ, ◌≤◌}
use native.Mathlib.Omega.{arith}
use mathlib.Core.Path.{◌≡◌, refl, sym, ap, ◌∙◌, subst}
use mathlib.Core.Logic.{◌⊎◌, inl, inr}
use mathlib.Core.List.{List, [], ◌∷◌, ◌++◌, append_assoc, append-nil}
use lib.ListN.{length, length-append}
use Rattle.npy_header.specs.Grammar.{Language, Exactly, Optional, ◌⨾◌}

-- bs is a piece of P and then r
pub record Reads (P : Language) (bs r : List ℕ) : Type 0 where
  pub piece : List ℕ
  pub split : bs ≡ piece ++ r
  pub holds : P piece

-- ---- a whole text is a piece with no rest behind it, and back
pub whole : (P : Language) (bs : List ℕ) → P bs → Reads P bs []
whole P bs p = record { piece = bs; split = sym (append-nil bs); holds = p }

pub alone : (P : Language) (bs : List ℕ) → Reads P bs [] → P bs
alone P bs p = subst P (sym (p.split ∙ append-nil p.piece)) p.holds

-- ---- no piece, and a piece that is one text alone
pub nothing : (bs : List ℕ) → Reads (Exactly []) bs bs
nothing bs = record { piece = []; split = refl; holds = refl }

pub exactly : {text bs r : List ℕ} → Reads (Exactly text) bs r → bs ≡ text ++ r
exactly {text} {bs} {r} p = p.split ∙ ap (λ (l : List ℕ). l ++ r) p.holds

-- the same piece, of another language
abbrev pub retold : {P : Language} (Q : Language) {bs r : List ℕ} (p : Reads P bs r) → Q p.piece → Reads Q bs r
retold Q p q = record { piece = p.piece; split = p.split; holds = q }

-- ---- a piece, or none
pub without : (P : Language) (bs : List ℕ) → Reads (Optional P) bs bs
without P bs = record { piece = []; split = refl; holds = inl refl }

pub present : {P : Language} {bs r : List ℕ} → Reads P bs r → Reads (Optional P) bs r
present {P} p = retold (Optional P) p (inr p.holds)

pub whether : {P : Language} {bs r : List ℕ} → Reads (Optional P) bs r → (bs ≡ r) ⊎ Reads P bs r
whether {P} {bs} {r} p =
    elim p.holds [
      | inl e ↦ inl (exactly (retold (Exactly []) p e))
      | inr h ↦ inr (retold P p h)
    ]

-- ---- a piece behind a piece
pub record Parts (P Q : Language) (bs r : List ℕ) : Type 0 where
  pub middle : List ℕ
  pub before : Reads P bs middle
  pub after : Reads Q middle r

pub both : {P Q : Language} {bs m r : List ℕ} → Reads P bs m → Reads Q m r → Reads (P ⨾ Q) bs r
both {P} {Q} {bs} {m} {r} p q =
    let a = p.piece in
    let b = q.piece in
    record {
      piece = a ++ b;
      split = p.split ∙ ap (λ (l : List ℕ). a ++ l) q.split ∙ sym (append_assoc a b r);
      holds = record { front = a; back = b; split = refl; first = p.holds; second = q.holds };
    }

pub parts : {P Q : Language} {bs r : List ℕ} → Reads (P ⨾ Q) bs r → Parts P Q bs r
parts {P} {Q} {bs} {r} p =
    let s = p.holds in
    record {
      middle = s.back ++ r;
      before = record {
        piece = s.front;
        split = p.split ∙ ap (λ (l : List ℕ). l ++ r) s.split ∙ append_assoc s.front s.back r;
        holds = s.first;
      };
      after = record { piece = s.back; split = refl; holds = s.second };
    }

-- ---- a rest that is not empty: a reader that fails leaves none
abbrev pub Filled : List ℕ → Type 0
Filled [] = ⊥
Filled (b ∷ bs) = Unit {0}

filled_behind : (a r : List ℕ) → Filled r → Filled (a ++ r)
filled_behind [] r h = h
filled_behind (b ∷ a) r h = tt

pub filled : {P : Language} {bs r : List ℕ} → Reads P bs r → Filled r → Filled bs
filled {P} {bs} {r} p h = subst Filled (sym p.split) (filled_behind p.piece r h)

-- the same piece from an equal text, or with an equal rest
pub from : (P : Language) {bs m r : List ℕ} → bs ≡ m → Reads P m r → Reads P bs r
from P {bs} {m} {r} e p = subst (λ (l : List ℕ). Reads P l r) (sym e) p

pub upto : (P : Language) {bs m r : List ℕ} → m ≡ r → Reads P bs m → Reads P bs r
upto P {bs} e p = subst (Reads P bs) e p

-- a rest is no longer than its text
pub no_longer : {P : Language} {bs r : List ℕ} → Reads P bs r → length r ≤ length bs
no_longer {P} {bs} {r} p = omega (arith, ap length p.split, length-append p.piece r)
