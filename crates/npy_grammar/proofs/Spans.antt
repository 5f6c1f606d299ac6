-- The longest front of a text whose bytes belong to a class: found wherever such bytes stop, and always such bytes.
-- Assumes nothing.
use Prim.Native.Nat.{ℕ}
use mathlib.Core.Path.{◌≡◌, refl, ap, ◌∙◌}
use mathlib.Core.Bool.{Bool, true, false, cond}
use mathlib.Core.List.{List, [], ◌∷◌, ◌++◌}
use Rattle.npy_tokens.specs.declared.Class.{Class}
use Rattle.npy_tokens.specs.Tokens.{belongs, front, behind}
use Rattle.npy_header.specs.Grammar.{Many}
use Rattle.npy_grammar.proofs.Pieces.{Reads}

-- a text that does not begin with a byte of a class
abbrev pub Stops : Class → List ℕ → Type 0
Stops c [] = Unit {0}
Stops c (b ∷ bs) = belongs c b ≡ false

module _ (c : Class) where
  -- ---- bytes of the class, and then a text that stops them
  behind_all : (bs r : List ℕ) → Many c bs → Stops c r → behind c (bs ++ r) ≡ r
  unfolding behind Many
  behind_all [] [] m s = refl
  behind_all [] (b ∷ r) m s = rw s
  behind_all (b ∷ bs) r m s = rw m.0 (behind_all bs r m.1 s)

  front_all : (bs r : List ℕ) → Many c bs → Stops c r → front c (bs ++ r) ≡ bs
  unfolding front Many
  front_all [] [] m s = refl
  front_all [] (b ∷ r) m s = rw s
  front_all (b ∷ bs) r m s = rw m.0 (ap (λ (l : List ℕ). b ∷ l) (front_all bs r m.1 s))

  pub behind_is : {bs r : List ℕ} → Reads (Many c) bs r → Stops c r → behind c bs ≡ r
  behind_is {bs} {r} p s = ap (behind c) p.split ∙ behind_all p.piece r p.holds s

  pub front_is : {bs r : List ℕ} (p : Reads (Many c) bs r) → Stops c r → front c bs ≡ p.piece
  front_is {bs} {r} p s = ap (front c) p.split ∙ front_all p.piece r p.holds s

  -- ---- any text
  pub joined : (bs : List ℕ) → bs ≡ front c bs ++ behind c bs
  unfolding front behind
  joined [] = refl
  joined (b ∷ bs) = go (belongs c b) (joined bs)
    where
      go : (t : Bool) → bs ≡ front c bs ++ behind c bs
          → b ∷ bs ≡ cond t (b ∷ front c bs) [] ++ cond t (behind c bs) (b ∷ bs)
      go true e = ap (λ (l : List ℕ). b ∷ l) e
      go false e = refl

  pub all_belong : (bs : List ℕ) → Many c (front c bs)
  unfolding front Many
  all_belong [] = tt
  all_belong (b ∷ bs) = go (belongs c b) refl (all_belong bs)
    where
      go : (t : Bool) → belongs c b ≡ t → Many c (front c bs) → Many c (cond t (b ∷ front c bs) [])
      go true e m = (e, m)
      go false e m = tt

  abbrev pub span : (bs : List ℕ) → Reads (Many c) bs (behind c bs)
  span bs = record { piece = front c bs; split = joined bs; holds = all_belong bs }
