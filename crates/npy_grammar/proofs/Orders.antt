-- Three different keys are all the keys. Assumes nothing.
use Prim.Native.Nat.{ℕ, zero, suc, ◌<◌}
use native.Mathlib.Omega.{arith}
use native.Mathlib.Decide.{ℕ_discrete}
use mathlib.Core.Path.{◌≡◌, refl, sym, ap, ◌∙◌, subst}
use Rattle.npy_header.specs.Dictionary.{Key, Descr, FortranOrder, Shape}

-- the keys counted from 0, so that numbers tell them apart
abbrev number : Key → ℕ
number Descr = 0
number FortranOrder = 1
number Shape = 2

abbrev numbered : ℕ → Key
numbered zero = Descr
numbered (suc zero) = FortranOrder
numbered (suc (suc n)) = Shape

back : (k : Key) → numbered (number k) ≡ k
back Descr = refl
back FortranOrder = refl
back Shape = refl

few : (k : Key) → number k < 3
few Descr = omega arith
few FortranOrder = omega arith
few Shape = omega arith

same_key : (j k : Key) → number j ≡ number k → j ≡ k
same_key j k e = sym (back j) ∙ ap numbered e ∙ back k

pub every : (P : Key → Type 0) (a b c : Key) → (a ≡ b → ⊥) × (a ≡ c → ⊥) × (b ≡ c → ⊥) → P a → P b → P c → (k : Key)
    → P k
every P a b c n p q s k =
    elim (ℕ_discrete (number a) (number k)) [
      | yes e ↦ subst P (same_key a k e) p
      | no x ↦ elim (ℕ_discrete (number b) (number k)) [
        | yes e ↦ subst P (same_key b k e) q
        | no y ↦
            let ab : number a ≡ number b → ⊥ = λ e. n.0 (same_key a b e) in
            let ac : number a ≡ number c → ⊥ = λ e. n.1 (same_key a c e) in
            let bc : number b ≡ number c → ⊥ = λ e. n.2 (same_key b c e) in
            subst P (same_key c k (omega (arith, few a, few b, few c, few k))) s
      ]
    ]
