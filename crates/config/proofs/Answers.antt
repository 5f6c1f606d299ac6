-- What an answer says of the refusal that it was made of, and when two configurations are answered alike.
-- Assumes nothing.
use Rattle.std.specs.Prelude.{Err, Ok}
use Prim.Native.Nat.{ℕ, zero, suc}
use native.Mathlib.Omega.{arith}
use mathlib.Core.Path.{◌≡◌, refl, sym, ap}
use mathlib.Core.Bool.{Bool, true, false}
use borrow.Author.Tests.{ne_eqb}
use Rattle.refusals.specs.declared.Refusal.{Refusal}
use Rattle.refusals.specs.Refusals.{◌otherwise◌, ◌then◌, outcome_of}
use Rattle.config.specs.declared.Sizes.{Sizes}
use Rattle.config.specs.Config.{carried_by, checked_of}
use Rattle.config.proofs.Tests.{never}

-- ---- for callers that match on an answer: its checks were n, and its sizes s
pub record Accepted (n : ℕ) (s t : Sizes) : Type 0 where
  pub passed : n ≡ 0
  pub sizes : s ≡ t

pub accepted : (n : ℕ) (s t : Sizes) → checked_of n s ≡ Ok t → Accepted n s t
accepted zero s t e = record { passed = refl; sizes = cc }
accepted (suc n) s t e = let z : ◌≡◌ {A = ℕ} 0 1 = cc in absurd (omega arith)

pub record Rejected (n : ℕ) (s : Sizes) (r : Refusal) : Type 0 where
  pub number : n ≡ r.number
  pub stopped : n ≡ 0 → ⊥
  pub carried : r.carried ≡ carried_by n s.parameters
  -- the same in one, for a call that answers with an `Outcome`
  pub outcome : Err r ≡ outcome_of n (carried_by n s.parameters)

pub rejected : (n : ℕ) (s : Sizes) (r : Refusal) → checked_of n s ≡ Err r → Rejected n s r
rejected zero s r e = let z : ◌≡◌ {A = ℕ} 0 1 = cc in absurd (omega arith)
rejected (suc n) s r e = record { number = cc; stopped = λ z. omega (arith, z); carried = cc; outcome = cc }

-- a refusal that carries nothing
pub refuses : (n : ℕ) (s : Sizes) → (n ≡ 0 → ⊥) → (n ≡ 7 → ⊥)
    → Err (record { number = n; carried = 0 }) ≡ checked_of n s
refuses zero s some h = absurd (some refl)
refuses (suc n) s some h = rw (ne_eqb (suc n) 7 h)

-- ---- more checks after an answer: a refusal stays, and an accepted configuration is left to them
pub stays_refused : (n more : ℕ) (s : Sizes) (r : Refusal) → checked_of n s ≡ Err r
    → Err r ≡ checked_of (n then more) s
stays_refused zero more s r e = let z : ◌≡◌ {A = ℕ} 0 1 = cc in absurd (omega arith)
stays_refused (suc n) more s r e = sym e

pub goes_on : (n : ℕ) (s t : Sizes) (more : Sizes → ℕ) → checked_of n s ≡ Ok t
    → checked_of (n then more s) s ≡ checked_of (more t) t
goes_on n s t more e =
    let a = accepted n s t e in rw a.passed (ap (λ (z : Sizes). checked_of (more z) z) a.sizes)

-- ---- a check that passes alike in both, and what follows where it does
pub alike : (a b : Bool) (n k m : ℕ) (s t : Sizes)
    → carried_by (suc n) s.parameters ≡ carried_by (suc n) t.parameters → a ≡ b
    → (b ≡ true → checked_of k s ≡ checked_of m t)
    → checked_of (a otherwise suc n then k) s ≡ checked_of (b otherwise suc n then m) t
alike true true n k m s t c e h = h refl
alike true false n k m s t c e h = never (sym e)
alike false true n k m s t c e h = never e
alike false false n k m s t c e h = ap (λ (v : ℕ). Err (record { number = suc n; carried = v })) c
