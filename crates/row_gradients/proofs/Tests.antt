-- What an answer that is `Err` says of its test. Assumes nothing.
use Rattle.std.specs.Prelude.{Ok, Err}
use mathlib.Core.Path.{◌≡◌, refl}
use mathlib.Core.Bool.{Bool, true, false}
use Prim.Native.Nat.{ℕ}
use native.Mathlib.Omega.{arith}
use Rattle.refusals.specs.declared.Refusal.{Refusal}
use Rattle.refusals.specs.Refusals.{◌otherwise◌, Outcome, outcome_of}
use Rattle.refusals.proofs.Firsts.{refused}

-- it is not `Ok`
pub never_ok : {A : Type 0} {e : Refusal} → ◌≡◌ {A = Outcome} (Err e) (Ok tt) → A
never_ok p = let z : ◌≡◌ {A = ℕ} 0 1 = cc in absurd (omega arith)

-- its test fails
pub test_fails : (b : Bool) (n c : ℕ) (e : Refusal) → outcome_of (b otherwise n) c ≡ Err e → b ≡ false
test_fails true n c e p = absurd (refused 0 c e p refl)
test_fails false n c e p = refl
