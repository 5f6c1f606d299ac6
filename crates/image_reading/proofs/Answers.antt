-- What an answer says of the checks that it was made of. Assumes nothing.
use Rattle.std.specs.Prelude.{Err, Ok}
use Prim.Native.Nat.{ℕ, zero, suc}
use native.Mathlib.Omega.{arith}
use mathlib.Core.Path.{◌≡◌, refl, sym}
use mathlib.Core.List.{List}
use Rattle.refusals.specs.declared.Refusal.{Refusal}
use Rattle.refusals.specs.Refusals.{◌then◌, outcome_of}
use Rattle.image_reading.specs.declared.Description.{Description}
use Rattle.image_reading.specs.Image.{description_in, carried_in}
use Rattle.image_reading.specs.Stages.{answer_to}

-- ---- for callers that match on an answer to checks that came to n
pub record SoundAnswer (n : ℕ) (bs : List ℕ) (d : Description) : Type 0 where
  pub passed : n ≡ 0
  pub same : description_in bs ≡ d

pub sound_answer : (n : ℕ) (bs : List ℕ) (d : Description) → answer_to n bs ≡ Ok d → SoundAnswer n bs d
sound_answer zero bs d e = record { passed = refl; same = cc }
sound_answer (suc n) bs d e = let z : ◌≡◌ {A = ℕ} 0 1 = cc in absurd (omega arith)

pub record RefusedAnswer (n : ℕ) (bs : List ℕ) (r : Refusal) : Type 0 where
  pub number : r.number ≡ n
  pub stopped : n ≡ 0 → ⊥
  pub carried : r.carried ≡ carried_in n bs
  -- the same in one, for a call that answers with an `Outcome`
  pub outcome : Err r ≡ outcome_of n (carried_in n bs)

pub refused_answer : (n : ℕ) (bs : List ℕ) (r : Refusal) → answer_to n bs ≡ Err r → RefusedAnswer n bs r
refused_answer zero bs r e = let z : ◌≡◌ {A = ℕ} 0 1 = cc in absurd (omega arith)
refused_answer (suc n) bs r e = record { number = cc; stopped = λ z. omega (arith, z); carried = cc; outcome = cc }

-- ---- a refusal of some checks, and what it carries
pub refuses : (n c : ℕ) (bs : List ℕ) (r : Refusal) → outcome_of n c ≡ Err r → c ≡ carried_in n bs
    → Err r ≡ answer_to n bs
refuses zero c bs r e h = let z : ◌≡◌ {A = ℕ} 0 1 = cc in absurd (omega arith)
refuses (suc n) c bs r e h = cc

-- ---- more checks after an answer: a refusal stays, and an accepted image is left to them
pub stays_refused : (n more : ℕ) (bs : List ℕ) (r : Refusal) → answer_to n bs ≡ Err r
    → Err r ≡ answer_to (n then more) bs
stays_refused zero more bs r e = let z : ◌≡◌ {A = ℕ} 0 1 = cc in absurd (omega arith)
stays_refused (suc n) more bs r e = sym e
