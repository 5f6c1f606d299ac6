-- A call's answer, and what it leaves, where the checks that come first refuse.
-- Assumes nothing.
use mathlib.Core.Path.{◌≡◌, refl}
use Prim.Native.Nat.{ℕ, zero, suc}
use Rattle.refusals.specs.Refusals.{◌then◌, past, outcome_of}

-- checks in a row, however they are grouped
pub then_joins : (a b c : ℕ) → ((a then b) then c) ≡ (a then b then c)
then_joins zero b c = refl
then_joins (suc a) b c = refl

module _ {A : Type 0} (checks rest carried : ℕ) (new old : A) where
  -- the first checks refuse
  pub stays : (checks ≡ 0 → ⊥) → outcome_of checks carried ≡ outcome_of (checks then rest) carried
  stays h = by checks h
    where
      by : (n : ℕ) → (n ≡ 0 → ⊥) → outcome_of n carried ≡ outcome_of (n then rest) carried
      by zero h = absurd (h refl)
      by (suc n) h = refl

  pub untouched : (checks ≡ 0 → ⊥) → old ≡ past (checks then rest) new old
  untouched h = by checks h
    where
      by : (n : ℕ) → (n ≡ 0 → ⊥) → old ≡ past (n then rest) new old
      by zero h = absurd (h refl)
      by (suc n) h = refl
