-- Four numbers moved one place at a time. Assumes nothing.
use mathlib.Core.Path.{◌≡◌, refl, sym, ap, ◌∙◌}
use Prim.Native.Nat.{ℕ, zero, suc, ◌+◌, ◌-◌}
use native.Mathlib.Omega.{arith}
use native.Mathlib.Nat.{suc-add}
use Rattle.floats.specs.Binary32.{zero32}
use Rattle.local_basis.specs.declared.Four.{Four}
use Rattle.local_basis.specs.Fours.{down_by, up_by, placed_of}

-- one place more
pub down_more : (n : ℕ) (s : Four) → down_by 1 (down_by n s) ≡ down_by (n + 1) s
unfolding down_by
down_more zero s = refl
down_more (suc n) s = down_more n _ ∙ ap (λ (k : ℕ). down_by k s) (sym (suc-add n 1))

pub up_more : (n : ℕ) (s : Four) → up_by 1 (up_by n s) ≡ up_by (n + 1) s
unfolding up_by
up_more zero s = refl
up_more (suc n) s = up_more n _ ∙ ap (λ (k : ℕ). up_by k s) (sym (suc-add n 1))

-- how many places are left below the four
pub up_start : (n : ℕ) (s : Four) → (up_by n s).start ≡ s.start - n
unfolding up_by
up_start zero s = omega arith
up_start (suc n) s = omega (arith, up_start n (record { start = s.start - 1; first = zero32; second = s.first; third = s.second; fourth = s.third }))

-- no place
pub down_none : (n : ℕ) (s : Four) → n ≡ 0 → down_by n s ≡ s
unfolding down_by
down_none n s e = ap (λ (k : ℕ). down_by k s) e

pub up_none : (n : ℕ) (s : Four) → n ≡ 0 → up_by n s ≡ s
unfolding up_by
up_none n s e = ap (λ (k : ℕ). up_by k s) e

-- ---- where four begin does not depend on what they are
down_together : (n : ℕ) (r s : Four) → r.start ≡ s.start → (down_by n r).start ≡ (down_by n s).start
unfolding down_by
down_together zero r s e = e
down_together (suc n) r s e = down_together n _ _ e

up_together : (n : ℕ) (r s : Four) → r.start ≡ s.start → (up_by n r).start ≡ (up_by n s).start
unfolding up_by
up_together zero r s e = e
up_together (suc n) r s e = up_together n _ _ (ap (λ (k : ℕ). k - 1) e)

pub placed_together : (g a : ℕ) (r s : Four) → r.start ≡ s.start → (placed_of g a r).start ≡ (placed_of g a s).start
placed_together g a r s e = up_together (a - (g + 2)) _ _ (down_together (3 - a) r s e)
