-- Tests and refusals in a row that agree as long as none has failed. Assumes nothing.
use Prim.Native.Nat.{ℕ, zero, suc, ◌≤◌, ◌<◌}
use native.Mathlib.Nat.{lt-suc_self, le_refl}
use native.Mathlib.Omega.{arith}
use mathlib.Core.Path.{◌≡◌, refl, ap}
use mathlib.Core.Bool.{Bool, true, false, ◌&&◌, cond}
use lib.Dec.{eqb, eqb→eq}
use Rattle.floats.specs.Sums.{all_to}
use Rattle.refusals.specs.Refusals.{◌then◌, first_to, done_to}
use Rattle.refusals.proofs.Firsts.{first_before}

-- ---- what comes past a test, or past checks that give a number, shows only where they are passed
pub past_test : {X Y : Type 0} (b : Bool) (F : Bool → X → Y) {x y : X} → F false x ≡ F false y → (b ≡ true → x ≡ y) → F b x ≡ F b y
past_test true F e h = ap (F true) (h refl)
past_test false F e h = e

pub past_checks : {X Y : Type 0} (n : ℕ) (F : ℕ → X → Y) {x y : X} → ((m : ℕ) → F (suc m) x ≡ F (suc m) y) → (n ≡ 0 → x ≡ y)
    → F n x ≡ F n y
past_checks zero F e h = ap (F 0) (h refl)
past_checks (suc m) F e h = e m

-- ---- tests
pub all_same : (f h : ℕ → Bool) (n : ℕ) → ((r : ℕ) → r < n → all_to f r ≡ true → f r ≡ h r) → all_to f n ≡ all_to h n
unfolding all_to
all_same f h zero e = refl
all_same f h (suc n) e = go (all_to f n) refl (all_same f h n (λ r l. e r (omega arith)))
  where
    go : (b : Bool) → all_to f n ≡ b → all_to f n ≡ all_to h n → (all_to f n && f n) ≡ (all_to h n && h n)
    go true p q = rw (← q, p, e n (lt-suc_self n) p)
    go false p q = rw (← q, p)

-- ---- refusals
pub zero_when : (n : ℕ) → eqb n 0 ≡ true → n ≡ 0
zero_when n e = eqb→eq n 0 (rw e tt)

pub fault_same : (f h : ℕ → ℕ) (n : ℕ) → ((r : ℕ) → r < n → first_to f r ≡ 0 → f r ≡ h r) → first_to f n ≡ first_to h n
unfolding first_to
fault_same f h zero e = refl
fault_same f h (suc n) e =
    rw (← fault_same f h n (λ r l. e r (omega arith)))
    (past_checks (first_to f n) (λ m last. m then last) (λ m. refl) (λ clear. e n (lt-suc_self n) clear))

pub done_same : (f h : ℕ → ℕ) (n : ℕ) → ((r : ℕ) → r < n → first_to f r ≡ 0 → f r ≡ h r) → done_to f n ≡ done_to h n
unfolding done_to
done_same f h zero e = refl
done_same f h (suc n) e = rw (fault_same f h (suc n) e, done_same f h n (λ r l. e r (omega arith)))

-- no refusal stands before what is done
pub done_clear : (f : ℕ → ℕ) (n : ℕ) → first_to f (done_to f n) ≡ 0
unfolding done_to first_to
done_clear f zero = refl
done_clear f (suc n) = go (eqb (first_to f (suc n)) 0) refl (done_clear f n)
  where
    go : (b : Bool) → eqb (first_to f (suc n)) 0 ≡ b → first_to f (done_to f n) ≡ 0 → first_to f (cond b (suc n) (done_to f n)) ≡ 0
    go true p q = zero_when (first_to f (suc n)) p
    go false p q = q

pub done_most : (f : ℕ → ℕ) (n : ℕ) → done_to f n ≤ n
unfolding done_to
done_most f zero = le_refl 0
done_most f (suc n) = go (eqb (first_to f (suc n)) 0) (done_most f n)
  where
    go : (b : Bool) → done_to f n ≤ n → cond b (suc n) (done_to f n) ≤ suc n
    go true h = le_refl (suc n)
    go false h = omega arith

pub done_before : (f : ℕ → ℕ) (n r : ℕ) → r < done_to f n → first_to f (suc r) ≡ 0
done_before f n r h = first_before f (suc r) (done_to f n) h (done_clear f n)
