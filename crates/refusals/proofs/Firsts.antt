-- Laws of "the first refusal": of two checks, and of many. Assumes nothing.
use Rattle.std.specs.Prelude.{Ok, Err}
use mathlib.Core.Path.{◌≡◌, refl, sym}
use mathlib.Core.Bool.{Bool, true, false}
use mathlib.Core.Logic.{⊎_elim}
use Prim.Native.Nat.{ℕ, zero, suc, ◌+◌, ◌≤◌, ◌<◌}
use native.Mathlib.Nat.{eq-or-lt_of_le}
use native.Mathlib.Numerals.{add-one}
use native.Mathlib.Omega.{arith}
use borrow.Author.Tests.{ne_eqb}
use Rattle.refusals.specs.declared.Refusal.{Refusal}
use Rattle.refusals.specs.Refusals.{◌otherwise◌, ◌then◌, first_to, done_to, past, outcome_of}

-- ---- one check, and one after the other
pub then_first : (m n : ℕ) → (m ≡ 0 → ⊥) → m ≡ (m then n)
then_first zero n h = absurd (h refl)
then_first (suc m) n h = refl

pub both_pass : (m n : ℕ) → (m then n) ≡ 0 → (m ≡ 0) × (n ≡ 0)
both_pass zero n e = (refl, e)
both_pass (suc m) n e = absurd (omega (arith, e))

-- a check with a number passes only where its test does
pub test_passes : (b : Bool) (n : ℕ) → (b otherwise suc n) ≡ 0 → b ≡ true
test_passes true n e = refl
test_passes false n e = absurd (omega (arith, e))

-- a refusal is at most k where each of its checks' numbers is
pub test_at_most : (k : ℕ) (b : Bool) (n : ℕ) → n ≤ k → (b otherwise n) ≤ k
test_at_most k true n h = omega arith
test_at_most k false n h = h

pub then_at_most : (k m n : ℕ) → m ≤ k → n ≤ k → (m then n) ≤ k
then_at_most k zero n h l = l
then_at_most k (suc m) n h l = h

-- what is written past checks of which one refuses
pub past_stopped : {A : Type 0} (n : ℕ) (new old : A) → (n ≡ 0 → ⊥) → past n new old ≡ old
past_stopped zero new old h = absurd (h refl)
past_stopped (suc n) new old h = refl

-- an answer that is `Ok` has no refusal
pub not_refused : (n c : ℕ) → outcome_of n c ≡ Ok tt → n ≡ 0
not_refused zero c e = refl
not_refused (suc n) c e = let z : ◌≡◌ {A = ℕ} 0 1 = cc in absurd (omega arith)

-- and one that is `Err` has one
pub refused : (n c : ℕ) (r : Refusal) → outcome_of n c ≡ Err r → n ≡ 0 → ⊥
refused zero c r e z = let o : ◌≡◌ {A = ℕ} 0 1 = cc in absurd (omega arith)
refused (suc n) c r e z = absurd (omega (arith, z))

-- ---- the first of many
pub first_none : (f : ℕ → ℕ) → first_to f 0 ≡ 0
unfolding first_to
first_none f = refl

pub first_more : (f : ℕ → ℕ) (n : ℕ) → first_to f n ≡ 0 → f n ≡ 0 → first_to f (n + 1) ≡ 0
unfolding first_to
first_more f n p q = rw (add-one n, p, q)

pub first_before : (f : ℕ → ℕ) (m n : ℕ) → m ≤ n → first_to f n ≡ 0 → first_to f m ≡ 0
unfolding first_to
first_before f m zero h p = let e : m ≡ 0 = omega arith in rw e
first_before f m (suc n) h p =
    ⊎_elim (λ (e : m ≡ suc n). rw e p) (λ l. first_before f m n (omega arith) (both_pass (first_to f n) (f n) p).0) (eq-or-lt_of_le h)

-- it decides, however many follow
pub first_stop : (f : ℕ → ℕ) (r n : ℕ) → r < n → first_to f r ≡ 0 → (f r ≡ 0 → ⊥) → first_to f n ≡ f r
unfolding first_to
first_stop f r zero h p q = absurd (omega arith)
first_stop f r (suc n) h p q =
    ⊎_elim (λ (e : r ≡ n). rw (← e, p)) (λ l. rw (first_stop f r n l p q) (sym (then_first (f r) (f n) q)))
    (eq-or-lt_of_le (omega arith))

-- a call that goes through many and stops at number r answers with its refusal
pub stops_at : (f : ℕ → ℕ) (r n c : ℕ) (e : Refusal) → r < n → first_to f r ≡ 0 → outcome_of (f r) c ≡ Err e
    → Err e ≡ outcome_of (first_to f n) c
stops_at f r n c e h p q = rw (first_stop f r n h p (refused (f r) c e q)) (sym q)

pub first_clear : (f : ℕ → ℕ) (n : ℕ) → first_to f n ≡ 0 → (r : ℕ) → r < n → f r ≡ 0
unfolding first_to
first_clear f zero p r h = absurd (omega arith)
first_clear f (suc n) p r h =
    let b = both_pass (first_to f n) (f n) p in
    ⊎_elim (λ (e : r ≡ n). rw e b.1) (λ l. first_clear f n b.0 r l) (eq-or-lt_of_le (omega arith))

pub first_at_most : (k : ℕ) (f : ℕ → ℕ) (n : ℕ) → ((r : ℕ) → f r ≤ k) → first_to f n ≤ k
unfolding first_to
first_at_most k f zero h = omega arith
first_at_most k f (suc n) h = then_at_most k (first_to f n) (f n) (first_at_most k f n h) (h n)

-- ---- how many pass before it
pub done_all : (f : ℕ → ℕ) (n : ℕ) → first_to f n ≡ 0 → done_to f n ≡ n
unfolding done_to
done_all f zero p = refl
done_all f (suc n) p = rw p

pub done_stop : (f : ℕ → ℕ) (r n : ℕ) → r < n → first_to f r ≡ 0 → (f r ≡ 0 → ⊥) → done_to f n ≡ r
unfolding done_to
done_stop f r zero h p q = absurd (omega arith)
done_stop f r (suc n) h p q =
    rw (first_stop f r (suc n) h p q, ne_eqb (f r) 0 q)
    (⊎_elim (λ (d : r ≡ n). rw (← d) (done_all f r p)) (λ l. done_stop f r n l p q) (eq-or-lt_of_le (omega arith)))
