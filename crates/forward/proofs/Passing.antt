-- A single forward pass from its parts. Assumes nothing.
use Rattle.std.specs.Prelude.{Ok, Err}
use mathlib.Core.Path.{◌≡◌, refl, sym, ap, subst, ◌∙◌}
use mathlib.Core.Bool.{Bool, true, false, cond}
use mathlib.Core.List.{List, [], ◌∷◌, ◌++◌}
use Prim.Native.Nat.{ℕ, zero, suc, ◌-◌, ◌%◌, ◌≤◌, ◌<◌}
use native.Mathlib.Omega.{arith}
use lib.Dec.{eqb}
use lib.ListN.{length, take, drop, length-append, length-drop}
use lib.Seq.{length-take-le}
use lib.Ieee.{Float}
use Rattle.floats.specs.Sums.{all_finite, zeros}
use Rattle.floats.proofs.Loops.{rest, tab_length}
use Rattle.refusals.specs.declared.Refusal.{Refusal}
use Rattle.refusals.specs.Refusals.{◌otherwise◌, ◌then◌, past, Outcome, outcome_of, refusal_of}
use Rattle.refusals.proofs.Firsts.{test_passes, not_refused, refused}
use Rattle.spline.specs.declared.Grid.{Grid}
use Rattle.layers.specs.Net.{Net}
use Rattle.layers.specs.Widths.{output_width, widest_in}
use Rattle.passes.specs.Pass.{outputs_of}
use Rattle.passes.specs.Turns.{holder, Ran}
use Rattle.passes.proofs.Passes.{outputs_length}
use Rattle.admission.specs.Admission.{up_to9}
use Rattle.admission.proofs.Passed.{Past9, past9}
use Rattle.forward.specs.Forward.{pass_refusal, in_first, fronted, forward_refusal, forward_part, forward_first, forward_second}
use Rattle.forward.specs.Steps.{Passed, swept_from, Swept, Forwarded}

-- ---- 11 and the row
pub found_finite : (ps : List Float) (t : Bool) {r : Outcome} → t ≡ all_finite ps → r ≡ outcome_of (t otherwise 11) 0
    → r ≡ Ok tt → all_finite ps ≡ true
found_finite ps t q p e = sym q ∙ test_passes _ 10 (not_refused _ 0 (sym p ∙ e))

pub ran_passed : (N : Net) (ps : List Float) (ws : List ℕ) (xs a b a' b' : List Float) (r : Outcome) → all_finite ps ≡ true
    → Ran N ps ws xs a b a' b' r → Passed N ps ws xs a b a' b' r
unfolding pass_refusal
ran_passed N ps ws xs a b a' b' r e t = record {
  refusal = rw e t.refusal;
  outputs = t.outputs;
  first = t.first;
  second = t.second;
}

pub wild_passed : (N : Net) (ps : List Float) (ws : List ℕ) (xs a b : List Float) (t : Bool) (e : Refusal)
    → t ≡ all_finite ps → Err e ≡ outcome_of (t otherwise 11) 0 → Passed N ps ws xs a b a b (Err e)
unfolding pass_refusal
wild_passed N ps ws xs a b true e q p = cc
wild_passed N ps ws xs a b false e q p = record {
  refusal = rw (← q) p;
  outputs = λ z. cc;
  first = λ m h. refl;
  second = λ m h. refl;
}

-- ---- the sweep of one slice
-- what a swept slice holds, seen from before the pass
held_front : (ws : List ℕ) (n widest : ℕ) (s s₁ os : List Float) → take n s₁ ≡ os → length os ≡ n → drop widest s₁ ≡ drop widest s
    → swept_from n widest s₁ ≡ fronted os widest s
unfolding fronted
held_front ws n widest s s₁ os p q r = rw (p, r, q)

-- a sweep of as many numbers
pub as_wide : {layers n v w : ℕ} {a b a' b' : List Float} → v ≡ w → Swept layers n w a b a' b' → Swept layers n v a b a' b'
as_wide {layers} {n} {v} {w} {a} {b} {a'} {b'} e t = subst (λ (m : ℕ). Swept layers n m a b a' b') (sym e) t

-- ---- what is handed back
take_front : (os : List Float) (rest : List Float) → take (length os) (os ++ rest) ≡ os
take_front [] rest = refl
take_front (o ∷ os) rest = ap (λ (l : List Float). o ∷ l) (take_front os rest)

-- the front of the slice that the parity picks, of as many numbers as there are outputs, is the outputs
held_part : (checks n : ℕ) (here : Bool) (widest : ℕ) (os a b : List Float)
    → take (length (past (checks then n) os [])) (cond here (past checks (fronted (cond here (past (checks then n) os []) []) widest a) a)
    (past checks (fronted (cond here [] (past (checks then n) os [])) widest b) b)) ≡ past (checks then n) os []
unfolding fronted
held_part (suc c) n here widest os a b = refl
held_part zero n true widest os a b = take_front (past n os []) _
held_part zero n false widest os a b = take_front (past n os []) _

-- ---- the whole pass
number_of : (n : ℕ) (r : Outcome) → r ≡ outcome_of n 0 → (refusal_of r).number ≡ n
number_of zero r e = rw e
number_of (suc n) r e = rw e

module _ (N : Net) (ws : List ℕ) (g : Grid) (ps xs a b : List Float) where
  abbrev checks : ℕ
  checks = up_to9 ws g (length ps) (length a) (length b)

  -- refused before the work
  pub not_begun : (n : ℕ) → checks ≡ n → (n ≡ 0 → ⊥) → Forwarded N ws g ps xs a b n 0 a b
  unfolding forward_refusal forward_part forward_first forward_second
  not_begun zero e z = absurd (z refl)
  not_begun (suc n) e z = record {
    number = rw e;
    count = rw e;
    first = rw e;
    second = rw e;
    within_first = omega arith;
    within_second = omega arith;
  }

  swept_length : (front widest : ℕ) (s : List Float) → front ≤ widest → widest ≤ length s → length (swept_from front widest s) ≡ length s
  swept_length front widest s h k =
      let z : length (zeros (widest - front)) ≡ widest - front = tab_length _ (widest - front) in
      let t : length (take front s) ≡ front = length-take-le front s (omega arith) in
      rw (length-append, length-append, length-drop) (omega arith)

  module _ (r : Outcome) (a₁ b₁ a₂ b₂ : List Float) (ok : checks ≡ 0) (la : length a₁ ≡ length a) (lb : length b₁ ≡ length b)
      (done : Passed N ps ws xs a b a₁ b₁ r) where
    known : Past9 ws g (length ps) (length a) (length b)
    known = past9 ws g (length ps) (length a) (length b) ok

    -- os outputs of n numbers, n of them standing where the parity says
    finish : (n : ℕ) (os : List Float) → n ≤ widest_in ws → past (pass_refusal N ps ws xs) (outputs_of N ps ws xs) [] ≡ os → length os ≡ n
        → take n (holder (length ws - 1) a₁ b₁) ≡ os → Swept (length ws - 1) n (widest_in ws) a₁ b₁ a₂ b₂
        → Forwarded N ws g ps xs a b (refusal_of r).number n a₂ b₂
    unfolding in_first forward_refusal forward_part forward_first forward_second
    finish n os h o l f t = go (eqb ((length ws - 1) % 2) 0) refl
      where
        w : ℕ
        w = widest_in ws

        pa : drop w a₁ ≡ drop w a
        pa = done.first w known.size.within

        pb : drop w b₁ ≡ drop w b
        pb = done.second w known.size.within

        wa : w ≤ length a₁
        wa = omega (arith, known.first)

        wb : w ≤ length b₁
        wb = omega (arith, known.second)

        go : (e : Bool) → eqb ((length ws - 1) % 2) 0 ≡ e → Forwarded N ws g ps xs a b (refusal_of r).number n a₂ b₂
        go true e =
            let ta : a₂ ≡ swept_from 0 w a₁ = rw e at t.first in
            let tb : b₂ ≡ swept_from n w b₁ = rw e at t.second in
            let at : take n b₁ ≡ os = rw e at f in
            record {
              number = rw ok (number_of _ r done.refusal);
              count = rw (ok, o) (sym l);
              first = rw (ok, e) (ta ∙ held_front ws 0 w a a₁ [] refl refl pa);
              second = rw (ok, e, o) (tb ∙ held_front ws n w b b₁ os at l pb);
              within_first = omega (arith, ap length ta, wa, h, swept_length 0 w a₁ (omega arith) wa);
              within_second = omega (arith, ap length tb, wb, h, swept_length n w b₁ h wb);
            }
        go false e =
            let ta : a₂ ≡ swept_from n w a₁ = rw e at t.first in
            let tb : b₂ ≡ swept_from 0 w b₁ = rw e at t.second in
            let at : take n a₁ ≡ os = rw e at f in
            record {
              number = rw ok (number_of _ r done.refusal);
              count = rw (ok, o) (sym l);
              first = rw (ok, e, o) (ta ∙ held_front ws n w a a₁ os at l pa);
              second = rw (ok, e) (tb ∙ held_front ws 0 w b b₁ [] refl refl pb);
              within_first = omega (arith, ap length ta, wa, h, swept_length n w a₁ h wa);
              within_second = omega (arith, ap length tb, wb, h, swept_length 0 w b₁ (omega arith) wb);
            }

    -- a number that refuses leaves no outputs, and 0 leaves them
    given : (n : ℕ) (os : List Float) → n ≡ 0 → past n os [] ≡ os
    given zero os e = refl
    given (suc n) os e = absurd (omega arith)

    none : (n : ℕ) (os : List Float) → (n ≡ 0 → ⊥) → past n os [] ≡ []
    none zero os e = absurd (e refl)
    none (suc n) os e = refl

    pub passed_through : (n : ℕ) → n ≡ output_width ws → r ≡ Ok tt → Swept (length ws - 1) n (widest_in ws) a₁ b₁ a₂ b₂
        → Forwarded N ws g ps xs a b 0 n a₂ b₂
    passed_through n e z t =
        let os = outputs_of N ps ws xs in
        rw z at (finish n os (rw e (known.size.within (length ws - 1) (last (length ws) known.size.some)))
        (given (pass_refusal N ps ws xs) os (not_refused _ 0 (sym done.refusal ∙ z)))
        (outputs_length N ps ws xs known.size.some ∙ sym e) (rw e (done.outputs z)) t)
      where
        last : (n : ℕ) → 2 ≤ n → n - 1 < n
        last n h = omega arith

    pub held_back : (e : Refusal) → r ≡ Err e → Swept (length ws - 1) 0 (widest_in ws) a₁ b₁ a₂ b₂
        → Forwarded N ws g ps xs a b e.number 0 a₂ b₂
    held_back e z t =
        rw z at (finish 0 [] (omega arith) (none (pass_refusal N ps ws xs) (outputs_of N ps ws xs)
        (refused _ 0 e (sym done.refusal ∙ z))) refl refl t)

-- ---- the part that `pick` hands back
pub part_is : (N : Net) (ws : List ℕ) (g : Grid) (ps xs a b : List Float) (k n : ℕ) (a' b' : List Float)
    → Forwarded N ws g ps xs a b k n a' b' → take n (cond (in_first ws) a' b') ≡ forward_part N ws g ps xs a b
unfolding forward_part forward_first forward_second
part_is N ws g ps xs a b k n a' b' f =
    rw (f.count, f.first, f.second)
    (held_part (up_to9 ws g (length ps) (length a) (length b)) (pass_refusal N ps ws xs) (in_first ws) (widest_in ws) (outputs_of N ps ws xs) a b)
