-- `accumulate` by its stages: refused by 9 and before, by 10, 11, the batch or its total, and every row added, or none by
-- 20. Assumes nothing.
use Rattle.std.specs.Prelude.{Err, Ok}
use mathlib.Core.Path.{◌≡◌, refl, sym, ap, ◌∙◌}
use mathlib.Core.Bool.{Bool, true, false, false≢true, not}
use mathlib.Core.List.{List, ◌++◌}
use Prim.Native.Nat.{ℕ, zero, suc, ◌*◌, ◌≤◌, ◌<◌}
use native.Mathlib.Omega.{arith}
use lib.Dec.{eqb}
use lib.ListN.{length, drop}
use lib.Ieee.{Float}
use borrow.Author.Tests.{leb-true}
use Rattle.floats.specs.Sums.{zeros, all_to}
use Rattle.floats.proofs.Loops.{all_each, all_of}
use Rattle.refusals.specs.declared.Refusal.{Refusal}
use Rattle.refusals.specs.Refusals.{◌otherwise◌, ◌then◌, past, Outcome, outcome_of}
use Rattle.refusals.proofs.Firsts.{both_pass, test_passes, past_stopped, not_refused}
use Rattle.spline.specs.declared.Grid.{Grid}
use Rattle.layers.specs.Net.{Net}
use Rattle.layers.specs.Widths.{input_width, nodes_in}
use Rattle.batches.specs.Batch.{batch_fault}
use Rattle.batches.specs.Sound.{SoundBatch}
use Rattle.batches.proofs.Rows.{row_begins, batch_sound}
use Rattle.passes.specs.Pass.{rows_of, finite_row}
use Rattle.passes.proofs.Past9.{walkable}
use Rattle.config.specs.Config.{sizes_of, parameters_for}
use Rattle.config.proofs.Answers.{Rejected}
use Rattle.admission.specs.Admission.{up_to9_for_nodes}
use Rattle.admission.proofs.Passed.{past9_for_nodes, swept_past}
use Rattle.row_gradients.specs.Calls.{WorkFits}
use Rattle.row_gradients.proofs.Tests.{test_fails, never_ok}
use Rattle.batch_gradients.specs.Accumulate.{scale_of}
use Rattle.batch_gradients.specs.Calls.{RowsTaken}
use Rattle.split_training.specs.Accumulating.{total_fault, from11_to28, up_to28, accumulate_fault, Accumulated}
use Rattle.split_training.specs.Stages.{rows_fault, FurtherPassed, all_added, AddDone, AccumulateDone}
use Rattle.split_training.proofs.Answers.{then_joins, stays, untouched}

-- where one fails and those behind the first pass, it is the first
first_fails : (p : ℕ → Bool) (n : ℕ) → ((k : ℕ) → 0 < k → k < n → p k ≡ true) → all_to p n ≡ false → p 0 ≡ false
first_fails p n behind fails = by (p 0) refl
  where
    each : p 0 ≡ true → (k : ℕ) → k < n → p k ≡ true
    each first zero h = first
    each first (suc k) h = behind (suc k) (omega arith) h

    by : (b : Bool) → p 0 ≡ b → p 0 ≡ false
    by true e = absurd (false≢true (sym fails ∙ all_of p n (each e)))
    by false e = e

-- ---- the rows behind the first
pub further : {N : Net} {ws : List ℕ} {ps xs ts : List Float} {scale : Float} {gs W gs' W' : List Float} {r : Outcome}
    → RowsTaken N ps ws xs ts scale false gs W gs' W' r → FurtherPassed N ws ps xs gs W r gs' W'
further y = record {
  passed = λ e k more less. all_each _ _ (test_passes _ 19 (not_refused _ 0 (sym y.answer ∙ e))) k less;
  refused = λ e z. y.answer;
  kept = y.untold refl;
  rest = y.rest;
}

-- ---- and then all of them
module _ {N : Net} {ws : List ℕ} {ps xs ts : List Float} {total : ℕ} {gs W gs₁ W₁ : List Float} where
  pub none_added : {e : Refusal} → FurtherPassed N ws ps xs gs W (Err e) gs₁ W₁
      → AddDone N ws ps xs ts total gs W (Err e) gs₁ W₁
  none_added {e} tested =
      let answer = tested.refused e refl in
      let wrong = test_fails _ 20 0 e (sym answer) in
      record { answer = answer; gradients = rw wrong tested.kept; rest = tested.rest }

  -- where those passed and not all do, it is the first that fails, before anything was added
  pub added_or_none : FurtherPassed N ws ps xs gs W (Ok tt) gs₁ W₁ → (scale : Float) → scale ≡ scale_of total
      → {gs' W₂ : List Float} {r : Outcome} → RowsTaken N ps ws xs ts scale true gs₁ W₁ gs' W₂ r
      → AddDone N ws ps xs ts total gs W r gs' W₂
  added_or_none tested scale s {gs'} {r = r} y =
      record { answer = y.answer; gradients = by (all_to (finite_row N ps ws xs) (rows_of ws xs)) refl; rest = y.rest ∙ tested.rest }
    where
      by : (c : Bool) → all_to (finite_row N ps ws xs) (rows_of ws xs) ≡ c
          → gs' ≡ past (c otherwise 20) (all_added N ws ps xs ts total gs W) gs
      by true z = rw (s, tested.kept) at (y.added (rw z at y.answer) refl)
      by false z = y.kept (first_fails _ (rows_of ws xs) (tested.passed refl) z) ∙ tested.kept

-- ---- what a batch with no fault, and a total with none, give
pub total_few : (total : ℕ) → total_fault total ≡ 0 → total ≤ 16777216
unfolding total_fault
total_few total e = leb-true total 16777216 (test_passes _ 27 (both_pass (not (eqb total 0) otherwise 28) _ e).1)

pub sound_batch : (w v : ℕ) (xs ts : List Float) (total : ℕ) → 0 < w → 0 < v
    → (batch_fault w v xs ts then total_fault total) ≡ 0 → SoundBatch w v xs ts × (total ≤ 16777216)
sound_batch w v xs ts total some more e =
    let both = both_pass (batch_fault w v xs ts) _ e in
    (batch_sound w v xs ts some more both.0, total_few total both.1)

-- ---- the whole call
-- a sweep of as many numbers
pub swept_by : {n m : ℕ} (s : List Float) {s' : List Float} → n ≡ m → s' ≡ zeros m ++ drop m s → s' ≡ zeros n ++ drop n s
swept_by s e h = rw e h

pub fitting : (ws : List ℕ) (g : Grid) (ps W : List Float) → up_to9_for_nodes ws g (length ps) (length W) ≡ 0
    → WorkFits g ps ws W
fitting ws g ps W e =
    let f = past9_for_nodes ws g (length ps) (length W) e in
    record { walkable = walkable ws g f.size; params = sym f.model; work = f.work }

module _ (N : Net) (ws : List ℕ) (g : Grid) (ps xs ts : List Float) (total : ℕ) (gs W : List Float) where
  abbrev to9 : ℕ
  to9 = up_to9_for_nodes ws g (length ps) (length W)

  abbrev P : ℕ
  P = parameters_for ws g

  -- what comes past check 9, for gradients that must be as many as n
  abbrev behind9 : ℕ → ℕ
  behind9 n = eqb (length gs) n otherwise 10 then from11_to28 ps ws xs ts total then rows_fault N ws ps xs

  in_order : accumulate_fault N ws g ps xs ts total gs W ≡ (to9 then behind9 P)
  unfolding accumulate_fault up_to28
  in_order = then_joins to9 _ _ ∙ ap (λ (n : ℕ). to9 then n) (then_joins (eqb (length gs) P otherwise 10) _ _)

  pub not_begun : {r : Refusal} → Rejected to9 (sizes_of ws g) r → Accumulated N ws g ps xs ts total gs W (Err r) gs W
  not_begun y = record {
    answer = rw in_order (y.outcome ∙ stays to9 _ _ gs gs y.stopped);
    gradients = rw in_order (untouched to9 _ 0 _ gs y.stopped);
    work = sym (past_stopped to9 _ W y.stopped);
  }

  -- the model is P numbers long, and then the rest of the call answers; the work is swept
  pub begun : to9 ≡ 0 → {r : Outcome} {gs' W₁ W₂ : List Float} → AccumulateDone N ws ps xs ts total gs W r gs' W₁
      → W₂ ≡ zeros (2 * nodes_in ws) ++ drop (2 * nodes_in ws) W₁ → Accumulated N ws g ps xs ts total gs W r gs' W₂
  begun passed d sweep =
      let number = ap behind9 (past9_for_nodes ws g (length ps) (length W) passed).model in
      record {
        answer = rw (in_order, passed) (d.answer ∙ ap (λ (n : ℕ). outcome_of n 0) number);
        gradients = rw (in_order, passed) (d.gradients ∙ ap (λ (n : ℕ). past n (all_added N ws ps xs ts total gs W) gs) number);
        work = swept_past _ _ _ _ passed (sweep ∙ ap (λ (l : List Float). zeros (2 * nodes_in ws) ++ l) d.rest);
      }
