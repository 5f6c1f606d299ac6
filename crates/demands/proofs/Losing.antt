-- The loss of two models that differ in silent coefficients. Assumes nothing.
use Prim.Native.Nat.{ℕ, zero, suc, ◌*◌, ◌≤◌, ◌<◌}
use native.Mathlib.Nat.{le_refl, lt-suc_self}
use native.Mathlib.Omega.{arith}
use mathlib.Core.Path.{◌≡◌, refl, ap}
use mathlib.Core.Bool.{true, not}
use mathlib.Core.List.{List}
use lib.Dec.{eqb, leb}
use lib.ListN.{length}
use lib.Ieee.{Float}
use lib.Ieee.Scale.{finite}
use Rattle.floats.specs.Binary32.{◌⊘◌, whole32}
use Rattle.floats.specs.Sums.{at, sum_from}
use Rattle.refusals.specs.Refusals.{◌otherwise◌, ◌then◌, first_to}
use Rattle.refusals.proofs.Firsts.{both_pass, test_passes, first_before, first_clear}
use Rattle.layers.specs.Net.{Net}
use Rattle.layers.specs.Widths.{input_width, output_width}
use Rattle.batches.specs.Batch.{rows_in, row_at, rows_fault, batch_fault}
use Rattle.batches.proofs.Rows.{wide_row}
use Rattle.passes.specs.Pass.{nodes_finite, rows_of, outputs_at}
use Rattle.batch_gradients.specs.Calls.{Full}
use Rattle.loss.specs.Loss.{squared, sum_after, loss_row_fault, rows_loss_fault, mean_error, loss_of}
use Rattle.demands.specs.Silent.{Places}
use Rattle.demands.specs.Readings.{LossReads}
use Rattle.demands.proofs.Tests.{past_test, fault_same}
use Rattle.demands.proofs.Places.{Siblings}
use Rattle.demands.proofs.Passes.{finite_same, outputs_same}

-- ---- a batch with no fault has full rows
pub full_rows : (w v : ℕ) (xs ts : List Float) → batch_fault w v xs ts ≡ 0 → Full w xs (rows_in (length xs) w)
unfolding batch_fault rows_fault
full_rows w v xs ts e r h =
    let n = rows_in (length xs) w in
    let after15 : ℕ = rows_fault v 16 17 ts then leb (length ts) 16777216 otherwise 18 in
    let after13 : ℕ = rows_fault w 14 15 xs then after15 in
    let after12 : ℕ = not (eqb n 0) otherwise 13 then after13 in
    let passed12 = (both_pass (eqb n (rows_in (length ts) v) otherwise 12) after12 e).1 in
    let passed13 = (both_pass (not (eqb n 0) otherwise 13) after13 passed12).1 in
    let inputs = (both_pass (rows_fault w 14 15 xs) after15 passed13).0 in
    wide_row w 13 15 (row_at xs w r) (first_clear _ n inputs r h)

module _ {N : Net} {ws : List ℕ} {D : Places} {ps qs : List Float} (two : Siblings N ws D ps qs) (xs ts : List Float)
    (full : Full (input_width ws) xs (rows_of ws xs)) (reads : LossReads N ws D ps xs ts) where
  -- a row's outputs, where its nodes are finite and no row before it is refused
  row_outputs : (r : ℕ) → r < rows_of ws xs → first_to (loss_row_fault N ps ws xs ts) r ≡ 0
      → nodes_finite N ps ws (row_at xs (input_width ws) r) ≡ true → outputs_at N ps ws xs r ≡ outputs_at N qs ws xs r
  row_outputs r h clear passed = outputs_same two (row_at xs (input_width ws) r) (full r h) (reads r h clear) passed

  -- the sum before row r
  sums_same : (r : ℕ) → r ≤ rows_of ws xs → first_to (loss_row_fault N ps ws xs ts) r ≡ 0
      → sum_after N ps ws xs ts r ≡ sum_after N qs ws xs ts r
  unfolding sum_after
  sums_same zero h clear = refl
  sums_same (suc r) h clear =
      let before = first_before (loss_row_fault N ps ws xs ts) r (suc r) (omega arith) clear in
      let taken = first_clear (loss_row_fault N ps ws xs ts) (suc r) clear r (lt-suc_self r) in
      let row = row_at xs (input_width ws) r in
      let passed = test_passes (nodes_finite N ps ws row) 19 (both_pass (nodes_finite N ps ws row otherwise 20) _ taken).0 in
      let sums = sums_same r (omega arith) before in
      let outputs = row_outputs r (omega arith) before passed in
      λ i. sum_from (sums i) (λ k. squared (at (outputs i) k) (at (row_at ts (output_width ws) r) k)) (output_width ws)

  row_fault_same : (r : ℕ) → r < rows_of ws xs → first_to (loss_row_fault N ps ws xs ts) r ≡ 0
      → loss_row_fault N ps ws xs ts r ≡ loss_row_fault N qs ws xs ts r
  row_fault_same r h clear =
      let row = row_at xs (input_width ws) r in
      let target : ℕ → Float = λ k. at (row_at ts (output_width ws) r) k in
      let sums = sums_same r (omega arith) clear in
      rw (← finite_same two row (full r h) (reads r h clear))
      (past_test (nodes_finite N ps ws row) (λ b errors. b otherwise 20 then errors) refl (λ passed.
      let outputs = row_outputs r h clear passed in
      λ i. first_to (λ k. finite (squared (at (outputs i) k) (target k)) otherwise 21
      then finite (sum_from (sums i) (λ j. squared (at (outputs i) j) (target j)) (suc k)) otherwise 22) (output_width ws)))

  pub rows_loss_same : rows_loss_fault N ps ws xs ts ≡ rows_loss_fault N qs ws xs ts
  rows_loss_same = fault_same _ _ (rows_of ws xs) row_fault_same

  pub mean_same : rows_loss_fault N ps ws xs ts ≡ 0 → mean_error N ps ws xs ts ≡ mean_error N qs ws xs ts
  mean_same clear = ap (λ (s : Float). s ⊘ whole32 (rows_of ws xs * output_width ws)) (sums_same (rows_of ws xs) (le_refl (rows_of ws xs)) clear)

-- the answer shows the mean only where nothing is refused
pub loss_answers : (checks c n m : ℕ) (x y : Float) → (checks ≡ 0 → n ≡ m) → (checks ≡ 0 → n ≡ 0 → x ≡ y)
    → loss_of (checks then n) c x ≡ loss_of (checks then m) c y
loss_answers (suc k) c n m x y e h = refl
loss_answers zero c zero m x y e h = rw (← e refl) (ap (loss_of 0 c) (h refl refl))
loss_answers zero c (suc n) m x y e h = rw (← e refl)
