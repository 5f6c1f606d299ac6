-- A whole batch and another behind it: the rows of both are the rows of the joined batch, which has no fault if neither has one.
-- Assumes nothing.
use Prim.Native.Nat.{ℕ, zero, suc, ◌+◌, ◌-◌, ◌*◌, ◌≤◌, ◌<◌}
use native.Mathlib.Nat.{add-mul, le_refl, lt-suc_self, mul-mod_left, mul-div_cancel}
use native.Mathlib.Omega.{arith}
use mathlib.Core.Path.{◌≡◌, refl, sym, ap, ◌∙◌, subst}
use mathlib.Core.List.{List, ◌++◌}
use lib.ListN.{length, take, drop, length-append, length-drop}
use lib.Seq.{take-append-le, drop-append-le, drop-append-add}
use lib.Ieee.{Float}
use borrow.Author.Tests.{eq-eqb, ne_eqb, le-leb}
use Rattle.floats.proofs.Loops.{room}
use Rattle.refusals.specs.Refusals.{first_to}
use Rattle.batches.specs.Batch.{rows_in, row_at, row_fault, rows_fault, batch_fault}
use Rattle.batches.specs.Sound.{row_fault_at, SoundBatch}
use Rattle.batches.proofs.Rows.{rows_whole}
use Rattle.demands.proofs.Cells.{by_length}

-- ---- k rows of width w, and more behind them
module _ (w k : ℕ) (xs ys : List Float) (whole : length xs ≡ k * w) where
  pub row_before : (r : ℕ) → r < k → row_at (xs ++ ys) w r ≡ row_at xs w r
  row_before r h =
      let inside : r * w + w ≤ k * w = room r k w (k * w) h (le_refl (k * w)) in
      ap (take w) (drop-append-le (r * w) xs ys (omega arith))
      ∙ take-append-le w (drop (r * w) xs) ys (rw length-drop (omega arith))

  pub row_behind : (r : ℕ) → row_at (xs ++ ys) w (k + r) ≡ row_at ys w r
  row_behind r =
      let place : (k + r) * w ≡ length xs + r * w = add-mul k r w ∙ ap (λ (n : ℕ). n + r * w) (sym whole) in
      ap (take w) (ap (λ (n : ℕ). drop n (xs ++ ys)) place ∙ drop-append-add xs ys (r * w))

  -- so what every row of both has, every row of the joined batch has
  pub each_row : (Has : List Float → Type 0) (j : ℕ) → ((r : ℕ) → r < k → Has (row_at xs w r))
      → ((r : ℕ) → r < j → Has (row_at ys w r)) → (r : ℕ) → r < k + j → Has (row_at (xs ++ ys) w r)
  each_row Has j first second r h =
      by_length r k (λ l. rw (row_before r l) (first r l)) (λ l.
      let behind : k + (r - k) ≡ r = omega arith in
      subst (λ (n : ℕ). Has (row_at (xs ++ ys) w n)) behind (rw (row_behind (r - k)) (second (r - k) (omega arith))))

-- ---- refusals that pass one by one
first_of : (f : ℕ → ℕ) (n : ℕ) → ((r : ℕ) → r < n → f r ≡ 0) → first_to f n ≡ 0
unfolding first_to
first_of f zero each = refl
first_of f (suc n) each = rw (first_of f n (λ r h. each r (omega arith)), each n (lt-suc_self n))

-- ---- a batch of k rows of w inputs and v targets, none of them with a fault
pub record Whole (w v k : ℕ) (xs ts : List Float) : Type 0 where
  pub inputs : length xs ≡ k * w
  pub targets : length ts ≡ k * v
  pub sound_inputs : (r : ℕ) → r < k → row_fault_at w 14 15 xs r ≡ 0
  pub sound_targets : (r : ℕ) → r < k → row_fault_at v 16 17 ts r ≡ 0

pub whole_of : (w v : ℕ) (xs ts : List Float) → SoundBatch w v xs ts → Whole w v (rows_in (length xs) w) xs ts
whole_of w v xs ts b =
    record {
      inputs = b.whole_inputs;
      targets = b.whole_targets ∙ ap (λ (n : ℕ). n * v) (sym b.same_rows);
      sound_inputs = b.inputs;
      sound_targets = λ r h. b.targets r (rw b.same_rows at h);
    }

pub whole_join : {w v k j : ℕ} {xs ts ys us : List Float} → Whole w v k xs ts → Whole w v j ys us
    → Whole w v (k + j) (xs ++ ys) (ts ++ us)
whole_join {w} {v} {k} {j} {xs} {ts} {ys} {us} a b =
    record {
      inputs = rw (length-append, a.inputs, b.inputs, add-mul k j w);
      targets = rw (length-append, a.targets, b.targets, add-mul k j v);
      sound_inputs = each_row w k xs ys a.inputs (λ row. row_fault w 14 15 row ≡ 0) j a.sound_inputs b.sound_inputs;
      sound_targets = each_row v k ts us a.targets (λ row. row_fault v 16 17 row ≡ 0) j a.sound_targets b.sound_targets;
    }

-- how many rows it has
pub rows_counted : (w k n : ℕ) → 0 < w → n ≡ k * w → rows_in n w ≡ k
rows_counted w k n W e =
    rw e (sym (rows_whole (k * w) w (mul-mod_left k w)) ∙ mul-div_cancel k W)

-- 12 to 18 pass
pub whole_passes : (w v k : ℕ) (xs ts : List Float) → 0 < w → 0 < v → 0 < k → length ts ≤ 16777216 → Whole w v k xs ts
    → batch_fault w v xs ts ≡ 0
unfolding batch_fault rows_fault
whole_passes w v k xs ts W U some few b =
    let rows : rows_in (length xs) w ≡ k = rows_counted w k (length xs) W b.inputs in
    let same : rows_in (length ts) v ≡ k = rows_counted v k (length ts) U b.targets in
    let inputs = first_of _ k b.sound_inputs in
    let targets = first_of _ k b.sound_targets in
    rw (rows, same, eq-eqb k k refl, ne_eqb k 0 (λ e. omega arith), inputs, targets, le-leb (length ts) 16777216 few)
