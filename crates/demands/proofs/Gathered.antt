-- A batch's gradients on two models that differ in silent coefficients, added to one slice: the same, and at those coefficients still +0.0
-- or a NaN where they were that before. Assumes nothing.
use Prim.Native.Nat.{ℕ, zero, suc, ◌<◌}
use native.Mathlib.Omega.{arith}
use mathlib.Core.Path.{◌≡◌, refl, sym, ap, subst}
use mathlib.Core.Logic.{◌⊎◌, inl, inr}
use mathlib.Core.Bool.{true}
use mathlib.Core.List.{List}
use lib.ListN.{length}
use lib.Ieee.{Float, nan, add}
use Rattle.floats.specs.Binary32.{◌⊕◌, zero32}
use Rattle.floats.specs.Sums.{at, sum_from, all_to}
use Rattle.floats.proofs.Sums.{sum_ext, Dead, sum_dead}
use Rattle.floats.proofs.Loops.{tab_ext, all_each}
use Rattle.layers.specs.Net.{Net}
use Rattle.layers.specs.Widths.{input_width}
use Rattle.batches.specs.Batch.{row_at}
use Rattle.passes.specs.Pass.{rows_of, finite_row}
use Rattle.batch_gradients.specs.Calls.{Full}
use Rattle.batch_gradients.specs.Accumulate.{cell_of, gathered}
use Rattle.demands.specs.Silent.{Places, RowSilent}
use Rattle.demands.specs.Readings.{StepReads}
use Rattle.demands.proofs.Tests.{all_same}
use Rattle.demands.proofs.Places.{Siblings}
use Rattle.demands.proofs.Passes.{all_before, finite_same}
use Rattle.demands.proofs.Cells.{table_at}
use Rattle.demands.proofs.Rows.{gradient_same, gradient_hushed}

-- ---- a gradient that moves nothing: +0.0, or a NaN, at which 23 refuses the update
abbrev pub Still : Float → Type 0
Still x = (x ≡ zero32) ⊎ (x ≡ nan)

-- once a NaN, always
sum_nan : (t : ℕ → Float) (n : ℕ) → sum_from nan t n ≡ nan
unfolding sum_from add
sum_nan t zero = refl
sum_nan t (suc n) = ap (λ (x : Float). x ⊕ t n) (sum_nan t n)

sum_still : (a : Float) (t : ℕ → Float) (n : ℕ) → Still a → ((k : ℕ) → k < n → Dead (t k)) → Still (sum_from a t n)
sum_still a t n (inl e) dead = rw e (sum_dead t n dead)
sum_still a t n (inr e) dead = inr (rw e (sum_nan t n))

module _ {N : Net} {ws : List ℕ} {D : Places} {ps qs : List Float} (two : Siblings N ws D ps qs) (xs ts : List Float)
    (full : Full (input_width ws) xs (rows_of ws xs)) (reads : StepReads N ws D ps xs) where
  -- ---- 20
  pub passes_same : all_to (finite_row N ps ws xs) (rows_of ws xs) ≡ all_to (finite_row N qs ws xs) (rows_of ws xs)
  passes_same =
      all_same (finite_row N ps ws xs) (finite_row N qs ws xs) (rows_of ws xs) (λ r h before.
      finite_same two (row_at xs (input_width ws) r) (full r h) (reads r h before))

  -- ---- the gradients, where every row passes
  module _ (passed : all_to (finite_row N ps ws xs) (rows_of ws xs) ≡ true) (v : ℕ) (scale : Float) (gs : List Float) where
    row_silent : (r : ℕ) → r < rows_of ws xs → RowSilent N ws D ps (row_at xs (input_width ws) r)
    row_silent r h = reads r h (all_before (finite_row N ps ws xs) r (rows_of ws xs) (omega arith) passed)

    row_passed : (r : ℕ) → r < rows_of ws xs → finite_row N ps ws xs r ≡ true
    row_passed r h = all_each (finite_row N ps ws xs) (rows_of ws xs) passed r h

    pub gathered_same : gathered N ps ws xs ts v scale gs (rows_of ws xs) ≡ gathered N qs ws xs ts v scale gs (rows_of ws xs)
    unfolding gathered
    gathered_same =
        tab_ext _ _ (length gs) (λ p h.
        sum_ext (at gs p) _ _ (rows_of ws xs) (λ r l.
        ap (λ (ds : List Float). at ds p) (gradient_same two (row_at xs (input_width ws) r) (full r l)
        (row_silent r l) (row_passed r l) (row_at ts v r) scale)))

    pub gathered_still : (p : ℕ) → D p ≡ true → p < length gs → Still (at gs p)
        → Still (at (gathered N ps ws xs ts v scale gs (rows_of ws xs)) p)
    unfolding gathered
    gathered_still p d inside still =
        subst Still (sym (table_at _ (length gs) p inside))
        (sum_still (at gs p) (cell_of N ps ws xs ts v scale p) (rows_of ws xs) still (λ r l.
        gradient_hushed two (row_at xs (input_width ws) r) (full r l) (row_silent r l) (row_passed r l) (row_at ts v r) scale p d))
