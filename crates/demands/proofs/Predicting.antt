-- A row and a prediction of two models that differ in silent coefficients. Assumes nothing.
use Prim.Native.Nat.{ℕ, suc, ◌<◌}
use native.Mathlib.Nat.{lt-suc_self}
use native.Mathlib.Omega.{arith}
use mathlib.Core.Path.{◌≡◌, refl}
use mathlib.Core.List.{List, []}
use lib.Ieee.{Float}
use Rattle.floats.specs.Sums.{flat_to}
use Rattle.refusals.specs.Refusals.{first_to, past}
use Rattle.refusals.proofs.Firsts.{first_clear, first_before}
use Rattle.layers.specs.Net.{Net}
use Rattle.layers.specs.Widths.{input_width}
use Rattle.batches.specs.Batch.{row_at}
use Rattle.passes.specs.Pass.{rows_of, row_refusal, outputs_of, refusal_at, outputs_at, rows_refusal, rows_done}
use Rattle.gradients.proofs.Adding.{flat_ext}
use Rattle.forward.specs.Forward.{pass_refusal}
use Rattle.prediction.specs.Predict.{outputs_over}
use Rattle.demands.specs.Silent.{Places}
use Rattle.demands.specs.Readings.{RowReads, PredictReads}
use Rattle.demands.proofs.Tests.{past_checks, fault_same, done_same, done_before, done_most}
use Rattle.demands.proofs.Places.{Siblings}
use Rattle.demands.proofs.Passes.{refusal_same, taken_outputs_same}

module _ {N : Net} {ws : List ℕ} {D : Places} {ps qs : List Float} (two : Siblings N ws D ps qs) where
  -- ---- a single row
  module _ (xs : List Float) (reads : RowReads N ws D ps xs) where
    pub pass_same : pass_refusal N ps ws xs ≡ pass_refusal N qs ws xs
    unfolding pass_refusal
    pass_same = rw (two.differ.finite.0, two.differ.finite.1) (refusal_same two xs reads)

    pub pass_outputs_same : past (pass_refusal N ps ws xs) (outputs_of N ps ws xs) []
        ≡ past (pass_refusal N qs ws xs) (outputs_of N qs ws xs) []
    unfolding pass_refusal
    pass_outputs_same =
        rw (two.differ.finite.0, two.differ.finite.1, ← refusal_same two xs reads)
        (past_checks (row_refusal N ps ws xs) (λ n os. past n os []) (λ m. refl) (taken_outputs_same two xs reads))

  -- ---- a batch
  module _ (xs : List Float) (reads : PredictReads N ws D ps xs) where
    row_same : (r : ℕ) → r < rows_of ws xs → first_to (refusal_at N ps ws xs) r ≡ 0
        → refusal_at N ps ws xs r ≡ refusal_at N qs ws xs r
    row_same r h clear = refusal_same two (row_at xs (input_width ws) r) (reads r h clear)

    pub rows_refusal_same : rows_refusal N ps ws xs ≡ rows_refusal N qs ws xs
    rows_refusal_same = fault_same _ _ (rows_of ws xs) row_same

    pub rows_done_same : rows_done N ps ws xs ≡ rows_done N qs ws xs
    rows_done_same = done_same _ _ (rows_of ws xs) row_same

    outputs_same : flat_to (outputs_at N ps ws xs) (rows_done N ps ws xs) ≡ flat_to (outputs_at N qs ws xs) (rows_done N ps ws xs)
    outputs_same =
        flat_ext (outputs_at N ps ws xs) (outputs_at N qs ws xs) _ (λ r h.
        let clear = done_before (refusal_at N ps ws xs) (rows_of ws xs) r h in
        let most = done_most (refusal_at N ps ws xs) (rows_of ws xs) in
        taken_outputs_same two (row_at xs (input_width ws) r)
        (reads r (omega arith) (first_before (refusal_at N ps ws xs) r (suc r) (omega arith) clear))
        (first_clear (refusal_at N ps ws xs) (suc r) clear r (lt-suc_self r)))

    pub outputs_over_same : (ys : List Float) → outputs_over N ps ws xs ys ≡ outputs_over N qs ws xs ys
    unfolding outputs_over
    outputs_over_same ys = rw (outputs_same, rows_done_same)
