-- R17.1: every number that edges read before a call ends (demand 3), call by call: which rows go through the layers, on
-- which model. A row that comes after a refusal is not read. Definitions only.
use Rattle.std.specs.Prelude.{ℕ, ◌<◌, ◌≡◌, true, List, Float}
use Rattle.floats.specs.Sums.{all_to}
use Rattle.refusals.specs.Refusals.{first_to}
use Rattle.layers.specs.Net.{Net}
use Rattle.layers.specs.Widths.{input_width}
use Rattle.batches.specs.Batch.{row_at, row_fault}
use Rattle.passes.specs.Pass.{rows_of, refusal_at, finite_row}
use Rattle.loss.specs.Loss.{loss_row_fault}
use Rattle.training.specs.Train.{model_after, fault_at}
use Rattle.demands.specs.Silent.{Places, RowSilent}

-- ---- R17.1: the coefficients of the set are silent at all that a row reads, if it is read
module _ (N : Net) (ws : List ℕ) (D : Places) (ps : List Float) where
  -- R5.6: one row, unless 14 or 15 refuse it
  abbrev pub RowReads : List Float → Type 0
  RowReads xs = row_fault (input_width ws) 14 15 xs ≡ 0 → RowSilent N ws D ps xs

  -- R5.5: row r of a prediction, unless a row before it is refused
  abbrev pub PredictReads : List Float → Type 0
  PredictReads xs =
      (r : ℕ) → r < rows_of ws xs → first_to (refusal_at N ps ws xs) r ≡ 0 → RowReads (row_at xs (input_width ws) r)

  -- R9.3: row r of a loss, unless 20, 21 or 22 stops a row before it
  abbrev pub LossReads : List Float → List Float → Type 0
  LossReads xs ts =
      (r : ℕ) → r < rows_of ws xs → first_to (loss_row_fault N ps ws xs ts) r ≡ 0
      → RowSilent N ws D ps (row_at xs (input_width ws) r)

  -- R10.8: row r of a training step, unless 20 stops a row before it
  abbrev pub StepReads : List Float → Type 0
  StepReads xs =
      (r : ℕ) → r < rows_of ws xs → all_to (finite_row N ps ws xs) r ≡ true
      → RowSilent N ws D ps (row_at xs (input_width ws) r)

-- R10.9: every step, on the model before it, unless 20 or 23 refuses a step before it
abbrev pub TrainReads : Net → List ℕ → Places → List Float → List Float → List Float → Float → ℕ → Type 0
TrainReads N ws D ps xs ts rate steps =
    (s : ℕ) → s < steps → first_to (fault_at N ps ws xs ts rate) s ≡ 0 → StepReads N ws D (model_after N ps ws xs ts rate s) xs
