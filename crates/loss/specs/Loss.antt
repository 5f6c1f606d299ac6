-- R9.1 to R9.3: `mse_loss`, row by row. Definitions only.
use Rattle.std.specs.Prelude.{ℕ, zero, suc, ◌*◌, ◌≡◌, List, length, Float}
use Rattle.std.specs.declared.result.Result.{Result}
use Rattle.std.specs.Float.Ieee.Scale.{finite}
use Rattle.floats.specs.Binary32.{◌⊖◌, ◌⊗◌, ◌⊘◌, zero32, whole32}
use Rattle.floats.specs.Sums.{at, sum_from}
use Rattle.refusals.specs.declared.Refusal.{Refusal}
use Rattle.refusals.specs.Refusals.{◌otherwise◌, ◌then◌, first_to, answer_of}
use Rattle.spline.specs.declared.Grid.{Grid}
use Rattle.layers.specs.Net.{Net}
use Rattle.layers.specs.Widths.{output_width, widest_in}
use Rattle.batches.specs.Batch.{row_at}
use Rattle.passes.specs.Pass.{rows_of, finite_row, outputs_at, from11_to18}
use Rattle.config.specs.Config.{carried_by, parameters_for}
use Rattle.admission.specs.Admission.{up_to9, swept}

-- ---- the errors, row by row
-- R9.1: the difference rounded once and multiplied by itself
abbrev pub squared : Float → Float → Float
squared output target = (output ⊖ target) ⊗ (output ⊖ target)

module _ (N : Net) (ps : List Float) (ws : List ℕ) (xs ts : List Float) where
  -- R9.1: of output i of row r
  abbrev pub error_at : ℕ → ℕ → Float
  error_at r i = squared (at (outputs_at N ps ws xs r) i) (at (row_at ts (output_width ws) r) i)

  -- R9.1: the sum of the first r rows' errors, from +0.0
  unfoldable pub sum_after : ℕ → Float
  sum_after zero = zero32
  sum_after (suc r) = sum_from (sum_after r) (error_at r) (output_width ws)

  -- R9.1: for each output 21, its error, before 22, the sum with it
  abbrev pub output_fault : ℕ → ℕ → ℕ
  output_fault r i =
      finite (error_at r i) otherwise 21 then finite (sum_from (sum_after r) (error_at r) (suc i)) otherwise 22

  -- R9.1, R9.3: row by row: 20, then each output
  abbrev pub loss_row_fault : ℕ → ℕ
  loss_row_fault r = finite_row N ps ws xs r otherwise 20 then first_to (output_fault r) (output_width ws)

  -- R9.3: the first refusal of the rows; R9.2: their mean
  abbrev pub rows_loss_fault : ℕ
  rows_loss_fault = first_to loss_row_fault (rows_of ws xs)

  abbrev pub mean_error : Float
  mean_error = sum_after (rows_of ws xs) ⊘ whole32 (rows_of ws xs * output_width ws)

-- ---- R9.2, R3.2: the answer
abbrev pub loss_of : ℕ → ℕ → Float → Result Float Refusal
loss_of n carried mean = answer_of n carried mean

-- ---- R9.1, R3.4: the whole call
module _ (N : Net) (ws : List ℕ) (g : Grid) (ps xs ts a b : List Float) where
  abbrev to9 : ℕ
  to9 = up_to9 ws g (length ps) (length a) (length b)

  -- R3.4: all checks before the rows
  abbrev pub up_to18 : ℕ
  up_to18 = to9 then from11_to18 ps ws xs ts

  -- R3.2: 7 carries the total, and no refusal past the configuration carries anything
  abbrev pub loss_answer : Result Float Refusal
  loss_answer =
      loss_of (up_to18 then rows_loss_fault N ps ws xs ts) (carried_by to9 (parameters_for ws g))
      (mean_error N ps ws xs ts)

  -- R9.2, R3.6: the answer, and all lent memory
  pub record Lost (r : Result Float Refusal) (a' b' : List Float) : Type 0 where
    pub answer : r ≡ loss_answer
    pub first : a' ≡ swept to9 (widest_in ws) a
    pub second : b' ≡ swept to9 (widest_in ws) b
