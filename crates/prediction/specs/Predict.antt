-- R8.10: `predict_batch`, which asks each row's 14, 15, 20 before it looks at the next (R5.5). Definitions only.
use Rattle.std.specs.Prelude.{ℕ, ◌*◌, ◌≡◌, Bool, List, ◌++◌, eqb, length, drop, Float}
use Rattle.floats.specs.Sums.{all_finite, flat_to}
use Rattle.refusals.specs.Refusals.{◌otherwise◌, ◌then◌, past, Outcome, outcome_of}
use Rattle.spline.specs.declared.Grid.{Grid}
use Rattle.layers.specs.Net.{Net}
use Rattle.layers.specs.Widths.{input_width, output_width, widest_in}
use Rattle.batches.specs.Batch.{rows_in}
use Rattle.passes.specs.Pass.{outputs_at, rows_refusal, rows_done}
use Rattle.config.specs.Config.{row_carried, parameters_for}
use Rattle.admission.specs.Admission.{up_to9, swept}

-- R3.5: 10, the outputs are not rows × output width, a short row counted (R5.2)
unfoldable pub outputs_fit : ℕ → ℕ → ℕ → ℕ → Bool
outputs_fit w v inputs outputs = eqb outputs (rows_in inputs w * v)

-- R3.4: past check 9: 10, then 11
unfoldable pub from10_to11 : List ℕ → List Float → List Float → ℕ → ℕ
from10_to11 ws ps xs n =
    outputs_fit (input_width ws) (output_width ws) (length xs) n otherwise 10 then all_finite ps otherwise 11

-- R8.10, R3.6: the outputs of the rows before the refused one, row after row, over the front of the lent slice
unfoldable pub outputs_over : Net → List Float → List ℕ → List Float → List Float → List Float
outputs_over N ps ws xs ys =
    let done = rows_done N ps ws xs in
    flat_to (outputs_at N ps ws xs) done ++ drop (done * output_width ws) ys

-- ---- R8.10, R3.4: the whole call
module _ (N : Net) (ws : List ℕ) (g : Grid) (ps xs a b ys : List Float) where
  -- R3.4: the checks up to 9, and all that come before the rows
  abbrev to9 : ℕ
  to9 = up_to9 ws g (length ps) (length a) (length b)

  abbrev pub up_to11 : ℕ
  up_to11 = to9 then from10_to11 ws ps xs (length ys)

  -- R3.2: 7 carries the total, and a row's refusal the row
  abbrev pub predict_answer : Outcome
  predict_answer =
      outcome_of (up_to11 then rows_refusal N ps ws xs) (row_carried up_to11 (parameters_for ws g) (rows_done N ps ws xs))

  -- R8.10, R3.6: the answer, and all lent memory
  pub record Predicted (r : Outcome) (a' b' ys' : List Float) : Type 0 where
    pub answer : r ≡ predict_answer
    pub outputs : ys' ≡ past up_to11 (outputs_over N ps ws xs ys) ys
    pub first : a' ≡ swept to9 (widest_in ws) a
    pub second : b' ≡ swept to9 (widest_in ws) b
