-- R10.12 to R10.14: `accumulate`, the first of the two calls that a training step is made of: a batch's gradients, added to
-- a lent slice. Definitions only.
use Rattle.std.specs.Prelude.{ℕ, ◌*◌, ◌≡◌, not, List, eqb, leb, length, Float}
use Rattle.floats.specs.Sums.{all_to}
use Rattle.refusals.specs.Refusals.{Outcome, ◌otherwise◌, ◌then◌, past, outcome_of}
use Rattle.spline.specs.declared.Grid.{Grid}
use Rattle.layers.specs.Net.{Net}
use Rattle.layers.specs.Widths.{output_width, nodes_in}
use Rattle.config.specs.Config.{carried_by, parameters_for}
use Rattle.admission.specs.Admission.{up_to9_for_nodes, swept}
use Rattle.passes.specs.Pass.{from11_to18, rows_of, finite_row}
use Rattle.batch_gradients.specs.Accumulate.{scale_of, gathered}

-- R10.13: 28, the stated total is 0 or above 16,777,216
unfoldable pub total_fault : ℕ → ℕ
total_fault total = not (eqb total 0) otherwise 28 then leb total 16777216 otherwise 28

-- R3.4: past check 10: 11, the batch, and then its stated total
unfoldable pub from11_to28 : List Float → List ℕ → List Float → List Float → ℕ → ℕ
from11_to28 ps ws xs ts total = from11_to18 ps ws xs ts then total_fault total

-- ---- R10.12, R3.4: the whole call: the answer, and all lent memory; the model is only read
module _ (N : Net) (ws : List ℕ) (g : Grid) (ps xs ts : List Float) (total : ℕ) (gs W : List Float) where
  abbrev to9 : ℕ
  to9 = up_to9_for_nodes ws g (length ps) (length W)

  -- R3.4: all checks before a row goes through the layers; 10, the gradients are not P
  unfoldable pub up_to28 : ℕ
  up_to28 = to9 then eqb (length gs) (parameters_for ws g) otherwise 10 then from11_to28 ps ws xs ts total

  -- R10.14: 20 in any row refuses the whole batch
  unfoldable pub accumulate_fault : ℕ
  accumulate_fault = up_to28 then all_to (finite_row N ps ws xs) (rows_of ws xs) otherwise 20

  pub record Accumulated (r : Outcome) (gs' W' : List Float) : Type 0 where
    pub answer : r ≡ outcome_of accumulate_fault (carried_by to9 (parameters_for ws g))
    -- R10.14: every row added, row by row, or none
    pub gradients : gs' ≡ past accumulate_fault (gathered N ps ws xs ts (output_width ws) (scale_of total) gs (rows_of ws xs)) gs
    pub work : W' ≡ swept to9 (2 * nodes_in ws) W
