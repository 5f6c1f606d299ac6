-- What the stages inside the two calls ask and promise; no part of the calls' meaning. Definitions only.
use Rattle.std.specs.Prelude.{ℕ, ◌<◌, ◌≡◌, true, List, eqb, length, drop, Float, Ok, Err}
use Rattle.floats.specs.Sums.{all_to}
use Rattle.refusals.specs.declared.Refusal.{Refusal}
use Rattle.refusals.specs.Refusals.{◌otherwise◌, ◌then◌, past, Outcome, outcome_of}
use Rattle.spline.specs.declared.Grid.{Grid}
use Rattle.local_basis.specs.Fours.{Finite}
use Rattle.layers.specs.Net.{Net}
use Rattle.layers.specs.Widths.{input_width, output_width}
use Rattle.batches.specs.Sound.{SoundBatch}
use Rattle.passes.specs.Pass.{rows_of, finite_row}
use Rattle.row_gradients.specs.Calls.{two_n, WorkFits}
use Rattle.batch_gradients.specs.Accumulate.{scale_of, gathered}
use Rattle.update.specs.Update.{moved_of}
use Rattle.split_training.specs.Accumulating.{from11_to28}
use Rattle.split_training.specs.Applying.{from10_to23}

-- ---- `accumulate`: all checks before the rows are passed
pub record AddReady (g : Grid) (ws : List ℕ) (ps xs ts gs W : List Float) : Type 0 where
  pub fits : WorkFits g ps ws W
  pub gradients : length gs ≡ length ps
  pub finite : Finite (length ps) ps
  pub batch : SoundBatch (input_width ws) (output_width ws) xs ts

-- 20, where a row does not pass it
abbrev pub rows_fault : Net → List ℕ → List Float → List Float → ℕ
rows_fault N ws ps xs = all_to (finite_row N ps ws xs) (rows_of ws xs) otherwise 20

-- every row behind the first passes 20, or else it is the answer to all rows; the gradients as they were, and the work past
-- 2N too
pub record FurtherPassed (N : Net) (ws : List ℕ) (ps xs gs W : List Float) (r : Outcome) (gs' W' : List Float) :
    Type 0 where
  pub passed : r ≡ Ok tt → (k : ℕ) → 0 < k → k < rows_of ws xs → finite_row N ps ws xs k ≡ true
  pub refused : (e : Refusal) → r ≡ Err e → r ≡ outcome_of (rows_fault N ws ps xs) 0
  pub kept : gs' ≡ gs
  pub rest : drop (two_n ws) W' ≡ drop (two_n ws) W

module _ (N : Net) (ws : List ℕ) (ps xs ts : List Float) (total : ℕ) (gs W : List Float) where
  -- the gradients with every row added
  abbrev pub all_added : List Float
  all_added = gathered N ps ws xs ts (output_width ws) (scale_of total) gs (rows_of ws xs)

  -- the rows: all of them added where every one passes 20, else none
  pub record AddDone (r : Outcome) (gs' W' : List Float) : Type 0 where
    pub answer : r ≡ outcome_of (rows_fault N ws ps xs) 0
    pub gradients : gs' ≡ past (rows_fault N ws ps xs) all_added gs
    pub rest : drop (two_n ws) W' ≡ drop (two_n ws) W

-- past check 9
abbrev pub from10_to20 : Net → List ℕ → List Float → List Float → List Float → ℕ → List Float → ℕ
from10_to20 N ws ps xs ts total gs =
    eqb (length gs) (length ps) otherwise 10 then from11_to28 ps ws xs ts total then rows_fault N ws ps xs

pub record AccumulateDone (N : Net) (ws : List ℕ) (ps xs ts : List Float) (total : ℕ) (gs W : List Float)
    (r : Outcome) (gs' W' : List Float) : Type 0 where
  pub answer : r ≡ outcome_of (from10_to20 N ws ps xs ts total gs) 0
  pub gradients : gs' ≡ past (from10_to20 N ws ps xs ts total gs) (all_added N ws ps xs ts total gs W) gs
  pub rest : drop (two_n ws) W' ≡ drop (two_n ws) W

-- ---- `apply`: past check 8
pub record ApplyDone (ps gs : List Float) (rate : Float) (r : Outcome) (ps' : List Float) : Type 0 where
  pub answer : r ≡ outcome_of (from10_to23 (length ps) ps gs rate) 0
  pub model : ps' ≡ past (from10_to23 (length ps) ps gs rate) (moved_of ps gs rate) ps
