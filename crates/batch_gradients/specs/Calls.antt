-- What the calls of this crate ask and promise. Definitions only.
use Rattle.std.specs.Prelude.{ℕ, ◌<◌, ◌≡◌, Bool, true, false, List, length, drop, Float, Ok}
use Rattle.floats.specs.Sums.{all_to}
use Rattle.refusals.specs.Refusals.{◌otherwise◌, Outcome, outcome_of}
use Rattle.layers.specs.Net.{Net}
use Rattle.layers.specs.Widths.{input_width, output_width}
use Rattle.batches.specs.Batch.{rows_in, row_at}
use Rattle.passes.specs.Pass.{rows_of, finite_row}
use Rattle.row_gradients.specs.Calls.{two_n}
use Rattle.batch_gradients.specs.Accumulate.{gathered}

-- each of n rows is as wide as it must be
abbrev pub Full : ℕ → List Float → ℕ → Type 0
Full w xs n = (r : ℕ) → r < n → length (row_at xs w r) ≡ w

-- as many targets as inputs, and every row of each full: 12, 14 and 16 are passed
pub record FullRows (ws : List ℕ) (xs ts : List Float) : Type 0 where
  pub same : rows_in (length ts) (output_width ws) ≡ rows_of ws xs
  pub inputs : Full (input_width ws) xs (rows_of ws xs)
  pub targets : Full (output_width ws) ts (rows_of ws xs)

-- 20 where a row does not pass it, then the gradients with all rows added where `add` says so; they are as they were where it
-- does not, and where the first row fails; and the work past 2N as it was
pub record RowsTaken (N : Net) (ps : List Float) (ws : List ℕ) (xs ts : List Float) (scale : Float) (add : Bool)
    (gs W gs' W' : List Float) (r : Outcome) : Type 0 where
  pub answer : r ≡ outcome_of (all_to (finite_row N ps ws xs) (rows_of ws xs) otherwise 20) 0
  pub added : r ≡ Ok tt → add ≡ true → gs' ≡ gathered N ps ws xs ts (output_width ws) scale gs (rows_of ws xs)
  pub untold : add ≡ false → gs' ≡ gs
  pub kept : finite_row N ps ws xs 0 ≡ false → gs' ≡ gs
  pub rest : drop (two_n ws) W' ≡ drop (two_n ws) W
