-- What the steps inside the call promise and ask: no part of its meaning. Definitions only.
use Rattle.std.specs.Prelude.{ℕ, suc, true, ◌≡◌, List, Float}
use Rattle.std.specs.declared.result.Result.{Result}
use Rattle.std.specs.Float.Ieee.Scale.{finite}
use Rattle.floats.specs.Binary32.{◌⊕◌}
use Rattle.floats.specs.Sums.{all_finite, at, sum_from}
use Rattle.refusals.specs.declared.Refusal.{Refusal}
use Rattle.refusals.specs.Refusals.{◌otherwise◌, ◌then◌, first_to, answer_of}
use Rattle.spline.specs.declared.Grid.{Grid}
use Rattle.layers.specs.Net.{Net}
use Rattle.layers.specs.Widths.{input_width, output_width}
use Rattle.batches.specs.Sound.{SoundBatch}
use Rattle.passes.specs.Pass.{rows_of, from11_to18}
use Rattle.passes.specs.Turns.{Past, Fits}
use Rattle.loss.specs.Loss.{squared, sum_after, rows_loss_fault, mean_error, loss_of}

-- ---- the running sum as the code holds it
abbrev pub sum_of : ℕ → Float → Result Float Refusal
sum_of n sum = answer_of n 0 sum

-- one error more
abbrev pub add_fault : Float → Float → ℕ
add_fault sum error = finite error otherwise 21 then finite (sum ⊕ error) otherwise 22

abbrev pub added_to : Float → Float → Result Float Refusal
added_to sum error = sum_of (add_fault sum error) (sum ⊕ error)

-- the errors of n outputs against their targets more
abbrev pub error_in : List Float → List Float → ℕ → Float
error_in os ts i = squared (at os i) (at ts i)

abbrev pub error_fault : Float → List Float → List Float → ℕ → ℕ
error_fault sum os ts i =
    finite (error_in os ts i) otherwise 21 then finite (sum_from sum (error_in os ts) (suc i)) otherwise 22

unfoldable pub errors_to : Float → List Float → List Float → ℕ → Result Float Refusal
errors_to sum os ts n = sum_of (first_to (error_fault sum os ts) n) (sum_from sum (error_in os ts) n)

-- ---- the rows of a sound batch, past the checks
pub record Summable (g : Grid) (ps : List Float) (ws : List ℕ) (xs ts a b : List Float) (rows : ℕ) : Type 0 where
  pub fits : Fits g ps ws a b
  pub finite : all_finite ps ≡ true
  pub batch : SoundBatch (input_width ws) (output_width ws) xs ts
  pub count : rows ≡ rows_of ws xs

pub record RowsSummed (N : Net) (ps : List Float) (ws : List ℕ) (xs ts a b : List Float) (r : Result Float Refusal)
    (a' b' : List Float) : Type 0 where
  pub answer : r ≡ sum_of (rows_loss_fault N ps ws xs ts) (sum_after N ps ws xs ts (rows_of ws xs))
  pub first : Past ws a a'
  pub second : Past ws b b'

-- ---- 11, the batch and the rows
pub record LossPast9 (N : Net) (ps : List Float) (ws : List ℕ) (xs ts a b : List Float) (r : Result Float Refusal)
    (a' b' : List Float) : Type 0 where
  pub answer : r ≡ loss_of (from11_to18 ps ws xs ts then rows_loss_fault N ps ws xs ts) 0 (mean_error N ps ws xs ts)
  pub first : Past ws a a'
  pub second : Past ws b b'
