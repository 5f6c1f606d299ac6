-- What the steps inside the call promise and ask: no part of its meaning. Definitions only.
use Rattle.std.specs.Prelude.{ℕ, ◌*◌, ◌≤◌, true, ◌≡◌, List, length, Float}
use Rattle.floats.specs.Sums.{all_finite}
use Rattle.refusals.specs.Refusals.{◌then◌, past, Outcome, outcome_of}
use Rattle.spline.specs.declared.Grid.{Grid}
use Rattle.layers.specs.Net.{Net}
use Rattle.layers.specs.Widths.{output_width}
use Rattle.passes.specs.Pass.{rows_of, rows_refusal, rows_done}
use Rattle.passes.specs.Turns.{Past, Fits}
use Rattle.config.specs.Config.{row_carried}
use Rattle.prediction.specs.Predict.{outputs_over}

-- the rows of a batch, with room for their outputs
pub record Predictable (g : Grid) (ps : List Float) (ws : List ℕ) (xs a b ys : List Float) (rows : ℕ) : Type 0 where
  pub fits : Fits g ps ws a b
  pub finite : all_finite ps ≡ true
  pub count : rows ≡ rows_of ws xs
  pub room : rows * output_width ws ≤ length ys

-- the rows past some checks: `checks` is what those refuse, 0 where they pass, and `total` what a 7 among them carries
pub record RowsPredicted (N : Net) (ps : List Float) (ws : List ℕ) (xs : List Float) (checks total : ℕ)
    (a b ys : List Float) (r : Outcome) (a' b' ys' : List Float) : Type 0 where
  pub answer : r ≡ outcome_of (checks then rows_refusal N ps ws xs) (row_carried checks total (rows_done N ps ws xs))
  pub outputs : ys' ≡ past checks (outputs_over N ps ws xs ys) ys
  pub first : Past ws a a'
  pub second : Past ws b b'
