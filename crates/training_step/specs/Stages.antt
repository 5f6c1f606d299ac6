-- What a step asks and promises; no part of the calls' meaning. Definitions only.
use Rattle.std.specs.Prelude.{ℕ, ◌≤◌, ◌≡◌, List, length, take, drop, Float, Ok}
use Rattle.floats.specs.Sums.{all_to}
use Rattle.refusals.specs.Refusals.{◌otherwise◌, past, Outcome, outcome_of}
use Rattle.spline.specs.declared.Grid.{Grid}
use Rattle.local_basis.specs.Fours.{Finite}
use Rattle.layers.specs.Net.{Net}
use Rattle.layers.specs.Widths.{input_width, output_width}
use Rattle.batches.specs.Sound.{SoundBatch}
use Rattle.passes.specs.Pass.{rows_of, finite_row}
use Rattle.row_gradients.specs.Calls.{two_n, WorkFits}
use Rattle.training_step.specs.Step.{gradient_of, step_fault, stepped}

-- what was lent is enough: checks 8 and 9 are passed
pub record TrainingRoom (g : Grid) (ws : List ℕ) (ps gs W : List Float) : Type 0 where
  pub fits : WorkFits g ps ws W
  pub gradients : length ps ≤ length gs

-- the batch is sound as well, and every parameter finite (11, and 23 after a step): a step can be made
pub record StepReady (g : Grid) (ws : List ℕ) (ps xs ts gs W : List Float) : Type 0 where
  pub room : TrainingRoom g ws ps gs W
  pub batch : SoundBatch (input_width ws) (output_width ws) xs ts
  pub finite : Finite (length ps) ps

-- both lent slices are as they were beyond what is needed of them
pub record Rests (ws : List ℕ) (ps gs W gs' W' : List Float) : Type 0 where
  pub gradients : drop (length ps) gs' ≡ drop (length ps) gs
  pub work : drop (two_n ws) W' ≡ drop (two_n ws) W

module _ (N : Net) (ws : List ℕ) (ps xs ts : List Float) where
  -- the batch's gradients, or 20 where a row does not pass it
  pub record GatherDone (gs W : List Float) (r : Outcome) (gs' W' : List Float) : Type 0 where
    pub answer : r ≡ outcome_of (all_to (finite_row N ps ws xs) (rows_of ws xs) otherwise 20) 0
    pub gradients : r ≡ Ok tt → take (length ps) gs' ≡ gradient_of N ps ws xs ts
    pub rests : Rests ws ps gs W gs' W'

  -- one step
  pub record StepDone (rate : Float) (gs W : List Float) (r : Outcome) (ps' gs' W' : List Float) : Type 0 where
    pub answer : r ≡ outcome_of (step_fault N ps ws xs ts rate) 0
    pub model : ps' ≡ past (step_fault N ps ws xs ts rate) (stepped N ps ws xs ts rate) ps
    pub rests : Rests ws ps gs W gs' W'
