-- What the stages inside the calls ask and promise; no part of the calls' meaning. Definitions only.
use Rattle.std.specs.Prelude.{ℕ, ◌≡◌, List, Float}
use Rattle.std.specs.declared.result.Result.{Result}
use Rattle.refusals.specs.Refusals.{◌then◌, first_to, done_to, past}
use Rattle.layers.specs.Net.{Net}
use Rattle.training_step.specs.Stages.{Rests}
use Rattle.training.specs.declared.calls.Stop.{Stop}
use Rattle.training.specs.Train.{from11_to19, model_after, fault_at, training_of}

module _ (N : Net) (ws : List ℕ) (ps xs ts : List Float) (steps : ℕ) (rate : Float) (gs W : List Float) where
  abbrev pub steps_fault : ℕ
  steps_fault = first_to (fault_at N ps ws xs ts rate) steps

  abbrev pub steps_made : ℕ
  steps_made = done_to (fault_at N ps ws xs ts rate) steps

  -- the steps of a batch that is sound
  pub record StepsDone (r : Result ℕ Stop) (ps' gs' W' : List Float) : Type 0 where
    pub answer : r ≡ training_of steps_fault 0 steps_made
    pub model : ps' ≡ model_after N ps ws xs ts rate steps_made
    pub rests : Rests ws ps gs W gs' W'

  -- all past check 9: 11, the batch and the rate, and then the steps
  pub record TrainDone (r : Result ℕ Stop) (ps' gs' W' : List Float) : Type 0 where
    pub answer : r ≡ training_of (from11_to19 ps ws xs ts rate then steps_fault) 0 (past (from11_to19 ps ws xs ts rate) steps_made 0)
    pub model : ps' ≡ model_after N ps ws xs ts rate (past (from11_to19 ps ws xs ts rate) steps_made 0)
    pub rests : Rests ws ps gs W gs' W'
