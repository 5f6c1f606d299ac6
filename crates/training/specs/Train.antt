-- R10.9 to R10.11: `train_step` and `train`. The steps done are all that were asked for, or those before the first
-- refused one, and the model is as that many left it; 0 steps make all checks up to 19. Definitions only.
use Rattle.std.specs.Prelude.{ℕ, zero, suc, ◌*◌, ◌≡◌, List, length, Float, Err, Ok}
use Rattle.std.specs.declared.result.Result.{Result}
use Rattle.refusals.specs.Refusals.{Outcome, ◌otherwise◌, ◌then◌, first_to, done_to, past, none, outcome_of}
use Rattle.refusals.specs.declared.Refusal.{Refusal}
use Rattle.spline.specs.declared.Grid.{Grid}
use Rattle.layers.specs.Net.{Net}
use Rattle.layers.specs.Widths.{nodes_in}
use Rattle.config.specs.Config.{carried_by, parameters_for}
use Rattle.admission.specs.Admission.{up_to9_in_training, swept}
use Rattle.passes.specs.Pass.{from11_to18}
use Rattle.update.specs.Update.{rate_sound}
use Rattle.training_step.specs.Step.{step_fault, stepped}
use Rattle.training.specs.declared.calls.Stop.{Stop}

-- ---- R3.4: past check 9: 11, the batch, and R10.2: 19, the rate
unfoldable pub from11_to19 : List Float → List ℕ → List Float → List Float → Float → ℕ
from11_to19 ps ws xs ts rate = from11_to18 ps ws xs ts then rate_sound rate otherwise 19

-- ---- R10.9: steps, one after the other: the model after n of them, and what step s meets on the model before it
unfoldable pub model_after : Net → List Float → List ℕ → List Float → List Float → Float → ℕ → List Float
model_after N ps ws xs ts rate zero = ps
model_after N ps ws xs ts rate (suc n) = stepped N (model_after N ps ws xs ts rate n) ws xs ts rate

abbrev pub fault_at : Net → List Float → List ℕ → List Float → List Float → Float → ℕ → ℕ
fault_at N ps ws xs ts rate s = step_fault N (model_after N ps ws xs ts rate s) ws xs ts rate

-- ---- R10.9, R3.2: the answer of `train`, and the refusal and the steps that it tells
abbrev pub training_of : ℕ → ℕ → ℕ → Result ℕ Stop
training_of zero carried done = Ok done
training_of (suc n) carried done = Err (record { refusal = record { number = suc n; carried = carried }; done = done })

abbrev pub training_refusal : Result ℕ Stop → Refusal
training_refusal (Ok steps) = none
training_refusal (Err s) = s.refusal

abbrev pub steps_done : Result ℕ Stop → ℕ
steps_done (Ok steps) = steps
steps_done (Err s) = s.done

-- ---- R10.9, R3.4: the whole calls: the answer, and all lent memory. A step is training of one step (R10.11).
module _ (N : Net) (ws : List ℕ) (g : Grid) (ps xs ts : List Float) (rate : Float) (gs W : List Float) where
  abbrev to9 : ℕ
  to9 = up_to9_in_training ws g (length ps) (length gs) (length W)

  -- R10.9: all checks before the first step
  unfoldable pub up_to19 : ℕ
  up_to19 = to9 then from11_to19 ps ws xs ts rate

  -- R10.9: the refusal, and how many steps are done: none where a check before them refuses
  unfoldable pub train_fault : ℕ → ℕ
  train_fault steps = up_to19 then first_to (fault_at N ps ws xs ts rate) steps

  unfoldable pub train_done : ℕ → ℕ
  train_done steps = past up_to19 (done_to (fault_at N ps ws xs ts rate) steps) 0

  -- R3.2: 7 carries the total, and no refusal past the configuration carries anything
  abbrev carried : ℕ
  carried = carried_by to9 (parameters_for ws g)

  -- R3.6, R10.9: what both calls leave of the model and of the work
  pub record TrainingLeaves (steps : ℕ) (ps' gs' W' : List Float) : Type 0 where
    pub model : ps' ≡ model_after N ps ws xs ts rate (train_done steps)
    pub gradients : gs' ≡ swept to9 (parameters_for ws g) gs
    pub work : W' ≡ swept to9 (2 * nodes_in ws) W

  -- R10.9: `train`
  pub record Trained (steps : ℕ) (r : Result ℕ Stop) (ps' gs' W' : List Float) : Type 0 where
    pub answer : r ≡ training_of (train_fault steps) carried (train_done steps)
    pub leaves : TrainingLeaves steps ps' gs' W'

  -- R10.11: `train_step`
  pub record Stepped (r : Outcome) (ps' gs' W' : List Float) : Type 0 where
    pub answer : r ≡ outcome_of (train_fault 1) carried
    pub leaves : TrainingLeaves 1 ps' gs' W'
