-- R17.5: what the two calls have to do with a training step. Definitions only.
use Rattle.std.specs.Prelude.{ℕ, ◌*◌, ◌≡◌, true, Ok, Err, List, [], ◌∷◌, ◌++◌, length, Float}
use Rattle.floats.specs.Sums.{zeros}
use Rattle.refusals.specs.Refusals.{Outcome}
use Rattle.spline.specs.declared.Grid.{Grid}
use Rattle.layers.specs.Net.{Net}
use Rattle.layers.specs.Widths.{output_width}
use Rattle.passes.specs.Pass.{rows_of}
use Rattle.admission.specs.Admission.{up_to9_in_training}
use Rattle.update.specs.Update.{rate_sound}
use Rattle.training_step.specs.Step.{gradient_of}
use Rattle.training.specs.Train.{Stepped}
use Rattle.split_training.specs.Accumulating.{Accumulated}
use Rattle.split_training.specs.Applying.{Applied}
use Rattle.split_demands.specs.Chains.{Part, Chain}

-- the joined batch: all inputs, and all targets, part after part
unfoldable pub joined_inputs : List Part → List Float
joined_inputs [] = []
joined_inputs (part ∷ parts) = part.inputs ++ joined_inputs parts

unfoldable pub joined_targets : List Part → List Float
joined_targets [] = []
joined_targets (part ∷ parts) = part.targets ++ joined_targets parts

-- no call is refused, and each is told the total n
unfoldable pub AllDone : List Outcome → Type 0
AllDone [] = Unit {0}
AllDone (r ∷ rs) = (r ≡ Ok tt) × AllDone rs

unfoldable pub Stating : ℕ → List Part → Type 0
Stating n [] = Unit {0}
Stating n (part ∷ parts) = (part.total ≡ n) × Stating n parts

-- of two calls, the second made where the first is not refused: the answer, and the model left
abbrev pub first_refusal : Outcome → Outcome → Outcome
first_refusal (Ok tt) second = second
first_refusal (Err r) second = Err r

abbrev pub unless_refused : Outcome → List Float → List Float → List Float
unless_refused (Ok tt) new old = new
unless_refused (Err r) new old = old

pub record InTwoCalls (N : Net) (ws : List ℕ) (g : Grid) (ps : List Float) : Type 0 where
  -- R17.5: a step on as much work, with P gradients and a sound rate (R10.11 refuses another before 20), is accumulating
  -- into +0.0 with the total rows × outputs and then applying: the same answer, with what it carries, and the same model
  pub step : (xs ts : List Float) (rate : Float) (W U gs : List Float) → length U ≡ length W → length gs ≡ length ps
      → rate_sound rate ≡ true
      → (r : Outcome) (gs' W' : List Float)
      → Accumulated N ws g ps xs ts (rows_of ws xs * output_width ws) (zeros (length ps)) W r gs' W'
      → (a : Outcome) (ps' : List Float) → Applied ws g ps gs' rate a ps'
      → (s : Outcome) (ps'' gs'' U'' : List Float) → Stepped N ws g ps xs ts rate gs U s ps'' gs'' U''
      → (s ≡ first_refusal r a) × (ps'' ≡ unless_refused r ps' ps)
  -- R17.5: parts accumulated in order from +0.0, none refused, each told the joined batch's total, are one step's gradients
  pub gathered : (first : Part) (parts : List Part) (rs : List Outcome) (gs' : List Float)
      → Chain N ws g ps (first ∷ parts) (zeros (length ps)) rs gs' → AllDone rs
      → Stating (length (joined_targets (first ∷ parts))) (first ∷ parts)
      → gs' ≡ gradient_of N ps ws (joined_inputs (first ∷ parts)) (joined_targets (first ∷ parts))
  -- R17.5: and applied once, they are one step on the joined batch, 19 and 23 included
  pub joined : (first : Part) (parts : List Part) (rs : List Outcome) (gs' : List Float)
      → Chain N ws g ps (first ∷ parts) (zeros (length ps)) rs gs' → AllDone rs
      → Stating (length (joined_targets (first ∷ parts))) (first ∷ parts)
      → (rate : Float) (a : Outcome) (ps' : List Float) → Applied ws g ps gs' rate a ps'
      → (gs U : List Float) → up_to9_in_training ws g (length ps) (length gs) (length U) ≡ 0
      → (s : Outcome) (ps'' gs'' U'' : List Float)
      → Stepped N ws g ps (joined_inputs (first ∷ parts)) (joined_targets (first ∷ parts)) rate gs U s ps'' gs'' U''
      → (s ≡ a) × (ps'' ≡ ps')
