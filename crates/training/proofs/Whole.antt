-- The whole calls from their parts: refused before any work, or worked and swept. Assumes nothing.
use Rattle.std.specs.Prelude.{Err, Ok}
use Rattle.std.specs.declared.result.Result.{Result}
use mathlib.Core.Path.{◌≡◌, refl, sym, ap, ◌∙◌}
use mathlib.Core.List.{List, ◌++◌}
use Prim.Native.Nat.{ℕ, zero, suc, ◌+◌, ◌*◌, ◌<◌}
use native.Mathlib.Nat.{le_trans, le_of_eq}
use lib.ListN.{length, drop}
use lib.Ieee.{Float}
use Rattle.floats.specs.Sums.{zeros}
use Rattle.refusals.specs.Refusals.{Outcome, ◌otherwise◌, ◌then◌, outcome_of}
use Rattle.refusals.specs.declared.Refusal.{Refusal}
use Rattle.refusals.proofs.Firsts.{both_pass, refused}
use Rattle.spline.specs.declared.Grid.{Grid}
use Rattle.layers.specs.Net.{Net}
use Rattle.layers.specs.Widths.{input_width, output_width, parameters_in, nodes_in}
use Rattle.batches.specs.Batch.{batch_fault}
use Rattle.batches.specs.Sound.{SoundBatch}
use Rattle.batches.proofs.Rows.{batch_sound}
use Rattle.config.specs.Config.{carried_by}
use Rattle.admission.specs.Admission.{up_to9_in_training}
use Rattle.admission.proofs.Passed.{Past9InTraining, past9_in_training, swept_past}
use Rattle.passes.proofs.Past9.{walkable}
use Rattle.update.specs.Update.{rate_sound}
use Rattle.training_step.specs.Stages.{TrainingRoom}
use Rattle.training.specs.declared.calls.Stop.{Stop}
use Rattle.training.specs.Train.{model_after, training_of, up_to19, train_fault, train_done, Trained, Stepped}
use Rattle.training.specs.Stages.{TrainDone}
use Rattle.training.proofs.Steps.{stopped}

-- ---- what the checks up to 9 give
pub roomy : (ws : List ℕ) (g : Grid) (ps gs W : List Float) → Past9InTraining ws g (length ps) (length gs) (length W)
    → TrainingRoom g ws ps gs W
roomy ws g ps gs W f = record {
  fits = record { walkable = walkable ws g f.nodes.size; params = sym f.nodes.model; work = f.nodes.work };
  gradients = le_trans (le_of_eq f.nodes.model) f.gradients;
}

-- a sweep of as many numbers
pub swept_by : {n m : ℕ} (s : List Float) {s' : List Float} → n ≡ m → s' ≡ zeros m ++ drop m s → s' ≡ zeros n ++ drop n s
swept_by s e h = rw e h

-- ---- the checks before the first step
-- 12 to 19
abbrev pub from12_to19 : List ℕ → List Float → List Float → Float → ℕ
from12_to19 ws xs ts rate = batch_fault (input_width ws) (output_width ws) xs ts then rate_sound rate otherwise 19

pub sound_batch : (ws : List ℕ) (xs ts : List Float) (rate : Float) → 0 < input_width ws → 0 < output_width ws
    → from12_to19 ws xs ts rate ≡ 0 → SoundBatch (input_width ws) (output_width ws) xs ts
sound_batch ws xs ts rate w v e = batch_sound _ _ _ _ w v (both_pass (batch_fault (input_width ws) (output_width ws) xs ts) _ e).0

-- ---- the whole call
module _ (N : Net) (ws : List ℕ) (g : Grid) (ps xs ts : List Float) (rate : Float) (gs W : List Float) where
  abbrev to9 : ℕ
  to9 = up_to9_in_training ws g (length ps) (length gs) (length W)

  abbrev P : ℕ
  P = parameters_in (g.intervals + 5) ws

  pub train_refused : (steps : ℕ) (r : Refusal) (n : ℕ) → to9 ≡ n → Err r ≡ outcome_of n (carried_by n P)
      → Trained N ws g ps xs ts rate gs W steps (Err (record { refusal = r; done = 0 })) ps gs W
  unfolding train_fault train_done up_to19 model_after
  train_refused steps r zero e y = absurd (refused 0 0 r (sym y) refl)
  train_refused steps r (suc n) e y = record {
    answer = rw e (stopped (suc n) _ 0 r (sym y));
    leaves = record { model = rw e; gradients = rw e; work = rw e };
  }

  pub train_done_lem : (steps : ℕ) (r : Result ℕ Stop) (ps' gs₁ W₁ gs₂ W₂ : List Float) → to9 ≡ 0
      → TrainDone N ws ps xs ts steps rate gs W r ps' gs₁ W₁ → gs₂ ≡ zeros P ++ drop P gs₁
      → W₂ ≡ zeros (2 * nodes_in ws) ++ drop (2 * nodes_in ws) W₁
      → Trained N ws g ps xs ts rate gs W steps r ps' gs₂ W₂
  unfolding train_fault train_done up_to19
  train_done_lem steps r ps' gs₁ W₁ gs₂ W₂ e d p q =
      let f = past9_in_training ws g (length ps) (length gs) (length W) e in
      let behind : drop P gs₁ ≡ drop P gs = rw f.nodes.model at d.rests.gradients in
      record {
        answer = rw e d.answer;
        leaves = record {
          model = rw e d.model;
          gradients = swept_past _ _ _ _ e (p ∙ ap (λ (l : List Float). zeros P ++ l) behind);
          work = swept_past _ _ _ _ e (q ∙ ap (λ (l : List Float). zeros (2 * nodes_in ws) ++ l) d.rests.work);
        };
      }

  -- ---- one step: the same, without the count
  abbrev answer_of_lem : Result ℕ Stop → Outcome
  answer_of_lem (Ok n) = Ok tt
  answer_of_lem (Err s) = Err s.refusal

  same_answer : (n c k : ℕ) → outcome_of n c ≡ answer_of_lem (training_of n c k)
  same_answer zero c k = refl
  same_answer (suc n) c k = refl

  one : (r : Result ℕ Stop) (ps' gs' W' : List Float) → Trained N ws g ps xs ts rate gs W 1 r ps' gs' W'
      → Stepped N ws g ps xs ts rate gs W (answer_of_lem r) ps' gs' W'
  one r ps' gs' W' t =
      let refusal = train_fault N ws g ps xs ts rate gs W 1 in
      let done = train_done N ws g ps xs ts rate gs W 1 in
      record { answer = ap answer_of_lem t.answer ∙ sym (same_answer refusal _ done); leaves = t.leaves }

  pub one_done : (n : ℕ) (r : Result ℕ Stop) (ps' gs' W' : List Float) → Trained N ws g ps xs ts rate gs W 1 r ps' gs' W' → r ≡ Ok n
      → Stepped N ws g ps xs ts rate gs W (Ok tt) ps' gs' W'
  one_done n r ps' gs' W' t e = rw (ap answer_of_lem e) at (one r ps' gs' W' t)
