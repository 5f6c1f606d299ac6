-- Training of two models that differ in silent coefficients, step after step. Assumes nothing.
use Prim.Native.Nat.{ℕ, zero, suc, ◌≤◌, ◌<◌}
use native.Mathlib.Nat.{lt-suc_self}
use native.Mathlib.Omega.{arith}
use mathlib.Core.Path.{◌≡◌, refl, ◌∙◌}
use mathlib.Core.Bool.{true}
use mathlib.Core.List.{List}
use lib.Dec.{T}
use lib.Ieee.{Float}
use lib.Ieee.Positive.{positive}
use Rattle.floats.specs.Sums.{all_finite}
use Rattle.layers.specs.Net.{Net}
use Rattle.layers.specs.Widths.{input_width, output_width}
use Rattle.refusals.specs.Refusals.{◌otherwise◌, first_to, done_to}
use Rattle.batches.specs.Batch.{batch_fault}
use Rattle.refusals.proofs.Firsts.{both_pass, test_passes, first_before, first_clear}
use Rattle.passes.specs.Pass.{rows_of, from11_to18}
use Rattle.batch_gradients.specs.Calls.{Full}
use Rattle.update.specs.Update.{rate_sound}
use Rattle.training.specs.Train.{from11_to19, model_after, fault_at}
use Rattle.demands.specs.Silent.{Places, Differ}
use Rattle.demands.specs.Readings.{TrainReads}
use Rattle.demands.specs.Alike.{LeftAlike}
use Rattle.demands.proofs.Tests.{fault_same, done_same, done_clear, done_most}
use Rattle.demands.proofs.Places.{Siblings}
use Rattle.demands.proofs.Losing.{full_rows}
use Rattle.demands.proofs.Rates.{rate_positive}
use Rattle.demands.proofs.Steps.{step_fault_same, step_left, step_siblings}

-- ---- 11 to 19 passed: full rows, and a rate above zero
sound_training : (ws : List ℕ) (ps xs ts : List Float) (rate : Float) → from11_to19 ps ws xs ts rate ≡ 0
    → (batch_fault (input_width ws) (output_width ws) xs ts ≡ 0) × (rate_sound rate ≡ true)
unfolding from11_to18 from11_to19
sound_training ws ps xs ts rate e =
    let both = both_pass (from11_to18 ps ws xs ts) _ e in
    ((both_pass (all_finite ps otherwise 11) _ both.0).1, test_passes (rate_sound rate) 18 both.1)

-- ---- a step more
pub left_none : {per : ℕ} {D : Places} {ps qs : List Float} → Differ per D ps qs → LeftAlike D ps qs ps qs
left_none differ = record { sizes = (refl, refl); others = differ.others; kept = λ p d. (refl, refl) }

left_more : {D : Places} {ps qs ps' qs' ps'' qs'' : List Float} → LeftAlike D ps qs ps' qs' → LeftAlike D ps' qs' ps'' qs''
    → LeftAlike D ps qs ps'' qs''
left_more a b =
    record {
      sizes = (b.sizes.0 ∙ a.sizes.0, b.sizes.1 ∙ a.sizes.1);
      others = b.others;
      kept = λ p d. ((b.kept p d).0 ∙ (a.kept p d).0, (b.kept p d).1 ∙ (a.kept p d).1);
    }

module _ {N : Net} {ws : List ℕ} {D : Places} {ps qs : List Float} (two : Siblings N ws D ps qs) (xs ts : List Float)
    (rate : Float) (steps : ℕ) where
  module _ (full : Full (input_width ws) xs (rows_of ws xs)) (rates : T (positive rate)) (reads : TrainReads N ws D ps xs ts rate steps) where
    abbrev After : ℕ → Type 0
    After s =
        Siblings N ws D (model_after N ps ws xs ts rate s) (model_after N qs ws xs ts rate s)
        × LeftAlike D ps qs (model_after N ps ws xs ts rate s) (model_after N qs ws xs ts rate s)

    after : (s : ℕ) → s ≤ steps → first_to (fault_at N ps ws xs ts rate) s ≡ 0 → After s
    unfolding model_after
    after zero h clear = (two, left_none two.differ)
    after (suc s) h clear =
        let before = first_before (fault_at N ps ws xs ts rate) s (suc s) (omega arith) clear in
        let taken = first_clear (fault_at N ps ws xs ts rate) (suc s) clear s (lt-suc_self s) in
        let now = after s (omega arith) before in
        let silent = reads s (omega arith) before in (
          step_siblings now.0 xs ts full rate rates silent taken,
          left_more now.1 (step_left now.0 xs ts full rate rates silent taken),
        )

    step_same : (s : ℕ) → s < steps → first_to (fault_at N ps ws xs ts rate) s ≡ 0
        → fault_at N ps ws xs ts rate s ≡ fault_at N qs ws xs ts rate s
    step_same s h clear =
        step_fault_same (after s (omega arith) clear).0 xs ts full rate rates (reads s h clear)

    pub faults_same : first_to (fault_at N ps ws xs ts rate) steps ≡ first_to (fault_at N qs ws xs ts rate) steps
    faults_same = fault_same _ _ steps step_same

    pub steps_done_same : done_to (fault_at N ps ws xs ts rate) steps ≡ done_to (fault_at N qs ws xs ts rate) steps
    steps_done_same = done_same _ _ steps step_same

    pub models_left : LeftAlike D ps qs (model_after N ps ws xs ts rate (done_to (fault_at N ps ws xs ts rate) steps))
        (model_after N qs ws xs ts rate (done_to (fault_at N qs ws xs ts rate) steps))
    models_left =
        rw (← steps_done_same) (after (done_to (fault_at N ps ws xs ts rate) steps) (done_most (fault_at N ps ws xs ts rate) steps)
        (done_clear (fault_at N ps ws xs ts rate) steps)).1

  -- ---- what the checks before the first step give
  pub full : from11_to19 ps ws xs ts rate ≡ 0 → Full (input_width ws) xs (rows_of ws xs)
  full e = full_rows (input_width ws) (output_width ws) xs ts (sound_training ws ps xs ts rate e).0

  pub above : from11_to19 ps ws xs ts rate ≡ 0 → T (positive rate)
  above e = rate_positive rate (sound_training ws ps xs ts rate e).1
