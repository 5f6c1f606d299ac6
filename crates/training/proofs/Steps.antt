-- Steps one after the other: where training stands before step k, a step more, a stop, and the end. Assumes nothing.
use Rattle.std.specs.Prelude.{Err, Ok}
use mathlib.Core.Path.{◌≡◌, refl, sym, ap, ◌∙◌}
use mathlib.Core.List.{List}
use Prim.Native.Nat.{ℕ, zero, suc, ◌+◌, ◌<◌}
use native.Mathlib.Numerals.{add-one}
use native.Mathlib.Omega.{arith}
use lib.ListN.{length, drop}
use lib.Ieee.{Float}
use Rattle.floats.specs.Sums.{all_to, all_finite}
use Rattle.floats.proofs.Loops.{all_each}
use Rattle.spline.specs.declared.Grid.{Grid}
use Rattle.local_basis.specs.Fours.{Finite}
use Rattle.layers.specs.Net.{Net}
use Rattle.refusals.specs.declared.Refusal.{Refusal}
use Rattle.refusals.specs.Refusals.{◌otherwise◌, first_to, Outcome, outcome_of}
use Rattle.refusals.proofs.Firsts.{both_pass, test_passes, past_stopped, not_refused, refused}
use Rattle.refusals.proofs.Firsts.{first_none, first_more, first_stop, done_all, done_stop}
use Rattle.passes.specs.Pass.{rows_of, finite_row}
use Rattle.training_step.specs.Step.{step_fault, stepped}
use Rattle.training_step.specs.Stages.{StepReady, Rests, StepDone}
use Rattle.training.specs.Train.{model_after, fault_at, training_of}
use Rattle.training.specs.Stages.{StepsDone}

-- ---- what stays beyond what is needed
pub rests_none : (ws : List ℕ) (ps gs W : List Float) → Rests ws ps gs W gs W
rests_none ws ps gs W = record { gradients = refl; work = refl }

pub rests_more : (ws : List ℕ) (ps ps₁ gs W gs₁ W₁ gs₂ W₂ : List Float) → length ps₁ ≡ length ps → Rests ws ps gs W gs₁ W₁
    → Rests ws ps₁ gs₁ W₁ gs₂ W₂
    → Rests ws ps gs W gs₂ W₂
rests_more ws ps ps₁ gs W gs₁ W₁ gs₂ W₂ e p q = record {
  gradients =
      ap (λ (n : ℕ). drop n gs₂) (sym e) ∙ q.gradients ∙ ap (λ (n : ℕ). drop n gs₁) e ∙ p.gradients;
  work = q.work ∙ p.work;
}

-- ---- a refusal after k steps
pub stopped : (n c k : ℕ) (e : Refusal) → outcome_of n c ≡ Err e → Err (record { refusal = e; done = k }) ≡ training_of n c k
stopped zero c k e p = absurd (refused 0 c e p refl)
stopped (suc n) c k e p = cc

-- ---- past 23 every parameter is finite again, as 11 found it
step_finite : (N : Net) (ws : List ℕ) (ps xs ts : List Float) (rate : Float) (gs W ps' gs' W' : List Float)
    → StepDone N ws ps xs ts rate gs W (Ok tt) ps' gs' W' → Finite (length ps') ps'
unfolding step_fault all_finite
step_finite N ws ps xs ts rate gs W ps' gs' W' d =
    let z = not_refused (step_fault N ps ws xs ts rate) 0 (sym d.answer) in
    let moved : ps' ≡ stepped N ps ws xs ts rate = rw z at d.model in
    let both = both_pass (all_to (finite_row N ps ws xs) (rows_of ws xs) otherwise 20) _ z in
    rw moved (all_each _ _ (test_passes _ 22 both.1))

-- ---- slices of the same lengths are ready as well, with a finite model
pub ready_moved : (g : Grid) (ws : List ℕ) (ps xs ts gs W ps' gs' W' : List Float) → StepReady g ws ps xs ts gs W → length ps' ≡ length ps
    → length gs' ≡ length gs → length W' ≡ length W → Finite (length ps') ps'
    → StepReady g ws ps' xs ts gs' W'
ready_moved g ws ps xs ts gs W ps' gs' W' r p q s h =
    let f = r.room.fits in
    record {
      room = record {
        fits = record {
          walkable = f.walkable;
          params = f.params ∙ sym p;
          work = omega (arith, f.work, s);
        };
        gradients = omega (arith, r.room.gradients, p, q);
      };
      batch = r.batch;
      finite = h;
    }

-- ---- before step k
module _ (N : Net) (ws : List ℕ) (ps₀ xs ts : List Float) (rate : Float) (gs₀ W₀ : List Float) where
  pub record Going (k : ℕ) (ps gs W : List Float) : Type 0 where
    pub sound : first_to (fault_at N ps₀ ws xs ts rate) k ≡ 0
    pub model : ps ≡ model_after N ps₀ ws xs ts rate k
    pub finite : Finite (length ps) ps
    pub size_p : length ps ≡ length ps₀
    pub size_g : length gs ≡ length gs₀
    pub size_w : length W ≡ length W₀
    pub rests : Rests ws ps₀ gs₀ W₀ gs W

  pub before_first : Finite (length ps₀) ps₀ → Going 0 ps₀ gs₀ W₀
  unfolding model_after
  before_first h = record {
    sound = first_none _;
    model = refl;
    finite = h;
    size_p = refl;
    size_g = refl;
    size_w = refl;
    rests = rests_none ws ps₀ gs₀ W₀;
  }

  -- step k's refusal, on the model that is there
  fault_here : (k : ℕ) (r : Outcome) (ps gs W ps' gs' W' : List Float) → Going k ps gs W
      → StepDone N ws ps xs ts rate gs W r ps' gs' W' → r ≡ outcome_of (fault_at N ps₀ ws xs ts rate k) 0
  fault_here k r ps gs W ps' gs' W' h s = rw (← h.model) s.answer

  pub one_more : (k : ℕ) (ps gs W ps' gs' W' : List Float) → length ps' ≡ length ps → length gs' ≡ length gs
      → length W' ≡ length W → Going k ps gs W → StepDone N ws ps xs ts rate gs W (Ok tt) ps' gs' W'
      → Going (k + 1) ps' gs' W'
  unfolding model_after
  one_more k ps gs W ps' gs' W' p q s h d =
      let z = not_refused (step_fault N ps ws xs ts rate) 0 (sym d.answer) in
      record {
        sound = first_more _ k h.sound (not_refused _ 0 (sym (fault_here k (Ok tt) ps gs W ps' gs' W' h d)));
        model = rw (add-one k, ← h.model) (rw z at d.model);
        finite = step_finite N ws ps xs ts rate gs W ps' gs' W' d;
        size_p = p ∙ h.size_p;
        size_g = q ∙ h.size_g;
        size_w = s ∙ h.size_w;
        rests = rests_more ws ps₀ ps gs₀ W₀ gs W gs' W' h.size_p h.rests d.rests;
      }

  -- step k is refused: the model is as the k steps before it left it
  pub steps_stopped : (steps k : ℕ) (e : Refusal) (ps gs W ps' gs' W' : List Float) → k < steps → Going k ps gs W
      → StepDone N ws ps xs ts rate gs W (Err e) ps' gs' W'
      → StepsDone N ws ps₀ xs ts steps rate gs₀ W₀ (Err (record { refusal = e; done = k })) ps' gs' W'
  steps_stopped steps k e ps gs W ps' gs' W' l h d =
      let here = sym (fault_here k (Err e) ps gs W ps' gs' W' h d) in
      let wrong = refused (fault_at N ps₀ ws xs ts rate k) 0 e here in
      let first = first_stop (fault_at N ps₀ ws xs ts rate) k steps l h.sound wrong in
      let done = done_stop (fault_at N ps₀ ws xs ts rate) k steps l h.sound wrong in
      let unmoved = past_stopped (step_fault N ps ws xs ts rate) (stepped N ps ws xs ts rate) ps
      (refused (step_fault N ps ws xs ts rate) 0 e (sym d.answer)) in
      record {
        answer = rw (first, done) (stopped (fault_at N ps₀ ws xs ts rate k) 0 k e here);
        model = rw (done, ← h.model) (d.model ∙ unmoved);
        rests = rests_more ws ps₀ ps gs₀ W₀ gs W gs' W' h.size_p h.rests d.rests;
      }

  pub steps_all : (steps k : ℕ) (ps gs W : List Float) → k ≡ steps → Going k ps gs W
      → StepsDone N ws ps₀ xs ts steps rate gs₀ W₀ (Ok steps) ps gs W
  steps_all steps k ps gs W e h =
      let none : first_to (fault_at N ps₀ ws xs ts rate) steps ≡ 0 = rw e at h.sound in
      let done = done_all (fault_at N ps₀ ws xs ts rate) steps none in
      record { answer = rw (none, done); model = rw (done, ← e) h.model; rests = h.rests }
