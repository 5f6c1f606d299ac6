-- R17.5: a step is two calls, accumulating into +0.0 and then applying. Assumes nothing.
use Prim.Native.Nat.{ℕ, zero, suc, ◌*◌}
use native.Mathlib.Nat.{mul-pos}
use native.Mathlib.Omega.{arith}
use mathlib.Core.Path.{◌≡◌, refl, sym, ap, ◌∙◌}
use mathlib.Core.Bool.{Bool, true, cond}
use mathlib.Core.List.{List}
use lib.Dec.{eqb, leb}
use lib.ListN.{length}
use lib.Ieee.{Float}
use borrow.Author.Tests.{eq-eqb, ne_eqb, le-leb}
use Rattle.floats.specs.Binary32.{zero32}
use Rattle.floats.specs.Sums.{zeros, all_to, all_finite}
use Rattle.floats.proofs.Loops.{tab_length}
use Rattle.refusals.specs.Refusals.{◌otherwise◌, ◌then◌, first_to, done_to, past, Outcome, outcome_of}
use Rattle.refusals.proofs.Firsts.{both_pass}
use Rattle.spline.specs.declared.Grid.{Grid}
use Rattle.layers.specs.Net.{Net}
use Rattle.layers.specs.Widths.{output_width}
use Rattle.batches.proofs.Rows.{batch_sound}
use Rattle.passes.specs.Pass.{from11_to18, rows_of, finite_row}
use Rattle.config.specs.Config.{parameters_for, carried_by}
use Rattle.admission.specs.Admission.{up_to8, up_to9_for_nodes, up_to9_in_training}
use Rattle.admission.proofs.Passed.{past9_for_nodes}
use Rattle.update.specs.Update.{rate_sound, moved_of}
use Rattle.training_step.specs.Step.{gradient_of, stepped, step_fault}
use Rattle.training.specs.Train.{from11_to19, model_after, up_to19, train_fault, train_done, Stepped}
use Rattle.split_training.specs.Accumulating.{total_fault, from11_to28, up_to28, accumulate_fault, Accumulated}
use Rattle.split_training.specs.Applying.{from10_to23, apply_fault, Applied}
use Rattle.split_demands.specs.Joined.{first_refusal, unless_refused}
use Rattle.split_demands.proofs.Rows.{whole_of}
use Rattle.split_demands.proofs.Taken.{Taken, taken, done_added, gathered_length}
use Rattle.split_demands.proofs.Taken.{input_some, output_some, past_8, total_passes}

-- ---- `apply` past 11: 19, and then 23
pub apply_fault_lem : (ws : List ℕ) (g : Grid) (ps gs : List Float) (rate : Float) → up_to8 ws g (length ps) ≡ 0
    → length gs ≡ parameters_for ws g → all_finite ps ≡ true
    → apply_fault ws g ps gs rate ≡ (rate_sound rate otherwise 19 then all_finite (moved_of ps gs rate) otherwise 23)
unfolding apply_fault from10_to23
apply_fault_lem ws g ps gs rate to8 long finite = rw (to8, eq-eqb (length gs) (parameters_for ws g) long, finite)

-- ---- a step: the model moved, or as it was
module _ (N : Net) (ws : List ℕ) (g : Grid) (ps xs ts : List Float) (rate : Float) (gs W : List Float) where
  pub step_model : model_after N ps ws xs ts rate (train_done N ws g ps xs ts rate gs W 1)
      ≡ past (train_fault N ws g ps xs ts rate gs W 1) (stepped N ps ws xs ts rate) ps
  unfolding train_done train_fault first_to done_to model_after
  step_model = go (up_to19 N ws g ps xs ts rate gs W) _
    where
      go : (checks fault : ℕ) → model_after N ps ws xs ts rate (past checks (cond (eqb fault 0) 1 0) 0)
          ≡ past (checks then fault) (stepped N ps ws xs ts rate) ps
      go zero zero = refl
      go zero (suc n) = rw (ne_eqb (suc n) 0 (λ e. omega arith))
      go (suc n) fault = refl

-- ---- two calls, the second where the first is not refused
first_of_two : (n m carried : ℕ) (second : Outcome) → (n ≡ 0 → second ≡ outcome_of m carried)
    → outcome_of (n then m) carried ≡ first_refusal (outcome_of n carried) second
first_of_two zero m carried second h = sym (h refl)
first_of_two (suc n) m carried second h = refl

left_by_two : (n m carried : ℕ) (new left old : List Float) → (n ≡ 0 → left ≡ past m new old)
    → past (n then m) new old ≡ unless_refused (outcome_of n carried) left old
left_by_two zero m carried new left old h = sym (h refl)
left_by_two (suc n) m carried new left old h = refl

-- ---- the checks of a step, and those of the two calls with 23 behind them
two_in_one : (to9 to18 told after : ℕ) (fits same sound rows : Bool) → (to9 ≡ 0 → fits ≡ true) → (to9 ≡ 0 → same ≡ true)
    → (to9 ≡ 0 → to18 ≡ 0 → told ≡ 0) → sound ≡ true
    → (((to9 then fits otherwise 9) then to18 then sound otherwise 19) then rows otherwise 20 then after)
    ≡ (((to9 then same otherwise 10 then to18 then told) then rows otherwise 20) then after)
two_in_one (suc n) to18 told after fits same sound rows a b c d = refl
two_in_one zero (suc n) told after fits same sound rows a b c d = rw (a refl, b refl)
two_in_one zero zero told after fits same sound rows a b c d = rw (a refl, b refl, c refl refl, d)

-- ---- a step
module _ (N : Net) (ws : List ℕ) (g : Grid) (ps xs ts : List Float) (rate : Float) (W U gs : List Float)
    (roomy : length U ≡ length W) (many : length gs ≡ length ps) (sound : rate_sound rate ≡ true) where
  abbrev P : ℕ
  P = parameters_for ws g

  abbrev total : ℕ
  total = rows_of ws xs * output_width ws

  abbrev to9 : ℕ
  to9 = up_to9_for_nodes ws g (length ps) (length W)

  abbrev fault : ℕ
  fault = accumulate_fault N ws g ps xs ts total (zeros (length ps)) W

  as_many : to9 ≡ 0 → length ps ≡ P
  as_many e = (past9_for_nodes ws g (length ps) (length W) e).model

  -- 28 does not come: the total is the number of targets
  total_sound : to9 ≡ 0 → from11_to18 ps ws xs ts ≡ 0 → total_fault total ≡ 0
  unfolding from11_to18
  total_sound e f =
      let size = (past9_for_nodes ws g (length ps) (length W) e).size in
      let b = batch_sound _ _ xs ts (input_some size) (output_some size) (both_pass (all_finite ps otherwise 11) _ f).1 in
      total_passes total (mul-pos b.some (output_some size)) (rw (whole_of _ _ xs ts b).targets at b.few)

  same_9 : up_to9_in_training ws g (length ps) (length gs) (length U) ≡ to9
  unfolding up_to9_in_training
  same_9 = rw (roomy, many) (go to9 as_many)
    where
      go : (n : ℕ) → (n ≡ 0 → length ps ≡ P) → (n then leb P (length ps) otherwise 9) ≡ n
      go zero e = rw (le-leb P (length ps) (omega (arith, e refl)))
      go (suc n) e = refl

  abbrev after : ℕ
  after = all_finite (stepped N ps ws xs ts rate) otherwise 23

  step_fault_lem : train_fault N ws g ps xs ts rate gs U 1 ≡ (fault then after)
  unfolding train_fault up_to19 from11_to19 up_to9_in_training step_fault first_to model_after accumulate_fault up_to28 from11_to28
  step_fault_lem =
      rw roomy (two_in_one to9 (from11_to18 ps ws xs ts) (total_fault total) after (leb P (length gs))
      (eqb (length (zeros (length ps))) P) (rate_sound rate) (all_to (finite_row N ps ws xs) (rows_of ws xs))
      (λ e. le-leb P (length gs) (omega (arith, as_many e)))
      (λ e. eq-eqb (length (zeros (length ps))) P (tab_length (λ (i : ℕ). zero32) (length ps) ∙ as_many e)) total_sound sound)

  module _ {gs' : List Float} (clear : fault ≡ 0) (left : gs' ≡ gradient_of N ps ws xs ts) where
    abbrev accepted : Taken N ws g ps xs ts total (zeros (length ps)) W
    accepted = taken N ws g ps xs ts total (zeros (length ps)) W clear

    to8 : up_to8 ws g (length ps) ≡ 0
    to8 = past_8 ws g (length ps) (length W) accepted.to9

    applied_fault : apply_fault ws g ps gs' rate ≡ after
    unfolding stepped gradient_of
    applied_fault =
        apply_fault_lem ws g ps gs' rate to8 (ap length left ∙ gathered_length N ps ws xs ts _ _ _ _ ∙ accepted.long)
        accepted.finite ∙ rw (sound, left)

    applied_answer : outcome_of (apply_fault ws g ps gs' rate) (carried_by (up_to8 ws g (length ps)) P)
        ≡ outcome_of after (carried_by to9 P)
    applied_answer = rw (applied_fault, to8, accepted.to9)

    applied_model : past (apply_fault ws g ps gs' rate) (moved_of ps gs' rate) ps ≡ past after (stepped N ps ws xs ts rate) ps
    unfolding stepped
    applied_model = rw (applied_fault, left)

  module _ {r a s : Outcome} {gs' W' ps' ps'' gs'' U'' : List Float}
      (call : Accumulated N ws g ps xs ts total (zeros (length ps)) W r gs' W') (applied : Applied ws g ps gs' rate a ps')
      (step : Stepped N ws g ps xs ts rate gs U s ps'' gs'' U'') where
    left : fault ≡ 0 → gs' ≡ gradient_of N ps ws xs ts
    unfolding gradient_of
    left clear = done_added N ws g ps xs ts total (zeros (length ps)) W call clear

    pub step_answer : s ≡ first_refusal r a
    step_answer =
        step.answer ∙ rw (step_fault_lem, same_9, call.answer)
        (first_of_two fault after (carried_by to9 P) a (λ clear. applied.answer ∙ applied_answer clear (left clear)))

    pub step_left : ps'' ≡ unless_refused r ps' ps
    step_left =
        step.leaves.model ∙ step_model N ws g ps xs ts rate gs U ∙ rw (step_fault_lem, call.answer)
        (left_by_two fault after (carried_by to9 P) (stepped N ps ws xs ts rate) ps' ps
        (λ clear. applied.model ∙ applied_model clear (left clear)))
