-- Demand 3. Assumes nothing.
use Prim.Native.Nat.{ℕ, zero, suc, ◌+◌}
use native.Mathlib.Omega.{arith}
use mathlib.Core.Path.{◌≡◌, refl, sym, ◌∙◌}
use mathlib.Core.List.{List, []}
use lib.ListN.{length}
use lib.Ieee.{Float}
use Rattle.floats.specs.Sums.{all_finite}
use Rattle.floats.proofs.Sums.{plain_zero}
use Rattle.refusals.specs.Refusals.{◌otherwise◌, ◌then◌, past, outcome_of}
use Rattle.refusals.proofs.Firsts.{both_pass}
use Rattle.spline.specs.declared.Grid.{Grid}
use Rattle.layers.specs.Net.{Net, net_of}
use Rattle.layers.specs.Widths.{input_width, output_width, parameters_in, widest_in}
use Rattle.config.specs.Config.{carried_by, row_carried}
use Rattle.admission.specs.Admission.{up_to9, up_to9_in_training, swept}
use Rattle.passes.specs.Pass.{rows_of, rows_refusal, rows_done, from11_to18}
use Rattle.batch_gradients.specs.Calls.{Full}
use Rattle.forward.specs.Forward.{forward_refusal, forward_part, forward_first, forward_second}
use Rattle.prediction.specs.Predict.{from10_to11, outputs_over, up_to11, predict_answer}
use Rattle.loss.specs.Loss.{up_to18, loss_answer}
use Rattle.training.specs.Train.{from11_to19, model_after, training_of, up_to19, train_fault, train_done}
use Rattle.demands.specs.Silent.{Places, Differ}
use Rattle.demands.specs.Readings.{RowReads, PredictReads, LossReads, TrainReads}
use Rattle.demands.specs.Alike.{LeftAlike}
use Rattle.demands.specs.Demand.{Demand}
use Rattle.demands.proofs.Tests.{past_checks}
use Rattle.demands.proofs.Places.{Siblings}
use Rattle.demands.proofs.Passes.{nodes_same, reached_same}
use Rattle.demands.proofs.Predicting.{pass_same, pass_outputs_same, rows_refusal_same, rows_done_same, outputs_over_same}
use Rattle.demands.proofs.Losing.{full_rows, rows_loss_same, mean_same, loss_answers}
use Rattle.demands.proofs.Training.{left_none, full, above, faults_same, steps_done_same, models_left}

-- outputs behind some checks and a refusal of their own
parts : (checks n m : ℕ) (os us : List Float) → (checks ≡ 0 → past n os [] ≡ past m us [])
    → past (checks then n) os [] ≡ past (checks then m) us []
parts zero n m os us h = h refl
parts (suc k) n m os us h = refl

module _ (ws : List ℕ) (g : Grid) (D : Places) (ps qs : List Float) (differ : Differ (g.intervals + 5) D ps qs) where
  abbrev N : Net
  N = net_of g

  pub two : Siblings N ws D ps qs
  two = record { begins = plain_zero; edge = omega arith; differ = differ }

  module _ (xs a b : List Float) where
    abbrev to9 : ℕ
    to9 = up_to9 ws g (length ps) (length a) (length b)

    -- a work slice
    pub swept_same : (s : List Float) → swept to9 (widest_in ws) s ≡ swept (up_to9 ws g (length qs) (length a) (length b)) (widest_in ws) s
    swept_same s = rw (← differ.size)

    -- ---- a single `forward`
    module _ (reads : to9 ≡ 0 → RowReads N ws D ps xs) where
      refusal_same : forward_refusal N ws g ps xs a b ≡ forward_refusal N ws g qs xs a b
      unfolding forward_refusal
      refusal_same =
          rw (← differ.size) (past_checks to9 (λ n r. n then r) (λ m. refl) (λ z. pass_same two xs (reads z)))

      part_same : forward_part N ws g ps xs a b ≡ forward_part N ws g qs xs a b
      unfolding forward_part
      part_same = rw (← differ.size) (parts to9 _ _ _ _ (λ z. pass_outputs_same two xs (reads z)))

      first_same : forward_first N ws g ps xs a b ≡ forward_first N ws g qs xs a b
      unfolding forward_first
      first_same = rw (part_same, ← differ.size)

      second_same : forward_second N ws g ps xs a b ≡ forward_second N ws g qs xs a b
      unfolding forward_second
      second_same = rw (part_same, ← differ.size)

    -- ---- prediction
    module _ (ys : List Float) (reads : up_to11 N ws g ps xs a b ys ≡ 0 → PredictReads N ws D ps xs) where
      checks_same : up_to11 N ws g ps xs a b ys ≡ up_to11 N ws g qs xs a b ys
      unfolding from10_to11
      checks_same = rw (differ.finite.0, differ.finite.1, ← differ.size)

      outcome_same : predict_answer N ws g ps xs a b ys ≡ predict_answer N ws g qs xs a b ys
      outcome_same =
          rw (← checks_same) (past_checks (up_to11 N ws g ps xs a b ys)
          (λ n (x : ℕ × ℕ). outcome_of (n then x.0) (row_carried n (parameters_in (g.intervals + 5) ws) x.1))
          {x = (rows_refusal N ps ws xs, rows_done N ps ws xs)} {y = (rows_refusal N qs ws xs, rows_done N qs ws xs)} (λ m. refl)
          (λ z i. (rows_refusal_same two xs (reads z) i, rows_done_same two xs (reads z) i)))

      rows_same : past (up_to11 N ws g ps xs a b ys) (outputs_over N ps ws xs ys) ys
          ≡ past (up_to11 N ws g qs xs a b ys) (outputs_over N qs ws xs ys) ys
      rows_same =
          rw (← checks_same) (past_checks (up_to11 N ws g ps xs a b ys) (λ n new. past n new ys) (λ m. refl)
          (λ z. outputs_over_same two xs (reads z) ys))

    -- ---- the loss
    module _ (ts : List Float) (reads : up_to18 N ws g ps xs ts a b ≡ 0 → LossReads N ws D ps xs ts) where
      before_rows : up_to18 N ws g ps xs ts a b ≡ up_to18 N ws g qs xs ts a b
      unfolding from11_to18
      before_rows = rw (differ.finite.0, differ.finite.1, ← differ.size)

      rows_full : up_to18 N ws g ps xs ts a b ≡ 0 → Full (input_width ws) xs (rows_of ws xs)
      unfolding from11_to18
      rows_full z =
          full_rows (input_width ws) (output_width ws) xs ts (both_pass (all_finite ps otherwise 11) _ (both_pass to9 _ z).1).1

      loss_same : loss_answer N ws g ps xs ts a b ≡ loss_answer N ws g qs xs ts a b
      loss_same =
          rw (← before_rows, ← differ.size) (loss_answers (up_to18 N ws g ps xs ts a b) _ _ _ _ _
          (λ z. rows_loss_same two xs ts (rows_full z) (reads z)) (λ z. mean_same two xs ts (rows_full z) (reads z)))

  -- ---- training
  module _ (xs ts : List Float) (rate : Float) (gs W : List Float) where
    abbrev to9_in_training : ℕ
    to9_in_training = up_to9_in_training ws g (length ps) (length gs) (length W)

    cleared_same : (needed : ℕ) (s : List Float)
        → swept to9_in_training needed s ≡ swept (up_to9_in_training ws g (length qs) (length gs) (length W)) needed s
    cleared_same needed s = rw (← differ.size)

    start_same : up_to19 N ws g ps xs ts rate gs W ≡ up_to19 N ws g qs xs ts rate gs W
    unfolding up_to19 from11_to18 from11_to19
    start_same = rw (differ.finite.0, differ.finite.1, ← differ.size)

    started : up_to19 N ws g ps xs ts rate gs W ≡ 0 → from11_to19 ps ws xs ts rate ≡ 0
    unfolding up_to19
    started z = (both_pass to9_in_training _ z).1

    module _ (steps : ℕ) (reads : up_to19 N ws g ps xs ts rate gs W ≡ 0 → TrainReads N ws D ps xs ts rate steps) where
      fault_alike : train_fault N ws g ps xs ts rate gs W steps ≡ train_fault N ws g qs xs ts rate gs W steps
      unfolding train_fault
      fault_alike =
          rw (← start_same) (past_checks (up_to19 N ws g ps xs ts rate gs W) (λ n fault. n then fault) (λ m. refl) (λ z.
          faults_same two xs ts rate steps (full two xs ts rate steps (started z)) (above two xs ts rate steps (started z)) (reads z)))

      done_alike : train_done N ws g ps xs ts rate gs W steps ≡ train_done N ws g qs xs ts rate gs W steps
      unfolding train_done
      done_alike =
          rw (← start_same) (past_checks (up_to19 N ws g ps xs ts rate gs W) (λ n done. past n done 0) (λ m. refl) (λ z.
          steps_done_same two xs ts rate steps (full two xs ts rate steps (started z)) (above two xs ts rate steps (started z)) (reads z)))

      abbrev carries : ℕ → ℕ
      carries n = carried_by (up_to9_in_training ws g n (length gs) (length W)) (parameters_in (g.intervals + 5) ws)

      stepped_same : outcome_of (train_fault N ws g ps xs ts rate gs W steps) (carries (length ps))
          ≡ outcome_of (train_fault N ws g qs xs ts rate gs W steps) (carries (length qs))
      stepped_same = rw (fault_alike, ← differ.size)

      trained_same : training_of (train_fault N ws g ps xs ts rate gs W steps) (carries (length ps)) (train_done N ws g ps xs ts rate gs W steps)
          ≡ training_of (train_fault N ws g qs xs ts rate gs W steps) (carries (length qs)) (train_done N ws g qs xs ts rate gs W steps)
      trained_same = rw (fault_alike, done_alike, ← differ.size)

      left_by : (n : ℕ) (k m : ℕ) → (n ≡ 0 → LeftAlike D ps qs (model_after N ps ws xs ts rate k) (model_after N qs ws xs ts rate m))
          → LeftAlike D ps qs (model_after N ps ws xs ts rate (past n k 0)) (model_after N qs ws xs ts rate (past n m 0))
      unfolding model_after
      left_by zero k m h = h refl
      left_by (suc n) k m h = left_none differ

      models_alike : LeftAlike D ps qs (model_after N ps ws xs ts rate (train_done N ws g ps xs ts rate gs W steps))
          (model_after N qs ws xs ts rate (train_done N ws g qs xs ts rate gs W steps))
      unfolding train_done
      models_alike =
          rw (← start_same) (left_by (up_to19 N ws g ps xs ts rate gs W) _ _ (λ z.
          models_left two xs ts rate steps (full two xs ts rate steps (started z)) (above two xs ts rate steps (started z)) (reads z)))

  -- R17.1: both models are answered alike
  pub demand_3 : Demand ws g D ps qs
  demand_3 =
      record {
        readings = λ xs wide silent l h reached. (
          sym (reached_same two xs wide silent l h) ∙ reached,
          nodes_same two xs wide silent l h reached,
        );
        forward = λ xs a b reads. (
          refusal_same xs a b reads,
          part_same xs a b reads,
          first_same xs a b reads,
          second_same xs a b reads,
        );
        predict = λ xs a b ys reads r s a' b' ys' a'' b'' ys'' p q. (
          p.answer ∙ outcome_same xs a b ys reads ∙ sym q.answer,
          p.outputs ∙ rows_same xs a b ys reads ∙ sym q.outputs,
          p.first ∙ swept_same xs a b a ∙ sym q.first,
          p.second ∙ swept_same xs a b b ∙ sym q.second,
        );
        loss = λ xs ts a b reads r s a' b' a'' b'' p q. (
          p.answer ∙ loss_same xs a b ts reads ∙ sym q.answer,
          p.first ∙ swept_same xs a b a ∙ sym q.first,
          p.second ∙ swept_same xs a b b ∙ sym q.second,
        );
        step = λ xs ts rate gs W reads r s ps' gs' W' qs' gs'' W'' p q. (
          p.answer ∙ stepped_same xs ts rate gs W 1 reads ∙ sym q.answer,
          rw (p.leaves.model, q.leaves.model) (models_alike xs ts rate gs W 1 reads),
          p.leaves.gradients ∙ cleared_same xs ts rate gs W _ gs ∙ sym q.leaves.gradients,
          p.leaves.work ∙ cleared_same xs ts rate gs W _ W ∙ sym q.leaves.work,
        );
        train = λ xs ts rate gs W steps reads r s ps' gs' W' qs' gs'' W'' p q. (
          p.answer ∙ trained_same xs ts rate gs W steps reads ∙ sym q.answer,
          rw (p.leaves.model, q.leaves.model) (models_alike xs ts rate gs W steps reads),
          p.leaves.gradients ∙ cleared_same xs ts rate gs W _ gs ∙ sym q.leaves.gradients,
          p.leaves.work ∙ cleared_same xs ts rate gs W _ W ∙ sym q.leaves.work,
        );
      }
