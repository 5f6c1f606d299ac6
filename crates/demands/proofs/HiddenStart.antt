-- The start of `dot` is hidden from every call. Assumes nothing.
use mathlib.Core.Path.{◌≡◌, sym, ap, ◌∙◌}
use mathlib.Core.Bool.{cond}
use mathlib.Core.List.{List, []}
use Prim.Native.Nat.{ℕ, ◌+◌}
use lib.ListN.{length}
use lib.Ieee.{Float}
use Rattle.refusals.specs.Refusals.{◌then◌, past, outcome_of}
use Rattle.spline.specs.declared.Grid.{Grid}
use Rattle.layers.specs.Net.{net_of}
use Rattle.layers.specs.Widths.{parameters_in, widest_in}
use Rattle.config.specs.Config.{carried_by, row_carried}
use Rattle.touched_layer.specs.Touched.{blank}
use Rattle.passes.specs.Pass.{rows_of}
use Rattle.admission.specs.Admission.{up_to9, up_to9_in_training}
use Rattle.forward.specs.Forward.{in_first, fronted, forward_refusal, forward_part, forward_first, forward_second}
use Rattle.prediction.specs.Predict.{up_to11}
use Rattle.loss.specs.Loss.{loss_of, up_to18}
use Rattle.visit_map.specs.Visits.{map_up_to11, visit_refusal, visit_carried, visit_marks}
use Rattle.training.specs.Train.{training_of}
use Rattle.demands.specs.Start.{from_minus_zero, StartHidden}
use Rattle.demands.proofs.Start.{pass_start, outputs_start, rows_refusal_start, rows_done_start, outputs_over_start, marks_start}
use Rattle.demands.proofs.Start.{rows_loss_start, mean_start, train_fault_start, train_done_start, train_model_start}

module _ (ws : List ℕ) (g : Grid) (ps xs : List Float) where
  abbrev P : ℕ
  P = parameters_in (g.intervals + 5) ws

  module _ (a b : List Float) where
    abbrev to9 : ℕ
    to9 = up_to9 ws g (length ps) (length a) (length b)

    refusal : forward_refusal (net_of g) ws g ps xs a b ≡ forward_refusal (from_minus_zero g) ws g ps xs a b
    unfolding forward_refusal
    refusal i = to9 then pass_start (net_of g) ps ws xs i

    part : forward_part (net_of g) ws g ps xs a b ≡ forward_part (from_minus_zero g) ws g ps xs a b
    unfolding forward_part
    part i = past (to9 then pass_start (net_of g) ps ws xs i) (outputs_start (net_of g) ps ws xs i) []

    first : forward_first (net_of g) ws g ps xs a b ≡ forward_first (from_minus_zero g) ws g ps xs a b
    unfolding forward_first
    first i = past to9 (fronted (cond (in_first ws) (part i) []) (widest_in ws) a) a

    second : forward_second (net_of g) ws g ps xs a b ≡ forward_second (from_minus_zero g) ws g ps xs a b
    unfolding forward_second
    second i = past to9 (fronted (cond (in_first ws) [] (part i)) (widest_in ws) b) b

    module _ (ms : List ℕ) where
      abbrev checks : ℕ
      checks = map_up_to11 ws g ps (length a) (length b) (length ms)

      visit_refusal_lem : visit_refusal (net_of g) ws g ps xs a b ms ≡ visit_refusal (from_minus_zero g) ws g ps xs a b ms
      unfolding visit_refusal
      visit_refusal_lem i = checks then rows_refusal_start (net_of g) ps ws xs i

      visit_carried_lem : visit_carried (net_of g) ws g ps xs a b ms ≡ visit_carried (from_minus_zero g) ws g ps xs a b ms
      unfolding visit_carried
      visit_carried_lem i = past checks (rows_done_start (net_of g) ps ws xs i) (carried_by checks P)

      visit_marks_lem : visit_marks (net_of g) ws g ps xs a b ms ≡ visit_marks (from_minus_zero g) ws g ps xs a b ms
      unfolding visit_marks
      visit_marks_lem i =
          past checks (past (rows_refusal_start (net_of g) ps ws xs i) (marks_start (net_of g) ps ws xs (rows_of ws xs) P i) (blank P)) ms

  pub start_hidden : StartHidden ws g ps xs
  start_hidden =
      let N = net_of g in
      record {
        forward = λ a b. (refusal a b, part a b, first a b, second a b);
        predict = λ a b ys r s a' b' ys' a'' b'' ys'' p q. (
          p.answer ∙ (λ i. outcome_of (up_to11 N ws g ps xs a b ys then rows_refusal_start N ps ws xs i)
              (row_carried (up_to11 N ws g ps xs a b ys) P (rows_done_start N ps ws xs i)))
              ∙ sym q.answer,
          p.outputs ∙ ap (λ (new : List Float). past (up_to11 N ws g ps xs a b ys) new ys) (outputs_over_start N ps ws xs ys) ∙ sym q.outputs,
          p.first ∙ sym q.first,
          p.second ∙ sym q.second,
        );
        visit = λ a b ms r s a' b' ms' a'' b'' ms'' p q. (
          p.answer ∙ (λ i. outcome_of (visit_refusal_lem a b ms i) (visit_carried_lem a b ms i)) ∙ sym q.answer,
          p.map ∙ visit_marks_lem a b ms ∙ sym q.map,
          p.first ∙ sym q.first,
          p.second ∙ sym q.second,
        );
        loss = λ ts a b r s a' b' a'' b'' p q. (
          p.answer ∙ (λ i. loss_of (up_to18 N ws g ps xs ts a b then rows_loss_start N ps ws xs ts i)
              (carried_by (up_to9 ws g (length ps) (length a) (length b)) P) (mean_start N ps ws xs ts i))
              ∙ sym q.answer,
          p.first ∙ sym q.first,
          p.second ∙ sym q.second,
        );
        step = λ ts rate gs W r s ps' gs' W' ps'' gs'' W'' p q. (
          p.answer ∙ ap (λ (n : ℕ). outcome_of n (carried_by (up_to9_in_training ws g (length ps) (length gs) (length W)) P))
              (train_fault_start N ws ps xs ts rate g gs W 1)
              ∙ sym q.answer,
          p.leaves.model ∙ train_model_start N ws ps xs ts rate g gs W 1 ∙ sym q.leaves.model,
          p.leaves.gradients ∙ sym q.leaves.gradients,
          p.leaves.work ∙ sym q.leaves.work,
        );
        train = λ ts rate gs W steps r s ps' gs' W' ps'' gs'' W'' p q. (
          p.answer ∙ (λ i. training_of (train_fault_start N ws ps xs ts rate g gs W steps i)
              (carried_by (up_to9_in_training ws g (length ps) (length gs) (length W)) P)
              (train_done_start N ws ps xs ts rate g gs W steps i))
              ∙ sym q.answer,
          p.leaves.model ∙ train_model_start N ws ps xs ts rate g gs W steps ∙ sym q.leaves.model,
          p.leaves.gradients ∙ sym q.leaves.gradients,
          p.leaves.work ∙ sym q.leaves.work,
        );
      }
