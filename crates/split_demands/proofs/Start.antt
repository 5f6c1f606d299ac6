-- R17.7: `accumulate` from +0.0 and from -0.0 of `dot`, where gradients are lent. Assumes nothing.
use Prim.Native.Nat.{ℕ}
use mathlib.Core.Path.{◌≡◌, sym, ap, ◌∙◌}
use mathlib.Core.List.{List}
use lib.ListN.{length}
use lib.Ieee.{Float}
use Rattle.floats.specs.Sums.{all_to}
use Rattle.refusals.specs.Refusals.{◌otherwise◌, ◌then◌, past, outcome_of}
use Rattle.spline.specs.declared.Grid.{Grid}
use Rattle.layers.specs.Net.{net_of}
use Rattle.layers.specs.Widths.{input_width, output_width}
use Rattle.batches.specs.Batch.{row_at}
use Rattle.passes.specs.Pass.{rows_of}
use Rattle.config.specs.Config.{parameters_for, carried_by}
use Rattle.admission.specs.Admission.{up_to9_for_nodes}
use Rattle.batch_gradients.specs.Accumulate.{scale_of, gathered}
use Rattle.demands.specs.Start.{from_minus_zero}
use Rattle.demands.proofs.Start.{finite_start, gathered_start}
use Rattle.split_training.specs.Accumulating.{up_to28, accumulate_fault}
use Rattle.split_demands.specs.Start.{NoMinusZero, StartAccumulating}

module _ (ws : List ℕ) (g : Grid) (ps xs ts : List Float) (total : ℕ) (gs W : List Float) where
  abbrev carried : ℕ
  carried = carried_by (up_to9_for_nodes ws g (length ps) (length W)) (parameters_for ws g)

  fault_start : accumulate_fault (net_of g) ws g ps xs ts total gs W ≡ accumulate_fault (from_minus_zero g) ws g ps xs ts total gs W
  unfolding accumulate_fault up_to28
  fault_start i =
      up_to28 (net_of g) ws g ps xs ts total gs W
      then all_to (λ (r : ℕ). finite_start (net_of g) ps ws (row_at xs (input_width ws) r) i) (rows_of ws xs) otherwise 20

  added_start : NoMinusZero gs → gathered (net_of g) ps ws xs ts (output_width ws) (scale_of total) gs (rows_of ws xs)
      ≡ gathered (from_minus_zero g) ps ws xs ts (output_width ws) (scale_of total) gs (rows_of ws xs)
  added_start clean =
      gathered_start (net_of g) ps ws xs ts (output_width ws) (scale_of total) gs (rows_of ws xs)
      (λ p h. record { held = (clean p h).0; plus = (clean p h).1 })

  pub start_accumulating : StartAccumulating (net_of g) (from_minus_zero g) ws g ps xs ts total gs W
  start_accumulating =
      record {
        answer = λ r s gs' W' gs'' W'' p q. (
          p.answer ∙ ap (λ (n : ℕ). outcome_of n carried) fault_start ∙ sym q.answer,
          p.work ∙ sym q.work,
        );
        hidden = λ clean r s gs' W' gs'' W'' p q.
            p.gradients ∙ (λ i. past (fault_start i) (added_start clean i) gs) ∙ sym q.gradients;
      }
