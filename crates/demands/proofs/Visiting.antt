-- The visit map of two models that differ in silent coefficients. Assumes nothing.
use Prim.Native.Nat.{ℕ, zero, suc, ◌+◌, ◌-◌, ◌<◌}
use native.Mathlib.Nat.{lt-suc_self}
use native.Mathlib.Omega.{arith}
use mathlib.Core.Path.{◌≡◌, refl, sym, ap, ◌∙◌}
use mathlib.Core.Bool.{Bool, false}
use mathlib.Core.List.{List}
use lib.ListN.{length, get_or}
use lib.Ieee.{Float}
use Rattle.floats.proofs.Loops.{tab_ext}
use Rattle.refusals.specs.Refusals.{◌then◌, past, outcome_of}
use Rattle.refusals.proofs.Firsts.{both_pass, test_passes, first_clear, first_before}
use Rattle.spline.specs.declared.Grid.{Grid}
use Rattle.layers.specs.Net.{Net, net_of, basis_at}
use Rattle.layers.specs.Widths.{width_at, input_width, parameters_in}
use Rattle.config.specs.Config.{row_carried}
use Rattle.batches.specs.Batch.{row_at, row_fault}
use Rattle.passes.specs.Pass.{rows_of, finite_after, nodes_finite, row_refusal, refusal_at, rows_refusal}
use Rattle.passes.proofs.Rows.{full}
use Rattle.gradients.proofs.Adding.{flat_ext}
use Rattle.touched_layer.specs.Touched.{layer_touched, blank}
use Rattle.touched_row.specs.Touched.{row_touched}
use Rattle.visit_map.specs.Visits.{any_to, touched_in, byte_of, marks_of, map_up_to11, visit_refusal, visit_carried, visit_marks}
use Rattle.demands.specs.Silent.{Places, Differ}
use Rattle.demands.specs.Readings.{RowReads, PredictReads}
use Rattle.demands.specs.Alike.{SameVisit}
use Rattle.demands.proofs.Tests.{past_checks}
use Rattle.demands.proofs.Places.{Siblings}
use Rattle.demands.proofs.Passes.{all_before, nodes_same}
use Rattle.demands.proofs.Predicting.{rows_refusal_same, rows_done_same}
use Rattle.demands.proofs.Demand.{two, swept_same}

any_same : (f h : ℕ → Bool) (n : ℕ) → ((r : ℕ) → r < n → f r ≡ h r) → any_to f n ≡ any_to h n
unfolding any_to
any_same f h zero e = refl
any_same f h (suc n) e = rw (any_same f h n (λ r l. e r (omega arith)), e n (lt-suc_self n))

module _ {N : Net} {ws : List ℕ} {D : Places} {ps qs : List Float} (two : Siblings N ws D ps qs) where
  -- a row that is not refused touches the same, since its edges read the same
  touched_same : (xs : List Float) → RowReads N ws D ps xs → row_refusal N ps ws xs ≡ 0
      → row_touched N ps ws xs ≡ row_touched N qs ws xs
  unfolding row_touched row_refusal nodes_finite
  touched_same xs reads clear =
      let both = both_pass (row_fault (input_width ws) 14 15 xs) _ clear in
      let finite = test_passes (nodes_finite N ps ws xs) 19 both.1 in
      let wide = full (input_width ws) xs both.0 in
      flat_ext _ _ (length ws - 1) (λ l h.
      ap (λ (ns : List Float). layer_touched (basis_at N l) ns (width_at ws (l + 1)))
      (nodes_same two xs wide (reads both.0) l (omega arith) (all_before (finite_after N ps ws xs) l (length ws - 1) (omega arith) finite)))

  module _ (xs : List Float) (reads : PredictReads N ws D ps xs) where
    marks_same : (n : ℕ) → rows_refusal N ps ws xs ≡ 0 → marks_of N ps ws xs (rows_of ws xs) n ≡ marks_of N qs ws xs (rows_of ws xs) n
    unfolding marks_of
    marks_same n clear =
        tab_ext _ _ n (λ p h.
        ap byte_of (any_same (touched_in N ps ws xs p) (touched_in N qs ws xs p) (rows_of ws xs) (λ r l.
        ap (λ (bs : List Bool). get_or bs p false) (touched_same (row_at xs (input_width ws) r)
        (reads r l (first_before (refusal_at N ps ws xs) r (rows_of ws xs) (omega arith) clear))
        (first_clear (refusal_at N ps ws xs) (rows_of ws xs) clear r l)))))

    -- the marks of all rows, or none where one is refused
    all_marks_same : (n : ℕ)
        → past (rows_refusal N ps ws xs) (marks_of N ps ws xs (rows_of ws xs) n) (blank n)
        ≡ past (rows_refusal N qs ws xs) (marks_of N qs ws xs (rows_of ws xs) n) (blank n)
    all_marks_same n =
        rw (← rows_refusal_same two xs reads)
        (past_checks (rows_refusal N ps ws xs) (λ m marks. past m marks (blank n)) (λ m. refl) (marks_same n))

-- ---- the whole call
module _ (ws : List ℕ) (g : Grid) (D : Places) (ps qs : List Float) (differ : Differ (g.intervals + 5) D ps qs) (xs : List Float)
    (reads : PredictReads (net_of g) ws D ps xs) (a b : List Float) (ms : List ℕ) where
  abbrev N : Net
  N = net_of g

  abbrev P : ℕ
  P = parameters_in (g.intervals + 5) ws

  pair : Siblings N ws D ps qs
  pair = two ws g D ps qs differ

  checks_same : map_up_to11 ws g ps (length a) (length b) (length ms) ≡ map_up_to11 ws g qs (length a) (length b) (length ms)
  unfolding map_up_to11
  checks_same = rw (differ.finite.0, differ.finite.1, ← differ.size)

  refusal_same : visit_refusal N ws g ps xs a b ms ≡ visit_refusal N ws g qs xs a b ms
  unfolding visit_refusal
  refusal_same i = checks_same i then rows_refusal_same pair xs reads i

  carried_same : visit_carried N ws g ps xs a b ms ≡ visit_carried N ws g qs xs a b ms
  unfolding visit_carried
  carried_same i = row_carried (checks_same i) P (rows_done_same pair xs reads i)

  map_same : visit_marks N ws g ps xs a b ms ≡ visit_marks N ws g qs xs a b ms
  unfolding visit_marks
  map_same i = past (checks_same i) (all_marks_same pair xs reads P i) ms

  pub visit_same : SameVisit N N ws g ps qs xs a b ms
  visit_same r s a' b' ms' a'' b'' ms'' p q = (
    p.answer ∙ (λ i. outcome_of (refusal_same i) (carried_same i)) ∙ sym q.answer,
    p.map ∙ map_same ∙ sym q.map,
    p.first ∙ swept_same ws g D ps qs differ xs a b a ∙ sym q.first,
    p.second ∙ swept_same ws g D ps qs differ xs a b b ∙ sym q.second,
  )
