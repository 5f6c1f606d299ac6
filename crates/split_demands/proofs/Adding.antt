-- One call of `accumulate` on two models that differ in silent coefficients: the same answer, work and gradients, which at those
-- coefficients stay +0.0 or a NaN. Assumes nothing.
use Prim.Native.Nat.{ℕ, zero, suc, ◌+◌, ◌*◌, ◌<◌}
use mathlib.Core.Path.{◌≡◌, refl, sym, ◌∙◌}
use mathlib.Core.Bool.{true}
use mathlib.Core.List.{List}
use lib.Dec.{eqb}
use lib.ListN.{length}
use lib.Ieee.{Float}
use Rattle.floats.specs.Sums.{at, all_to, all_finite}
use Rattle.refusals.specs.Refusals.{◌otherwise◌, ◌then◌, past, Outcome, outcome_of}
use Rattle.refusals.proofs.Firsts.{both_pass, test_passes}
use Rattle.spline.specs.declared.Grid.{Grid}
use Rattle.layers.specs.Net.{Net, net_of}
use Rattle.layers.specs.Widths.{input_width, output_width, nodes_in}
use Rattle.passes.specs.Pass.{from11_to18, rows_of, finite_row}
use Rattle.config.specs.Config.{parameters_for, carried_by}
use Rattle.admission.specs.Admission.{up_to9_for_nodes, swept}
use Rattle.batch_gradients.specs.Calls.{Full}
use Rattle.batch_gradients.specs.Accumulate.{scale_of, gathered}
use Rattle.demands.specs.Silent.{Places, Differ}
use Rattle.demands.specs.Readings.{StepReads}
use Rattle.demands.proofs.Tests.{past_checks}
use Rattle.demands.proofs.Losing.{full_rows}
use Rattle.demands.proofs.Gathered.{Still, passes_same, gathered_same, gathered_still}
use Rattle.demands.proofs.Demand.{two}
use Rattle.split_training.specs.Accumulating.{from11_to28, up_to28, accumulate_fault, Accumulated}

module _ (ws : List ℕ) (g : Grid) (D : Places) (ps qs : List Float) (differ : Differ (g.intervals + 5) D ps qs) where
  abbrev N : Net
  N = net_of g

  abbrev P : ℕ
  P = parameters_for ws g

  module _ (xs ts : List Float) (total : ℕ) (gs W : List Float)
      (reads : up_to28 N ws g ps xs ts total gs W ≡ 0 → StepReads N ws D ps xs) where
    abbrev fault : ℕ
    fault = accumulate_fault N ws g ps xs ts total gs W

    abbrev added : List Float → List Float
    added ms = gathered N ms ws xs ts (output_width ws) (scale_of total) gs (rows_of ws xs)

    checks_same : up_to28 N ws g ps xs ts total gs W ≡ up_to28 N ws g qs xs ts total gs W
    unfolding up_to28 from11_to28 from11_to18
    checks_same = rw (differ.finite.0, differ.finite.1, ← differ.size)

    full : up_to28 N ws g ps xs ts total gs W ≡ 0 → Full (input_width ws) xs (rows_of ws xs)
    unfolding up_to28 from11_to28 from11_to18
    full z =
        let after9 = (both_pass (up_to9_for_nodes ws g (length ps) (length W)) _ z).1 in
        let after10 = (both_pass (eqb (length gs) P otherwise 10) _ after9).1 in
        let to18 = (both_pass (from11_to18 ps ws xs ts) _ after10).0 in
        full_rows (input_width ws) (output_width ws) xs ts (both_pass (all_finite ps otherwise 11) _ to18).1

    fault_same : fault ≡ accumulate_fault N ws g qs xs ts total gs W
    unfolding accumulate_fault
    fault_same =
        rw (← checks_same) (past_checks (up_to28 N ws g ps xs ts total gs W) (λ n rows. n then rows otherwise 20) (λ m. refl) (λ z.
        passes_same (two ws g D ps qs differ) xs ts (full z) (reads z)))

    passed : fault ≡ 0 → (up_to28 N ws g ps xs ts total gs W ≡ 0) × (all_to (finite_row N ps ws xs) (rows_of ws xs) ≡ true)
    unfolding accumulate_fault
    passed clear =
        let both = both_pass (up_to28 N ws g ps xs ts total gs W) _ clear in
        (both.0, test_passes _ 19 both.1)

    left_same : past fault (added ps) gs ≡ past (accumulate_fault N ws g qs xs ts total gs W) (added qs) gs
    left_same =
        rw (← fault_same) (past_checks fault (λ n new. past n new gs) (λ m. refl) (λ clear.
        let z = passed clear in
        gathered_same (two ws g D ps qs differ) xs ts (full z.0) (reads z.0) z.1 (output_width ws) (scale_of total) gs))

    pub left_still : (p : ℕ) → D p ≡ true → p < length gs → Still (at gs p) → Still (at (past fault (added ps) gs) p)
    left_still p d inside still = go fault (λ clear. passed clear)
      where
        go : (n : ℕ) → (n ≡ 0 → (up_to28 N ws g ps xs ts total gs W ≡ 0) × (all_to (finite_row N ps ws xs) (rows_of ws xs) ≡ true))
            → Still (at (past n (added ps) gs) p)
        go zero z =
            gathered_still (two ws g D ps qs differ) xs ts (full (z refl).0) (reads (z refl).0) (z refl).1 (output_width ws)
            (scale_of total) gs p d inside still
        go (suc n) z = still

    abbrev answered : List Float → Outcome
    answered ms =
        outcome_of (accumulate_fault N ws g ms xs ts total gs W) (carried_by (up_to9_for_nodes ws g (length ms) (length W)) P)

    answered_same : answered ps ≡ answered qs
    answered_same = rw (fault_same, ← differ.size)

    work_same : swept (up_to9_for_nodes ws g (length ps) (length W)) (2 * nodes_in ws) W
        ≡ swept (up_to9_for_nodes ws g (length qs) (length W)) (2 * nodes_in ws) W
    work_same = rw (← differ.size)

    pub call_same : (r s : Outcome) (gs' W' gs'' W'' : List Float) → Accumulated N ws g ps xs ts total gs W r gs' W'
        → Accumulated N ws g qs xs ts total gs W s gs'' W'' → (r ≡ s) × (gs' ≡ gs'') × (W' ≡ W'')
    call_same r s gs' W' gs'' W'' p q = (
      p.answer ∙ answered_same ∙ sym q.answer,
      p.gradients ∙ left_same ∙ sym q.gradients,
      p.work ∙ work_same ∙ sym q.work,
    )
