-- What a call of `accumulate` that nothing refuses has, and what it leaves. Assumes nothing.
use Rattle.std.specs.Prelude.{Ok}
use Prim.Native.Nat.{ℕ, zero, suc, ◌-◌, ◌≤◌, ◌<◌}
use native.Mathlib.Omega.{arith}
use mathlib.Core.Path.{◌≡◌, refl, sym, ap, ◌∙◌}
use mathlib.Core.Bool.{true, not}
use mathlib.Core.List.{List}
use lib.Dec.{eqb}
use lib.ListN.{length}
use lib.Ieee.{Float}
use borrow.Author.Tests.{eqb-true, eqb-false, ne_eqb, le-leb, not-true}
use Rattle.floats.specs.Sums.{all_to, all_finite}
use Rattle.floats.proofs.Loops.{tab_length}
use Rattle.refusals.specs.Refusals.{◌otherwise◌, past, Outcome}
use Rattle.refusals.proofs.Firsts.{both_pass, test_passes, not_refused}
use Rattle.spline.specs.declared.Grid.{Grid}
use Rattle.layers.specs.Net.{Net}
use Rattle.layers.specs.Widths.{input_width, output_width}
use Rattle.batches.specs.Batch.{batch_fault}
use Rattle.passes.specs.Pass.{from11_to18, rows_of, finite_row}
use Rattle.config.specs.Config.{parameters_for}
use Rattle.config.specs.Sized.{Sized}
use Rattle.admission.specs.Admission.{up_to8, up_to9_for_nodes}
use Rattle.batch_gradients.specs.Accumulate.{scale_of, gathered}
use Rattle.split_training.specs.Accumulating.{total_fault, from11_to28, up_to28, accumulate_fault, Accumulated}

-- ---- the widths of an accepted configuration
pub input_some : {ws : List ℕ} {g : Grid} → Sized ws g → 0 < input_width ws
input_some s = s.positive 0 (omega (arith, s.some))

pub output_some : {ws : List ℕ} {g : Grid} → Sized ws g → 0 < output_width ws
output_some {ws} s = s.positive (length ws - 1) (omega (arith, s.some))

-- ---- past 8, and past 28
pub past_8 : (ws : List ℕ) (g : Grid) (n work : ℕ) → up_to9_for_nodes ws g n work ≡ 0 → up_to8 ws g n ≡ 0
unfolding up_to9_for_nodes
past_8 ws g n work e = (both_pass (up_to8 ws g n) _ e).0

pub total_some : (total : ℕ) → total_fault total ≡ 0 → 0 < total
unfolding total_fault
total_some total e =
    let none : (total ≡ 0 → ⊥) =
    eqb-false total 0 (not-true _ (test_passes (not (eqb total 0)) 27 (both_pass (not (eqb total 0) otherwise 28) _ e).0)) in
    omega arith

pub total_passes : (total : ℕ) → 0 < total → total ≤ 16777216 → total_fault total ≡ 0
unfolding total_fault
total_passes total some few = rw (ne_eqb total 0 (λ e. omega arith), le-leb total 16777216 few)

-- ---- what is left is as long as what was lent
pub gathered_length : (N : Net) (ps : List Float) (ws : List ℕ) (xs ts : List Float) (v : ℕ) (scale : Float) (gs : List Float)
    (n : ℕ) → length (gathered N ps ws xs ts v scale gs n) ≡ length gs
unfolding gathered
gathered_length N ps ws xs ts v scale gs n = tab_length _ (length gs)

past_length : (n : ℕ) (new old : List Float) → length new ≡ length old → length (past n new old) ≡ length old
past_length zero new old e = e
past_length (suc n) new old e = refl

module _ (N : Net) (ws : List ℕ) (g : Grid) (ps xs ts : List Float) (total : ℕ) (gs W : List Float) where
  -- every check passed
  pub record Taken : Type 0 where
    pub to9 : up_to9_for_nodes ws g (length ps) (length W) ≡ 0
    pub long : length gs ≡ parameters_for ws g
    pub finite : all_finite ps ≡ true
    pub batch : batch_fault (input_width ws) (output_width ws) xs ts ≡ 0
    pub stated : total_fault total ≡ 0
    pub rows : all_to (finite_row N ps ws xs) (rows_of ws xs) ≡ true

  pub taken : accumulate_fault N ws g ps xs ts total gs W ≡ 0 → Taken
  unfolding accumulate_fault up_to28 from11_to28 from11_to18
  taken e =
      let rows = both_pass (up_to28 N ws g ps xs ts total gs W) _ e in
      let after9 = both_pass (up_to9_for_nodes ws g (length ps) (length W)) _ rows.0 in
      let after10 = both_pass (eqb (length gs) (parameters_for ws g) otherwise 10) _ after9.1 in
      let after18 = both_pass (from11_to18 ps ws xs ts) _ after10.1 in
      let after11 = both_pass (all_finite ps otherwise 11) _ after18.0 in
      record {
        to9 = after9.0;
        long = eqb-true (length gs) _ (test_passes _ 9 after10.0);
        finite = test_passes _ 10 after11.0;
        batch = after11.1;
        stated = after18.1;
        rows = test_passes _ 19 rows.1;
      }

  -- the gradients of such a call, and of any
  abbrev added : List Float
  added = gathered N ps ws xs ts (output_width ws) (scale_of total) gs (rows_of ws xs)

  module _ {r : Outcome} {gs' W' : List Float} (call : Accumulated N ws g ps xs ts total gs W r gs' W') where
    pub done_clear : r ≡ Ok tt → accumulate_fault N ws g ps xs ts total gs W ≡ 0
    done_clear e = not_refused _ _ (sym call.answer ∙ e)

    pub done_added : accumulate_fault N ws g ps xs ts total gs W ≡ 0 → gs' ≡ added
    done_added e = call.gradients ∙ ap (λ (n : ℕ). past n added gs) e

    pub call_length : length gs' ≡ length gs
    call_length =
        ap length call.gradients
        ∙ past_length (accumulate_fault N ws g ps xs ts total gs W) added gs (gathered_length N ps ws xs ts _ _ gs _)
