-- R17.5: parts accumulated in order, none of them refused: one batch's rows, all added. Assumes nothing.
use Rattle.std.specs.Prelude.{Ok}
use Prim.Native.Nat.{ℕ, ◌+◌, ◌<◌}
use native.Mathlib.Nat.{zero-mul}
use native.Mathlib.Omega.{arith}
use mathlib.Core.Path.{◌≡◌, sym, ap, ◌∙◌, subst}
use mathlib.Core.Bool.{true}
use mathlib.Core.List.{List, [], ◌∷◌, ◌++◌}
use lib.ListN.{length}
use lib.Ieee.{Float}
use Rattle.floats.proofs.Loops.{all_each}
use Rattle.refusals.specs.Refusals.{Outcome}
use Rattle.spline.specs.declared.Grid.{Grid}
use Rattle.layers.specs.Net.{Net}
use Rattle.layers.specs.Widths.{input_width, output_width}
use Rattle.batches.proofs.Rows.{batch_sound}
use Rattle.passes.specs.Pass.{nodes_finite, rows_of, finite_row}
use Rattle.admission.proofs.Passed.{past9_for_nodes}
use Rattle.batch_gradients.specs.Accumulate.{scale_of, gathered}
use Rattle.batch_gradients.proofs.Gathered.{gathered_none}
use Rattle.split_training.specs.Accumulating.{Accumulated}
use Rattle.split_demands.specs.Chains.{Part, Chain}
use Rattle.split_demands.specs.Joined.{joined_inputs, joined_targets, AllDone, Stating}
use Rattle.split_demands.proofs.Rows.{Whole, each_row, whole_of, whole_join}
use Rattle.split_demands.proofs.Gathering.{gathered_on}
use Rattle.split_demands.proofs.Taken.{Taken, taken, done_clear, done_added, input_some, output_some}

-- ---- the first part is told n
pub first_told : (n : ℕ) (first : Part) (parts : List Part) → Stating n (first ∷ parts) → first.total ≡ n
unfolding Stating
first_told n first parts s = s.0

module _ (N : Net) (ws : List ℕ) (g : Grid) (ps : List Float) where
  -- ---- parts in order, none refused, each told the total n: k rows in all
  pub record Gone (n k : ℕ) (xs ts gs gs' : List Float) : Type 0 where
    pub whole : Whole (input_width ws) (output_width ws) k xs ts
    pub finite : (r : ℕ) → r < k → finite_row N ps ws xs r ≡ true
    pub left : gs' ≡ gathered N ps ws xs ts (output_width ws) (scale_of n) gs k

  gone_one : (part : Part) (n : ℕ) (gs : List Float) {r : Outcome} {left work : List Float} → part.total ≡ n
      → Accumulated N ws g ps part.inputs part.targets part.total gs part.work r left work → r ≡ Ok tt
      → Gone n (rows_of ws part.inputs) part.inputs part.targets gs left
  gone_one part n gs told call done =
      let xs = part.inputs in
      let ts = part.targets in
      let clear = done_clear N ws g ps xs ts part.total gs part.work call done in
      let t = taken N ws g ps xs ts part.total gs part.work clear in
      let size = (past9_for_nodes ws g (length ps) (length part.work) t.to9).size in
      record {
        whole = whole_of _ _ xs ts (batch_sound _ _ xs ts (input_some size) (output_some size) t.batch);
        finite = all_each (finite_row N ps ws xs) (rows_of ws xs) t.rows;
        left = rw (← told) (done_added N ws g ps xs ts part.total gs part.work call clear);
      }

  -- one part, and others that go on where it ended
  gone_more : {n k j : ℕ} {xs ts ys us gs mid gs' : List Float} → Gone n k xs ts gs mid → Gone n j ys us mid gs'
      → Gone n (k + j) (xs ++ ys) (ts ++ us) gs gs'
  gone_more {n} {k} {j} {xs} {ts} {ys} {us} {gs} {mid} a b =
      record {
        whole = whole_join a.whole b.whole;
        finite = each_row (input_width ws) k xs ys a.whole.inputs (λ row. nodes_finite N ps ws row ≡ true) j a.finite
            b.finite;
        left = b.left
            ∙ ap (λ (m : List Float). gathered N ps ws ys us (output_width ws) (scale_of n) m j) a.left
            ∙ sym (gathered_on N ps ws (output_width ws) (scale_of n) k j xs ts ys us a.whole.inputs a.whole.targets gs);
      }

  gone_none : (n : ℕ) (gs : List Float) → Gone n 0 [] [] gs gs
  gone_none n gs =
      record {
        whole = record {
          inputs = sym (zero-mul (input_width ws));
          targets = sym (zero-mul (output_width ws));
          sound_inputs = λ r h. absurd (omega arith);
          sound_targets = λ r h. absurd (omega arith);
        };
        finite = λ r h. absurd (omega arith);
        left = gathered_none N ps ws [] [] (output_width ws) (scale_of n) gs;
      }

  pub gone_all : (n : ℕ) (parts : List Part) (rs : List Outcome) (gs gs' : List Float) → Chain N ws g ps parts gs rs gs'
      → AllDone rs → Stating n parts → (k : ℕ) × Gone n k (joined_inputs parts) (joined_targets parts) gs gs'
  unfolding Chain AllDone Stating joined_inputs joined_targets
  gone_all n [] [] gs gs' e d s = (0, subst (λ (left : List Float). Gone n 0 [] [] gs left) (sym e) (gone_none n gs))
  gone_all n [] (r ∷ rs) gs gs' e d s = absurd e
  gone_all n (part ∷ parts) [] gs gs' e d s = absurd e
  gone_all n (part ∷ parts) (r ∷ rs) gs gs' c d s =
      let rest = gone_all n parts rs c.left gs' c.rest d.1 s.1 in
      (rows_of ws part.inputs + rest.0, gone_more (gone_one part n gs s.0 c.made d.0) rest.1)

  -- the first call's checks tell of the configuration, the model and the total
  pub gone_begun : (first : Part) (parts : List Part) (rs : List Outcome) (gs gs' : List Float)
      → Chain N ws g ps (first ∷ parts) gs rs gs' → AllDone rs
      → Taken N ws g ps first.inputs first.targets first.total gs first.work
  unfolding Chain AllDone
  gone_begun first parts [] gs gs' c d = absurd c
  gone_begun first parts (r ∷ rs) gs gs' c d =
      taken N ws g ps first.inputs first.targets first.total gs first.work
      (done_clear N ws g ps first.inputs first.targets first.total gs first.work c.made d.0)
