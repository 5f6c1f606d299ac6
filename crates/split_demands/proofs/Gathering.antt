-- Gradients gathered from a batch, and then from another behind it, are those of the joined batch: a sum goes on where
-- another ended. Assumes nothing.
use Prim.Native.Nat.{ℕ, zero, suc, ◌+◌, ◌*◌, ◌<◌}
use native.Mathlib.Nat.{add-zero, add-suc}
use mathlib.Core.Path.{◌≡◌, sym, ap, ◌∙◌}
use mathlib.Core.List.{List, ◌++◌}
use lib.ListN.{length}
use lib.Ieee.{Float}
use Rattle.floats.specs.Binary32.{◌⊕◌}
use Rattle.floats.specs.Sums.{sum_from, at}
use Rattle.floats.proofs.Sums.{sum_ext}
use Rattle.floats.proofs.Loops.{tab_length, tab_ext}
use Rattle.layers.specs.Net.{Net}
use Rattle.layers.specs.Widths.{input_width}
use Rattle.batch_gradients.specs.Accumulate.{cell_of, gathered}
use Rattle.row_gradients.specs.Backward.{row_gradient}
use Rattle.demands.proofs.Cells.{table_at}
use Rattle.split_demands.proofs.Rows.{row_before, row_behind}

sum_on : (a : Float) (t : ℕ → Float) (n m : ℕ) → sum_from a t (n + m) ≡ sum_from (sum_from a t n) (λ k. t (n + k)) m
unfolding sum_from
sum_on a t n zero = rw (add-zero n)
sum_on a t n (suc m) = rw (add-suc n m) (ap (λ (x : Float). x ⊕ t (n + m)) (sum_on a t n m))

module _ (N : Net) (ps : List Float) (ws : List ℕ) (v : ℕ) (scale : Float) (k j : ℕ) (xs ts ys us : List Float)
    (inputs : length xs ≡ k * input_width ws) (targets : length ts ≡ k * v) where
  -- what a row of the joined batch adds to cell p
  cell_before : (p r : ℕ) → r < k → cell_of N ps ws (xs ++ ys) (ts ++ us) v scale p r ≡ cell_of N ps ws xs ts v scale p r
  cell_before p r h i =
      at (row_gradient N ps ws (row_before (input_width ws) k xs ys inputs r h i) (row_before v k ts us targets r h i) scale) p

  cell_behind : (p r : ℕ) → cell_of N ps ws (xs ++ ys) (ts ++ us) v scale p (k + r) ≡ cell_of N ps ws ys us v scale p r
  cell_behind p r i =
      at (row_gradient N ps ws (row_behind (input_width ws) k xs ys inputs r i) (row_behind v k ts us targets r i) scale) p

  pub gathered_on : (gs : List Float) → gathered N ps ws (xs ++ ys) (ts ++ us) v scale gs (k + j)
      ≡ gathered N ps ws ys us v scale (gathered N ps ws xs ts v scale gs k) j
  unfolding gathered
  gathered_on gs =
      let after : ℕ → Float = λ p. sum_from (at gs p) (cell_of N ps ws xs ts v scale p) k in
      rw (tab_length after (length gs)) (tab_ext _ _ (length gs) (λ p h.
      let both = cell_of N ps ws (xs ++ ys) (ts ++ us) v scale p in
      sum_on (at gs p) both k j
      ∙ ap (λ (a : Float). sum_from a (λ r. both (k + r)) j)
      (sum_ext (at gs p) both _ k (cell_before p) ∙ sym (table_at after (length gs) p h))
      ∙ sum_ext _ (λ r. both (k + r)) _ j (λ r l. cell_behind p r)))
