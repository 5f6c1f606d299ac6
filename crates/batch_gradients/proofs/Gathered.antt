-- The gradients of a batch's first rows, and of one row more. Assumes nothing.
use mathlib.Core.Path.{◌≡◌, sym, ap, ◌∙◌}
use mathlib.Core.List.{List, append-nil}
use Prim.Native.Nat.{ℕ, ◌+◌, ◌<◌}
use native.Mathlib.Numerals.{add-one}
use lib.ListN.{length}
use lib.Seq.{drop-length}
use lib.Ieee.{Float, nan}
use Rattle.floats.specs.Binary32.{◌⊕◌}
use Rattle.floats.specs.Sums.{sum_from, tabulate, at}
use Rattle.floats.proofs.Loops.{tab_length, tab_ext, table_get, tab_self}
use Rattle.layers.specs.Net.{Net}
use Rattle.layers.specs.Widths.{input_width}
use Rattle.batches.specs.Batch.{row_at}
use Rattle.gradients.specs.Steps.{plus_at, plus_of}
use Rattle.row_gradients.specs.Backward.{row_gradient}
use Rattle.batch_gradients.specs.Accumulate.{cell_of, gathered}

module _ (N : Net) (ps : List Float) (ws : List ℕ) (xs ts : List Float) (v : ℕ) (scale : Float) (gs : List Float) where
  pub gathered_none : gs ≡ gathered N ps ws xs ts v scale gs 0
  unfolding gathered sum_from
  gathered_none = sym (tab_self gs nan)

  -- cell p with the first n rows added
  abbrev cell_after : ℕ → ℕ → Float
  cell_after n p = sum_from (at gs p) (cell_of N ps ws xs ts v scale p) n

  -- what row r adds
  abbrev row_adds : ℕ → List Float
  row_adds r = row_gradient N ps ws (row_at xs (input_width ws) r) (row_at ts v r) scale

  pub gathered_more : (r : ℕ) (e e' : List Float) → e ≡ gathered N ps ws xs ts v scale gs r
      → length (row_adds r) ≡ length gs → e' ≡ plus_of e (row_adds r) → e' ≡ gathered N ps ws xs ts v scale gs (r + 1)
  unfolding gathered plus_of sum_from
  gathered_more r e e' p l q =
      let f = cell_after r in
      let f' = cell_after (r + 1) in
      let long : length e ≡ length gs = ap length p ∙ tab_length f (length gs) in
      let there : (k : ℕ) → k < length gs → at (tabulate f (length gs)) k ≡ f k =
      λ k h. table_get f (length gs) k nan h in
      let cell : (k : ℕ) → k < length gs → plus_at e (row_adds r) k ≡ f' k =
      λ k h. rw (add-one r, p) (ap (λ (x : Float). x ⊕ cell_of N ps ws xs ts v scale k r) (there k h)) in
      q ∙ rw (l, ← long, drop-length e, append-nil) (rw long (tab_ext (plus_at e (row_adds r)) f' (length gs) cell))
