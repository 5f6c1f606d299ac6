-- A batch with no fault is one that gradients can be taken of. Assumes nothing.
use mathlib.Core.Path.{sym}
use mathlib.Core.List.{List}
use Prim.Native.Nat.{ℕ}
use lib.Ieee.{Float}
use Rattle.layers.specs.Widths.{input_width, output_width}
use Rattle.batches.specs.Batch.{row_at}
use Rattle.batches.specs.Sound.{SoundBatch}
use Rattle.batches.proofs.Rows.{wide_row}
use Rattle.batch_gradients.specs.Calls.{FullRows}

pub full_rows : (ws : List ℕ) (xs ts : List Float) → SoundBatch (input_width ws) (output_width ws) xs ts
    → FullRows ws xs ts
full_rows ws xs ts b = record {
  same = sym b.same_rows;
  inputs = λ r h. wide_row (input_width ws) 13 15 (row_at xs (input_width ws) r) (b.inputs r h);
  targets = λ r h. wide_row (output_width ws) 15 17 (row_at ts (output_width ws) r) (b.targets r (rw b.same_rows at h));
}
