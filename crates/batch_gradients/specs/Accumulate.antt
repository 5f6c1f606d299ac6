-- R10.3, R10.6: the scale of the gradients, and a batch's gradients added to a lent slice. Definitions only.
use Rattle.std.specs.Prelude.{ℕ, List, length, Float}
use Rattle.floats.specs.Binary32.{◌⊘◌, two32, whole32}
use Rattle.floats.specs.Sums.{sum_from, tabulate, at}
use Rattle.layers.specs.Net.{Net}
use Rattle.layers.specs.Widths.{input_width}
use Rattle.batches.specs.Batch.{row_at}
use Rattle.row_gradients.specs.Backward.{row_gradient}

-- R10.3: 2 over the number of target values, which is exact in f32 (R1.6)
abbrev pub scale_of : ℕ → Float
scale_of n = two32 ⊘ whole32 n

-- R10.4: what row r adds to cell p; v is the output width
abbrev pub cell_of : Net → List Float → List ℕ → List Float → List Float → ℕ → Float → ℕ → ℕ → Float
cell_of N ps ws xs ts v scale p r = at (row_gradient N ps ws (row_at xs (input_width ws) r) (row_at ts v r) scale) p

-- R10.6: the slice with all rows added, row by row
unfoldable pub gathered : Net → List Float → List ℕ → List Float → List Float → ℕ → Float → List Float → ℕ → List Float
gathered N ps ws xs ts v scale gs rows = tabulate (λ (p : ℕ). sum_from (at gs p) (cell_of N ps ws xs ts v scale p) rows) (length gs)
