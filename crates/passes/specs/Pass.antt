-- R8.6, R8.7: one row through all layers, each on the part of the model that begins at its own first edge (R2.6).
-- Definitions only.
use Rattle.std.specs.Prelude.{ℕ, zero, suc, ◌-◌, Bool, List, length, drop, Float}
use Rattle.floats.specs.Sums.{all_to, all_finite}
use Rattle.refusals.specs.Refusals.{◌otherwise◌, ◌then◌, first_to, done_to}
use Rattle.layers.specs.Net.{Net, basis_at}
use Rattle.layers.specs.Widths.{width_at, input_width, output_width, params_to}
use Rattle.layers.specs.Layer.{layer_of}
use Rattle.batches.specs.Batch.{rows_in, row_at, row_fault, batch_fault}

-- R8.6: the node values after l layers
unfoldable pub nodes_of : Net → List Float → List ℕ → List Float → ℕ → List Float
nodes_of N ps ws xs zero = xs
nodes_of N ps ws xs (suc l) =
    layer_of (basis_at N l) (drop (params_to N.stride ws l) ps) (nodes_of N ps ws xs l) (width_at ws (suc l))

abbrev pub outputs_of : Net → List Float → List ℕ → List Float → List Float
outputs_of N ps ws xs = nodes_of N ps ws xs (length ws - 1)

-- R8.7: 20, a node value not finite
abbrev pub finite_after : Net → List Float → List ℕ → List Float → ℕ → Bool
finite_after N ps ws xs l = all_finite (nodes_of N ps ws xs (suc l))

unfoldable pub nodes_finite : Net → List Float → List ℕ → List Float → Bool
nodes_finite N ps ws xs = all_to (finite_after N ps ws xs) (length ws - 1)

-- R5.5: a row's refusal on its way: 14, 15, 20 in that order
unfoldable pub row_refusal : Net → List Float → List ℕ → List Float → ℕ
row_refusal N ps ws xs = row_fault (input_width ws) 14 15 xs then nodes_finite N ps ws xs otherwise 20

-- ---- R5.1, R5.2: a flat batch: how many rows it has; whether row r's nodes are finite, its refusal, and its outputs
abbrev pub rows_of : List ℕ → List Float → ℕ
rows_of ws xs = rows_in (length xs) (input_width ws)

abbrev pub finite_row : Net → List Float → List ℕ → List Float → ℕ → Bool
finite_row N ps ws xs r = nodes_finite N ps ws (row_at xs (input_width ws) r)

abbrev pub refusal_at : Net → List Float → List ℕ → List Float → ℕ → ℕ
refusal_at N ps ws xs r = row_refusal N ps ws (row_at xs (input_width ws) r)

abbrev pub outputs_at : Net → List Float → List ℕ → List Float → ℕ → List Float
outputs_at N ps ws xs r = outputs_of N ps ws (row_at xs (input_width ws) r)

-- R5.5: row by row: the first refusal, and how many rows pass before it
abbrev pub rows_refusal : Net → List Float → List ℕ → List Float → ℕ
rows_refusal N ps ws xs = first_to (refusal_at N ps ws xs) (rows_of ws xs)

abbrev pub rows_done : Net → List Float → List ℕ → List Float → ℕ
rows_done N ps ws xs = done_to (refusal_at N ps ws xs) (rows_of ws xs)

-- R3.4: what loss and training check before their rows: 11, a parameter not finite, then the batch (R5.4)
unfoldable pub from11_to18 : List Float → List ℕ → List Float → List Float → ℕ
from11_to18 ps ws xs ts = all_finite ps otherwise 11 then batch_fault (input_width ws) (output_width ws) xs ts
