-- R10.4, R10.5: one layer of a row's gradients, cell by cell, sums in the stated order. Definitions only.
use Rattle.std.specs.Prelude.{ℕ, zero, suc, ◌+◌, ◌*◌, List, length, drop, Float}
use Rattle.floats.specs.Binary32.{◌⊕◌, ◌⊗◌}
use Rattle.floats.specs.Sums.{sum_to, tabulate, flat_to, at}
use Rattle.layers.specs.Basis.{Basis}
use Rattle.layers.specs.Layer.{dot_of}

-- ---- one edge whose parameters begin the list, at the input x, with what comes from above
-- R10.4: what a row adds to the gradient of its s-th parameter: base weight, spline weight, coefficients
unfoldable pub slot_of : Basis → List Float → Float → Float → ℕ → Float
slot_of B ps x up zero = up ⊗ B.silu x
slot_of B ps x up (suc zero) = up ⊗ dot_of B B.value (drop 2 ps) x
slot_of B ps x up (suc (suc k)) = up ⊗ at ps 1 ⊗ B.value k x

-- R10.5: what it hands back to its input
unfoldable pub back_of : Basis → List Float → Float → Float → Float
back_of B ps x up = up ⊗ ((at ps 0 ⊗ B.silu_slope x) ⊕ (at ps 1 ⊗ dot_of B B.slope (drop 2 ps) x))

-- ---- one layer of inputs xs whose parameters begin the list, with upstream gradients ups
-- R10.5: the gradient at input i: the outputs in their order, from +0.0
abbrev pub input_gradient : Basis → List Float → List Float → List Float → ℕ → Float
input_gradient B ps xs ups i =
    sum_to (λ (o : ℕ). back_of B (drop ((o * length xs + i) * B.stride) ps) (at xs i) (at ups o)) (length ups)

unfoldable pub back_layer : Basis → List Float → List Float → List Float → List Float
back_layer B ps xs ups = tabulate (input_gradient B ps xs ups) (length xs)

-- R10.4: what the layer's parameters receive, edges output by output, input by input (R2.6)
abbrev pub edge_slots : Basis → List Float → List Float → Float → ℕ → List Float
edge_slots B ps xs up i = tabulate (slot_of B (drop (i * B.stride) ps) (at xs i) up) B.stride

abbrev pub node_slots : Basis → List Float → List Float → List Float → ℕ → List Float
node_slots B ps xs ups o = flat_to (edge_slots B (drop (o * (length xs * B.stride)) ps) xs (at ups o)) (length xs)

unfoldable pub layer_slots : Basis → List Float → List Float → List Float → List Float
layer_slots B ps xs ups = flat_to (node_slots B ps xs ups) (length ups)
