-- R10.4, R10.5: a row's gradients in all layers, from the outputs back. Definitions only.
use Rattle.std.specs.Prelude.{ℕ, zero, suc, ◌-◌, List, length, drop, Float}
use Rattle.floats.specs.Binary32.{◌⊖◌, ◌⊗◌}
use Rattle.floats.specs.Sums.{tabulate, flat_to, at}
use Rattle.layers.specs.Net.{Net, basis_at}
use Rattle.layers.specs.Widths.{width_at, params_to}
use Rattle.passes.specs.Pass.{nodes_of}
use Rattle.gradients.specs.Gradient.{back_layer, layer_slots}

-- R10.4: at the outputs: scale · (output - target)
abbrev pub output_gradient : List Float → List Float → Float → ℕ → Float
output_gradient os ts scale j = scale ⊗ (at os j ⊖ at ts j)

-- R10.5: the gradients at the nodes that layer l reads, k layers before the outputs: l + k is the number of layers
unfoldable pub ups_of : Net → List Float → List ℕ → List Float → List Float → Float → ℕ → ℕ → List Float
ups_of N ps ws xs ts scale l zero = tabulate (output_gradient (nodes_of N ps ws xs l) ts scale) (width_at ws l)
ups_of N ps ws xs ts scale l (suc k) =
    back_layer (basis_at N l) (drop (params_to N.stride ws l) ps) (nodes_of N ps ws xs l)
    (ups_of N ps ws xs ts scale (suc l) k)

-- R10.4: what layer l's parameters receive from a row, of `layers` layers in all
abbrev pub row_slots : Net → List Float → List ℕ → List Float → List Float → Float → ℕ → ℕ → List Float
row_slots N ps ws xs ts scale layers l =
    layer_slots (basis_at N l) (drop (params_to N.stride ws l) ps) (nodes_of N ps ws xs l)
    (ups_of N ps ws xs ts scale (suc l) (layers - suc l))

-- R10.4: all parameters, in the flat order (R2.6)
unfoldable pub row_gradient : Net → List Float → List ℕ → List Float → List Float → Float → List Float
row_gradient N ps ws xs ts scale = flat_to (row_slots N ps ws xs ts scale (length ws - 1)) (length ws - 1)
