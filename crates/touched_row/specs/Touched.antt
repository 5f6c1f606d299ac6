-- R12.3: which parameters a row touches, layer by layer in the flat order. Definitions only.
use Rattle.std.specs.Prelude.{ℕ, ◌+◌, ◌-◌, Bool, List, length, Float}
use Rattle.floats.specs.Sums.{flat_to}
use Rattle.layers.specs.Net.{Net, basis_at}
use Rattle.layers.specs.Widths.{width_at}
use Rattle.passes.specs.Pass.{nodes_of}
use Rattle.touched_layer.specs.Touched.{layer_touched}

-- R12.3: all layers: layer l reads the values of the layers before
unfoldable pub row_touched : Net → List Float → List ℕ → List Float → List Bool
row_touched N ps ws xs =
    flat_to (λ (l : ℕ). layer_touched (basis_at N l) (nodes_of N ps ws xs l) (width_at ws (l + 1))) (length ws - 1)
