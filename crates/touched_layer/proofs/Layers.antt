-- How many bytes an edge, an output and a layer have. Assumes nothing.
use mathlib.Core.Path.{◌≡◌, ap, ◌∙◌}
use mathlib.Core.List.{List}
use Prim.Native.Nat.{ℕ, suc, ◌+◌, ◌*◌}
use native.Mathlib.Omega.{arith}
use lib.ListN.{length}
use lib.Ieee.{Float}
use Rattle.floats.proofs.Loops.{tab_length, flat_length}
use Rattle.spline.specs.declared.Grid.{Grid}
use Rattle.layers.specs.Net.{basis_of}
use Rattle.touched_layer.specs.Touched.{edge_touched, node_touched, layer_touched}

module _ (g : Grid) where
  pub edge_length : (x : Float) → length (edge_touched (basis_of g) x) ≡ g.intervals + 5
  unfolding edge_touched
  edge_length x =
      let two : suc (suc (g.intervals + 3)) ≡ g.intervals + 5 = omega arith in
      ap (λ (n : ℕ). suc (suc n)) (tab_length _ (g.intervals + 3)) ∙ two

  pub node_length : (xs : List Float) → length (node_touched (basis_of g) xs) ≡ length xs * (g.intervals + 5)
  unfolding node_touched
  node_length xs = flat_length _ (g.intervals + 5) (λ i. edge_length _) (length xs)

  pub layer_length : (xs : List Float) (n : ℕ)
      → length (layer_touched (basis_of g) xs n) ≡ n * (length xs * (g.intervals + 5))
  unfolding layer_touched
  layer_length xs n = flat_length _ (length xs * (g.intervals + 5)) (λ o. node_length xs) n
