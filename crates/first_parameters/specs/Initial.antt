-- R11.4: the first parameters of a model, in the flat order (R2.6), from one generator for all. Definitions only.
use Rattle.std.specs.Prelude.{ℕ, zero, suc, ◌+◌, ◌-◌, ◌*◌, List, ◌∷◌, length, Float}
use Rattle.std.specs.Float.{binary32}
use Rattle.std.specs.Float.Ieee.{of_bits}
use Rattle.floats.specs.Binary32.{◌⊗◌, ◌⊘◌, one32}
use Rattle.floats.specs.Sums.{tabulate, flat_to}
use Rattle.generator.specs.declared.SplitMix64.{SplitMix64}
use Rattle.generator.specs.Generator.{seeded_of, uniform_of}
use Rattle.generator.specs.Root.{root_of}
use Rattle.layers.specs.Widths.{width_at}

-- R11.1: the generator n draws later
unfoldable pub advanced_by : ℕ → SplitMix64 → SplitMix64
advanced_by zero G = G
advanced_by (suc n) G = (uniform_of (advanced_by n G)).next

-- R11.2: the numbers that `signed_uniform` makes of a generator's draws, counted from 0
unfoldable pub draw_at : SplitMix64 → ℕ → Float
draw_at G n = (uniform_of (advanced_by n G)).value

-- R11.4: 0.01
abbrev pub hundredth32 : Float
hundredth32 = of_bits binary32 0x3c23_d70a

-- R11.4: an edge and its g + 4 draws: base weight, draw 0 over the root of the input width; spline weight, 1.0; then
-- g + 3 coefficients, 0.01 times each draw after draw 0
unfoldable pub edge_initial : ℕ → Float → SplitMix64 → List Float
edge_initial g root G = (draw_at G 0 ⊘ root) ∷ one32 ∷ tabulate (λ (k : ℕ). hundredth32 ⊗ draw_at G (k + 1)) (g + 3)

-- R11.4: a layer of w inputs and n outputs: its edges one after the other, each with the draws after those of the edges
-- before it
unfoldable pub layer_initial : ℕ → ℕ → ℕ → SplitMix64 → List Float
layer_initial g w n G = flat_to (λ (e : ℕ). edge_initial g (root_of w) (advanced_by (e * (g + 4)) G)) (n * w)

-- R2.3: how many edges the first l layers have: in × out each
unfoldable pub edges_to : List ℕ → ℕ → ℕ
edges_to ws zero = 0
edges_to ws (suc l) = edges_to ws l + width_at ws (l + 1) * width_at ws l

-- R11.4: the whole model: its layers one after the other, each with the draws after those of all edges before it
unfoldable pub model_initial : List ℕ → ℕ → ℕ → List Float
model_initial ws g seed =
    flat_to (λ (l : ℕ). layer_initial g (width_at ws l) (width_at ws (l + 1)) (advanced_by (edges_to ws l * (g + 4)) (seeded_of seed)))
    (length ws - 1)
