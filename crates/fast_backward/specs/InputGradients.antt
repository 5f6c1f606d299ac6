-- What the steps of a layer backwards by four slopes promise and ask; no part of the meaning. Definitions only.
use Rattle.std.specs.Prelude.{ℕ, ◌+◌, ◌*◌, List, drop, Float}
use Rattle.floats.specs.Binary32.{◌⊗◌}
use Rattle.floats.specs.Sums.{at}
use Rattle.local_basis.specs.declared.Four.{Four}
use Rattle.layers.specs.Basis.{Basis}
use Rattle.fast_forward.specs.Inputs.{edge_four}
use Rattle.gradients.specs.Gradient.{back_of}

-- the gradient at x, the i-th of w inputs: the outputs in their order, from +0.0
abbrev pub back_at : Basis → List Float → ℕ → Float → List Float → ℕ → ℕ → Float
back_at B ps w x ups i o = back_of B (drop ((o * w + i) * B.stride) ps) x (at ups o)

-- the same from the rise of SiLU and four slopes at x, where the edges' parameters lie at `first` in rows of `row`
-- numbers
abbrev pub back_four : List Float → ℕ → ℕ → Float → Four → List Float → ℕ → Float
back_four ps row first s r ups o = at ups o ⊗ edge_four (drop first (drop (o * row) ps)) s r
