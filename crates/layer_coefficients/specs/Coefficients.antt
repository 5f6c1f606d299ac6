-- R2.6, R18.7: one layer's coefficients, in the flat model and as words: edge after edge, the edges of one output together, so
-- that they are in row order of a shape (out, in, g + 3). Definitions only.
use Rattle.std.specs.Prelude.{ℕ, ◌+◌, ◌*◌, ◌-◌, List, ◌++◌, ltb, length, take, drop, Float}
use Rattle.floats.specs.Sums.{flat_to}
use Rattle.refusals.specs.Refusals.{◌otherwise◌, ◌then◌}
use Rattle.spline.specs.declared.Grid.{Grid}
use Rattle.layers.specs.Widths.{width_at, params_to}
use Rattle.words.specs.Words.{floats_in, packed_floats}
use Rattle.admission.specs.Admission.{up_to8}

-- R3.4, R18.8: the configuration, 8, and then 37, there is no layer l
unfoldable pub up_to37 : List ℕ → Grid → ℕ → ℕ → ℕ
up_to37 ws g model l = up_to8 ws g model then ltb l (length ws - 1) otherwise 37

-- ---- R2.6: where layer l begins, and how many edges it has
abbrev pub layer_at : List ℕ → Grid → ℕ → ℕ
layer_at ws g l = params_to (g.intervals + 5) ws l

abbrev pub edges_of : List ℕ → ℕ → ℕ
edges_of ws l = width_at ws (l + 1) * width_at ws l

-- ---- R18.7: of n edges that begin at a place of a model, each two weights and g + 3 coefficients
-- as words: the coefficients, edge after edge
unfoldable pub body_of : List Float → ℕ → ℕ → ℕ → List ℕ
body_of ps from g n = flat_to (λ (e : ℕ). packed_floats (take (g + 3) (drop (from + e * (g + 5) + 2) ps))) n

-- from words: each edge's weights as they were, and its coefficients from the words of its turn
unfoldable pub edge_from : List Float → ℕ → ℕ → List ℕ → ℕ → List Float
edge_from ps from g body e = take 2 (drop (from + e * (g + 5)) ps) ++ floats_in (drop (e * (4 * (g + 3))) body) (g + 3)

-- and all else as it was
unfoldable pub replaced : List Float → ℕ → ℕ → ℕ → List ℕ → List Float
replaced ps from g n body =
    take from ps ++ (flat_to (edge_from ps from g body) n ++ drop (from + n * (g + 5)) ps)
