-- R12.2, R12.3: which parameters a layer touches, in the flat order: what the visit map is made of. Definitions only.
use Rattle.std.specs.Prelude.{ℕ, Bool, true, ◌||◌, List, ◌∷◌, length, Float}
use Rattle.std.specs.Float.Ieee.{ne}
use Rattle.floats.specs.Binary32.{zero32}
use Rattle.floats.specs.Sums.{tabulate, flat_to, at}
use Rattle.layers.specs.Basis.{Basis}

-- R12.3: a coefficient's basis value or its slope is not zero, by the comparison of f32: -0.0 is zero, an infinity and a
-- NaN are not (R1.5)
unfoldable pub touches_by : Float → Float → Bool
touches_by value slope = ne value zero32 || ne slope zero32

-- R12.3: coefficient k at x
unfoldable pub touches : Basis → ℕ → Float → Bool
touches B k x = touches_by (B.value k x) (B.slope k x)

-- R12.2, R12.3: an edge that reads x: both weights, then the coefficients
unfoldable pub edge_touched : Basis → Float → List Bool
edge_touched B x = true ∷ true ∷ tabulate (λ (k : ℕ). touches B k x) B.coefficients

-- R2.6: edges output by output, input by input: one output, then a layer of n outputs, that reads xs
unfoldable pub node_touched : Basis → List Float → List Bool
node_touched B xs = flat_to (λ (i : ℕ). edge_touched B (at xs i)) (length xs)

unfoldable pub layer_touched : Basis → List Float → ℕ → List Bool
layer_touched B xs n = flat_to (λ (o : ℕ). node_touched B xs) n

-- R12.4: n bytes 0
abbrev pub blank : ℕ → List ℕ
blank n = tabulate (λ (p : ℕ). 0) n
