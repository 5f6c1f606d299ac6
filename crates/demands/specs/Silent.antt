-- R17.1: what demand 3 supposes: two models of one configuration, all parameters finite, which differ only in
-- coefficients that are silent at every number that their edges read before the call ends. Definitions only.
use Rattle.std.specs.Prelude.{ℕ, suc, ◌+◌, ◌*◌, ◌%◌, ◌≤◌, ◌<◌, ◌≡◌, Bool, true, false, List, T, length, Float}
use Rattle.std.specs.Float.{binary32}
use Rattle.std.specs.Float.Ieee.{fits}
use Rattle.floats.specs.Sums.{at, all_to, all_finite}
use Rattle.floats.specs.Zeros.{is_zero}
use Rattle.layers.specs.Basis.{Basis}
use Rattle.layers.specs.Net.{Net, basis_at}
use Rattle.layers.specs.Widths.{width_at, params_to}
use Rattle.passes.specs.Pass.{nodes_of, finite_after}

-- R2.6: a set of places of the flat model
abbrev pub Places : Type 0
Places = ℕ → Bool

-- R2.6: where parameter s of the edge from input i to output o of layer l stands, `per` of them an edge
abbrev pub place_of : ℕ → List ℕ → ℕ → ℕ → ℕ → ℕ → ℕ
place_of per ws l o i s = params_to per ws l + (o * (width_at ws l * per) + (i * per + s))

-- R17.1: two models of one length, of finite f32, that differ only at places of the set, all of them coefficients
pub record Differ (per : ℕ) (D : Places) (ps qs : List Float) : Type 0 where
  pub size : length ps ≡ length qs
  pub finite : (all_finite ps ≡ true) × (all_finite qs ≡ true)
  pub within : (p : ℕ) → D p ≡ true → p < length ps
  pub coefficient : (p : ℕ) → D p ≡ true → 2 ≤ p % per
  pub others : (p : ℕ) → D p ≡ false → at ps p ≡ at qs p
  -- that they are f32, as all that lies in a slice of them is
  pub floats : (p : ℕ) → D p ≡ true → T (fits binary32 (at ps p)) × T (fits binary32 (at qs p))

-- R17.1, R1.5: the k-th coefficient of an edge is silent at x: its basis value and slope are zero, +0.0 or -0.0
abbrev pub Silent : Basis → ℕ → Float → Type 0
Silent B k x = T (is_zero (B.value k x)) × T (is_zero (B.slope k x))

-- R8.7: layer l reads the row xs: no layer before it was refused
abbrev pub Reaches : Net → List Float → List ℕ → List Float → ℕ → Type 0
Reaches N ps ws xs l = all_to (finite_after N ps ws xs) l ≡ true

-- R17.1: silent at every number that the edges read of the row xs on the model ps
abbrev pub RowSilent : Net → List ℕ → Places → List Float → List Float → Type 0
RowSilent N ws D ps xs =
    (l o i k : ℕ) → suc l < length ws → o < width_at ws (suc l) → i < width_at ws l → k < N.coefficients
    → D (place_of N.stride ws l o i (2 + k)) ≡ true → Reaches N ps ws xs l
    → Silent (basis_at N l) k (at (nodes_of N ps ws xs l) i)
