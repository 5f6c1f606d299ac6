-- What the steps of adding a row to a layer's gradients by four values promise and ask; no part of the meaning.
-- Definitions only.
use Rattle.std.specs.Prelude.{ℕ, zero, suc, ◌+◌, ◌*◌, ◌≤◌, ◌<◌, ◌≡◌, Bool, true, not, List, ◌++◌, T, length, take, drop, set, Float}
use Rattle.std.specs.Float.{binary32}
use Rattle.std.specs.Float.Ieee.{fits}
use Rattle.floats.specs.Binary32.{◌⊕◌, ◌⊗◌}
use Rattle.floats.specs.Sums.{tabulate, all_to, at}
use Rattle.floats.specs.Zeros.{is_minus_zero}
use Rattle.spline.specs.declared.Grid.{Grid}
use Rattle.local_basis.specs.declared.Four.{Four}
use Rattle.layers.specs.Basis.{Basis}
use Rattle.fast_forward.specs.Inputs.{Parameters}
use Rattle.gradients.specs.Gradient.{slot_of}
use Rattle.gradients.specs.Steps.{plus_of}

-- each of the first n numbers is an f32 other than -0.0: a zero of either sign added to it leaves it as it was
abbrev pub Clean : ℕ → List Float → Type 0
Clean n ds = (k : ℕ) → k < n → T (fits binary32 (at ds k)) × T (not (is_minus_zero (at ds k)))

-- what a test of every number of a list for -0.0 answers
abbrev pub not_minus_zero : List Float → ℕ → Bool
not_minus_zero ds k = not (is_minus_zero (at ds k))

pub record Tested (ds : List Float) (r : Bool) : Type 0 where
  pub answer : r ≡ all_to (not_minus_zero ds) (length ds)
  pub clean : r ≡ true → Clean (length ds) ds

-- a layer's finite parameters, and as many gradients
pub record Gradients (g : Grid) (ps : List Float) (w n : ℕ) (ds : List Float) : Type 0 where
  pub layer : Parameters g ps w n
  pub there : n * (w * (g.intervals + 5)) ≤ length ds

-- u times the four values, added to the gradients of an edge's coefficients
abbrev pub added_one : List Float → ℕ → Float → List Float
added_one ds k y = set ds k (at ds k ⊕ y)

unfoldable pub four_added : List Float → Float → Four → List Float
four_added ds u r =
    let one = added_one ds r.start (u ⊗ r.first) in
    let two = added_one one (r.start + 1) (u ⊗ r.second) in
    let three = added_one two (r.start + 2) (u ⊗ r.third) in
    added_one three (r.start + 3) (u ⊗ r.fourth)

-- what the edge of output o and x, the i-th of w inputs, receives
abbrev pub input_slots : Basis → List Float → ℕ → ℕ → Float → List Float → ℕ → List Float
input_slots B ps w i x ups o = tabulate
    (slot_of B (drop (i * B.stride) (drop (o * (w * B.stride)) ps)) x (at ups o)) B.stride

-- ds with ys added from place a on
unfoldable pub plus_from : ℕ → List Float → List Float → List Float
plus_from a ds ys = take a ds ++ plus_of (drop a ds) ys

-- ds with f 0, f 1, .., f (n - 1) added, each from its place on
unfoldable pub plus_each : (ℕ → ℕ) → (ℕ → List Float) → List Float → ℕ → List Float
plus_each p f ds zero = ds
plus_each p f ds (suc n) = plus_from (p n) (plus_each p f ds n) (f n)
