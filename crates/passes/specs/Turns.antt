-- R8.8: two work slices, which the layers write in turn, the first layer the first. What the steps of a row's pass
-- promise and ask. Definitions only.
use Rattle.std.specs.Prelude.{ℕ, ◌+◌, ◌-◌, ◌%◌, ◌≤◌, ◌<◌, ◌≡◌, Ok, cond, List, ◌++◌, eqb, length, take, drop, Float}
use Rattle.floats.specs.Sums.{all_finite}
use Rattle.refusals.specs.Refusals.{◌otherwise◌, Outcome, outcome_of}
use Rattle.spline.specs.declared.Grid.{Grid}
use Rattle.layers.specs.Basis.{Basis}
use Rattle.layers.specs.Net.{Net}
use Rattle.layers.specs.Widths.{width_at, params_to}
use Rattle.layers.specs.Layer.{layer_of}
use Rattle.layer_cursor.specs.Cursor.{Walkable}
use Rattle.fast_forward.specs.Inputs.{Parameters}
use Rattle.passes.specs.Pass.{outputs_of, nodes_finite, row_refusal}

-- of the two, the one that holds the values before layer l: the second for l = 0, 2, .., the first for l = 1, 3, ..
abbrev pub holder : ℕ → List Float → List Float → List Float
holder l first second = cond (eqb (l % 2) 0) second first

-- what a layer asks of the two slices, whichever way it goes
pub record Turns (g : Grid) (ps : List Float) (w n : ℕ) (a b : List Float) : Type 0 where
  pub layer : Parameters g ps w n
  pub from_first : w ≤ length a
  pub from_second : w ≤ length b
  pub to_first : n ≤ length a
  pub to_second : n ≤ length b

-- layer l reads w numbers of the holder and writes the n front numbers of the other; 20 where they are not finite
pub record Turned (B : Basis) (ps : List Float) (l w n : ℕ) (a b a' b' : List Float) (r : Outcome) : Type 0 where
  pub finite : r ≡ outcome_of (all_finite (layer_of B ps (take w (holder l a b)) n) otherwise 20) 0
  pub first : a' ≡ cond (eqb (l % 2) 0) (layer_of B ps (take w b) n ++ drop n a) a
  pub second : b' ≡ cond (eqb (l % 2) 0) b (layer_of B ps (take w a) n ++ drop n b)

-- every width is at most m
abbrev pub AtMost : List ℕ → ℕ → Type 0
AtMost ws m = (j : ℕ) → j < length ws → width_at ws j ≤ m

-- a work slice is as it was past the largest width
abbrev pub Past : List ℕ → List Float → List Float → Type 0
Past ws s s' = (m : ℕ) → AtMost ws m → drop m s' ≡ drop m s

-- the model, the widths and the two slices fit one another
pub record Fits (g : Grid) (ps : List Float) (ws : List ℕ) (a b : List Float) : Type 0 where
  pub walkable : Walkable g ws
  pub first : AtMost ws (length a)
  pub second : AtMost ws (length b)
  pub params : params_to (g.intervals + 5) ws (length ws - 1) ≤ length ps

-- all layers, from the numbers at the front of the second slice: 20 where a value is not finite, the outputs at the front of
-- the slice that holds them, and both slices as they were past the largest width
pub record Layered (N : Net) (ps : List Float) (ws : List ℕ) (xs a b a' b' : List Float) (r : Outcome) : Type 0 where
  pub finite : r ≡ outcome_of (nodes_finite N ps ws xs otherwise 20) 0
  pub outputs : r ≡ Ok tt → take (width_at ws (length ws - 1)) (holder (length ws - 1) a' b') ≡ outputs_of N ps ws xs
  pub first : Past ws a a'
  pub second : Past ws b b'

-- a row's whole pass
pub record Ran (N : Net) (ps : List Float) (ws : List ℕ) (xs a b a' b' : List Float) (r : Outcome) : Type 0 where
  pub refusal : r ≡ outcome_of (row_refusal N ps ws xs) 0
  pub outputs : r ≡ Ok tt → take (width_at ws (length ws - 1)) (holder (length ws - 1) a' b') ≡ outputs_of N ps ws xs
  pub first : Past ws a a'
  pub second : Past ws b b'
