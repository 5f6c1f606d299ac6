-- What the two calls of this crate ask and promise of a row in its work. Definitions only.
use Rattle.std.specs.Prelude.{ℕ, ◌+◌, ◌*◌, ◌≤◌, ◌<◌, ◌≡◌, Bool, cond, ◌&&◌, List, length, drop, Float, Ok}
use Rattle.floats.specs.Places.{part_at}
use Rattle.refusals.specs.Refusals.{◌otherwise◌, Outcome, outcome_of}
use Rattle.spline.specs.declared.Grid.{Grid}
use Rattle.layers.specs.Net.{Net}
use Rattle.layers.specs.Widths.{width_at, parameters_in, widths_to, nodes_in}
use Rattle.layer_cursor.specs.Cursor.{Walkable}
use Rattle.passes.specs.Pass.{nodes_of, nodes_finite}
use Rattle.gradients.specs.Steps.{plus_of}
use Rattle.row_gradients.specs.Backward.{row_gradient}

-- R2.7: training needs P numbers, the lent gradients, and 2N, the work
abbrev pub two_n : List ℕ → ℕ
two_n ws = 2 * nodes_in ws

-- the model, the widths and the work fit one another
pub record WorkFits (g : Grid) (ps : List Float) (ws : List ℕ) (W : List Float) : Type 0 where
  pub walkable : Walkable g ws
  pub params : parameters_in (g.intervals + 5) ws ≡ length ps
  pub work : two_n ws ≤ length W

-- the values of the first n groups of nodes stand in the work from 0 on, each group's after those of the one before
abbrev pub Nodes : Net → List Float → List ℕ → List Float → List Float → ℕ → Type 0
Nodes N ps ws xs W n = (j : ℕ) → j < n → part_at W (widths_to ws j) (width_at ws j) ≡ nodes_of N ps ws xs j

-- forward: 20 where a value is not finite, then all values in their places, and the work past N as it was
pub record NodesFilled (N : Net) (ps : List Float) (ws : List ℕ) (xs W W' : List Float) (r : Outcome) : Type 0 where
  pub answer : r ≡ outcome_of (nodes_finite N ps ws xs otherwise 20) 0
  pub nodes : r ≡ Ok tt → Nodes N ps ws xs W' (length ws)
  pub rest : drop (nodes_in ws) W' ≡ drop (nodes_in ws) W

-- a row: 20 where a value is not finite, then its gradients added where `add` says so, and the work past 2N as it was
pub record RowTaken (N : Net) (ps : List Float) (ws : List ℕ) (xs ts : List Float) (scale : Float) (add : Bool)
    (gs W gs' W' : List Float) (r : Outcome) : Type 0 where
  pub answer : r ≡ outcome_of (nodes_finite N ps ws xs otherwise 20) 0
  pub gradients : gs' ≡ cond (nodes_finite N ps ws xs && add) (plus_of gs (row_gradient N ps ws xs ts scale)) gs
  pub rest : drop (two_n ws) W' ≡ drop (two_n ws) W
