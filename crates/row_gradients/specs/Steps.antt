-- What the steps of a row promise each other; no part of the meaning. Definitions only.
use Rattle.std.specs.Prelude.{ℕ, ◌+◌, ◌-◌, ◌≤◌, ◌<◌, ◌≡◌, List, length, drop, Float}
use Rattle.floats.specs.Places.{part_at, written_at}
use Rattle.floats.specs.Sums.{all_finite}
use Rattle.refusals.specs.Refusals.{◌otherwise◌, Outcome, outcome_of}
use Rattle.layers.specs.Basis.{Basis}
use Rattle.layers.specs.Net.{Net, basis_at}
use Rattle.layers.specs.Widths.{width_at, params_to, widths_to, nodes_in}
use Rattle.layers.specs.Layer.{layer_of}
use Rattle.gradients.specs.Gradient.{layer_slots}
use Rattle.row_gradients.specs.Backward.{ups_of}
use Rattle.row_gradients.specs.Calls.{two_n, Nodes}

-- one layer of w inputs at `from` and n outputs, written at `to`, and 20 where one of these is not finite
pub record LayerFilled (B : Basis) (ps : List Float) (from w to n : ℕ) (W W' : List Float) (r : Outcome) : Type 0 where
  pub answer : r ≡ outcome_of (all_finite (layer_of B ps (part_at W from w) n) otherwise 20) 0
  pub work : W' ≡ written_at W to (layer_of B ps (part_at W from w) n)

-- the gradients at the nodes stand from N on, as the values do from 0 on
abbrev pub up_at : List ℕ → ℕ → ℕ
up_at ws j = nodes_in ws + widths_to ws j

-- those of the nodes l and of all after them
abbrev pub Ups : Net → List Float → List ℕ → List Float → List Float → Float → List Float → ℕ → Type 0
Ups N ps ws xs ts scale W l =
    (j : ℕ) → l ≤ j → j < length ws
    → part_at W (up_at ws j) (width_at ws j) ≡ ups_of N ps ws xs ts scale j (length ws - 1 - j)

-- backward: the gradients in their places, from the second nodes on, since no layer has the inputs for outputs
pub record Backed (N : Net) (ps : List Float) (ws : List ℕ) (xs ts : List Float) (scale : Float) (W W' : List Float) :
    Type 0 where
  pub nodes : Nodes N ps ws xs W' (length ws)
  pub ups : Ups N ps ws xs ts scale W' 1
  pub rest : drop (two_n ws) W' ≡ drop (two_n ws) W

-- what layer l's parameters receive, as the work has it
abbrev pub slots_in : Net → List Float → List ℕ → List Float → ℕ → List Float
slots_in N ps ws W l =
    layer_slots (basis_at N l) (drop (params_to N.stride ws l) ps) (part_at W (widths_to ws l) (width_at ws l))
    (part_at W (up_at ws (l + 1)) (width_at ws (l + 1)))
