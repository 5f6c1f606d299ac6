-- R17.2: `dot` starts at +0.0 (R8.3); one that starts at -0.0 gives the same answers, parameters and buffers, as later
-- sums from +0.0 hide it. Definitions only.
use Rattle.std.specs.Prelude.{ℕ, ◌≡◌, List, Float}
use Rattle.floats.specs.Binary32.{minus_zero32}
use Rattle.spline.specs.declared.Grid.{Grid}
use Rattle.layers.specs.Net.{Net, net_of}
use Rattle.demands.specs.Alike.{SameForward, SamePredict, SameVisit, SameLoss, SameStep, SameTraining}

-- R8.3: the same but for where `dot` starts
abbrev pub starting_at : Net → Float → Net
starting_at N a = record {
  coefficients = N.coefficients;
  stride = N.stride;
  curve = N.curve;
  silu = N.silu;
  silu_slope = N.silu_slope;
  start = a;
}

abbrev pub from_minus_zero : Grid → Net
from_minus_zero g = starting_at (net_of g) minus_zero32

-- R17.2: every answer, parameter and all lent memory of every call are the same from -0.0, of any model and batch
pub record HiddenIn (N M : Net) (ws : List ℕ) (g : Grid) (ps xs : List Float) : Type 0 where
  pub forward : (a b : List Float) → SameForward N M ws g ps ps xs a b
  pub predict : (a b ys : List Float) → SamePredict N M ws g ps ps xs a b ys
  pub visit : (a b : List Float) (ms : List ℕ) → SameVisit N M ws g ps ps xs a b ms
  pub loss : (ts a b : List Float) → SameLoss N M ws g ps ps xs ts a b
  pub step : (ts : List Float) (rate : Float) (gs W : List Float) → SameStep N M ws g ps ps xs ◌≡◌ ts rate gs W
  pub train : (ts : List Float) (rate : Float) (gs W : List Float) (steps : ℕ)
      → SameTraining N M ws g ps ps xs ◌≡◌ ts rate gs W steps

abbrev pub StartHidden : List ℕ → Grid → List Float → List Float → Type 0
StartHidden ws g ps xs = HiddenIn (net_of g) (from_minus_zero g) ws g ps xs
