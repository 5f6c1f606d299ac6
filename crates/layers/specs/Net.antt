-- A network and its layers. A network knows how many parameters an edge has, the activation, where `dot` starts, and a curve for
-- each layer; a layer's definitions are over the one record that the network shows it. So a statement about another start of
-- `dot`, another exponential or another grid for each layer is one about two networks and the same words. Definitions only.
use Rattle.std.specs.Prelude.{ℕ, ◌+◌, Float}
use Rattle.floats.specs.Binary32.{zero32}
use Rattle.spline.specs.declared.Grid.{Grid}
use Rattle.spline.specs.Spline.{value_of, slope_of}
use Rattle.spline.specs.Activation.{silu_of, silu_derivative_of}
use Rattle.layers.specs.Basis.{Basis}

-- R6.7: a layer's basis values and slopes, by index
pub record Curve : Type 0 where
  pub value : ℕ → Float → Float
  pub slope : ℕ → Float → Float

-- R2.2: what the layers of a network are worked out from
pub record Net : Type 0 where
  -- R2.3: g + 3 coefficients and g + 5 parameters an edge
  pub coefficients : ℕ
  pub stride : ℕ
  -- by the layer's number
  pub curve : ℕ → Curve
  -- R8.1, R8.2: SiLU and its derivative
  pub silu : Float → Float
  pub silu_slope : Float → Float
  -- R8.3: where `dot` starts: at +0.0
  pub start : Float

-- R2.2: the network as layer l sees it
abbrev pub basis_at : Net → ℕ → Basis
basis_at N l = record {
  coefficients = N.coefficients;
  stride = N.stride;
  value = (N.curve l).value;
  slope = (N.curve l).slope;
  silu = N.silu;
  silu_slope = N.silu_slope;
  start = N.start;
}

-- R2.1: one grid for all layers, and a layer of that network
abbrev pub net_of : Grid → Net
net_of g = record {
  coefficients = g.intervals + 3;
  stride = g.intervals + 5;
  curve = λ l. record { value = λ i x. value_of g 3 i x; slope = λ i x. slope_of g i x };
  silu = silu_of;
  silu_slope = silu_derivative_of;
  start = zero32;
}

abbrev pub basis_of : Grid → Basis
basis_of g = basis_at (net_of g) 0
