-- What finding a layer and moving its coefficients asks: no part of their meaning. Definitions only.
use Rattle.std.specs.Prelude.{ℕ, ◌+◌, ◌*◌, ◌≤◌, ◌<◌, ◌≡◌, List, length, Float}
use Rattle.spline.specs.declared.Grid.{Grid}
use Rattle.layer_cursor.specs.declared.Layer.{Layer}
use Rattle.layer_cursor.specs.Cursor.{Walkable}
use Rattle.config.specs.Config.{parameters_for}

-- past check 8: the layers can be walked over, and the model is theirs
pub record Ready (ws : List ℕ) (g : Grid) (ps : List Float) : Type 0 where
  pub walk : Walkable g ws
  pub whole : length ps ≡ parameters_for ws g

-- nothing of layer c is large, and it lies within the model
pub record SmallLayer (g : Grid) (ps : List Float) (c : Layer) : Type 0 where
  pub outputs : c.outputs ≤ 250000
  pub inputs : c.inputs ≤ 250000
  pub grid : g.intervals ≤ 250000
  pub some : 0 < c.outputs * c.inputs
  pub whole : length ps ≤ 250000
  pub model : c.at + c.outputs * c.inputs * (g.intervals + 5) ≤ length ps
  pub edges : c.outputs * c.inputs ≤ 250000
  pub words : c.outputs * c.inputs * (4 * (g.intervals + 3)) ≤ 1000000

-- n edges lie in a model from a place on, and the bytes of their coefficients in a body
pub record Fitting (ps : List Float) (from g n : ℕ) (bytes : List ℕ) : Type 0 where
  pub grid : g ≤ 250000
  pub small : length ps ≤ 250000
  pub model : from + n * (g + 5) ≤ length ps
  pub body : n * (4 * (g + 3)) ≤ length bytes
