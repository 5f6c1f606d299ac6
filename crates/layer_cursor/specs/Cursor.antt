-- Where a walk over the layers of a flat model stands. Definitions only.
use Rattle.std.specs.Prelude.{ℕ, ◌+◌, ◌-◌, ◌≤◌, ◌<◌, ◌≡◌, List, length}
use Rattle.spline.specs.declared.Grid.{Grid}
use Rattle.local_basis.specs.declared.Mesh.{Mesh}
use Rattle.layers.specs.Widths.{width_at, params_to, widths_to}
use Rattle.layer_cursor.specs.declared.Layer.{Layer}

-- what a walk asks of a configuration: an accepted one has it
pub record Walkable (g : Grid) (ws : List ℕ) : Type 0 where
  pub grid : g.intervals ≤ 250000
  pub some : 2 ≤ length ws
  pub positive : (j : ℕ) → j < length ws → 0 < width_at ws j
  pub small : params_to (g.intervals + 5) ws (length ws - 1) ≤ 250000
  pub narrow : widths_to ws (length ws) ≤ 250000

-- the cursor stands at layer l: there its part of the model and its nodes begin, and these are its mesh and its widths
pub record Stands (g : Grid) (ws : List ℕ) (l : ℕ) (c : Layer) : Type 0 where
  pub index : c.index ≡ l
  pub mesh : c.mesh.grid ≡ g
  pub part : c.at ≡ params_to (g.intervals + 5) ws l
  pub nodes : c.node ≡ widths_to ws l
  pub inputs : c.inputs ≡ width_at ws l
  pub outputs : c.outputs ≡ width_at ws (l + 1)
