-- What an accepted configuration has: inner crates ask for it, and `sized` of proofs/Sized.antt shows it.
-- Definitions only.
use Rattle.std.specs.Prelude.{ℕ, ◌+◌, ◌≤◌, ◌<◌, List, T, length}
use Rattle.std.specs.Float.Ieee.Scale.{finite}
use Rattle.spline.specs.declared.Grid.{Grid}
use Rattle.layers.specs.Widths.{width_at, parameters_in, widest_in, nodes_in}
use Rattle.config.specs.Config.{ends_sound, steps_sound}

pub record Sized (ws : List ℕ) (g : Grid) : Type 0 where
  -- the grid
  pub some_grid : 1 ≤ g.intervals
  pub small_edge : g.intervals + 5 ≤ 250000
  pub grid : g.intervals ≤ 250000
  pub lo_finite : T (finite g.lo)
  pub hi_finite : T (finite g.hi)
  pub ends : T (ends_sound g)
  pub steps : T (steps_sound g)
  -- the widths
  pub some : 2 ≤ length ws
  pub positive : (j : ℕ) → j < length ws → 0 < width_at ws j
  pub within : (j : ℕ) → j < length ws → width_at ws j ≤ widest_in ws
  -- P, W and N
  pub small : parameters_in (g.intervals + 5) ws ≤ 250000
  pub narrow : widest_in ws ≤ 250000
  pub few_nodes : nodes_in ws ≤ 250000
