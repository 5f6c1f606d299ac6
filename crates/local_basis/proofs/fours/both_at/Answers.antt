-- The four that the search leads to stand for all values, and the four slopes with the same indices for all slopes.
use Rattle.std.proofs.Common.{sym, ◌∙◌}
use Rattle.local_basis.proofs.Meshes.{calm_grid}
use Rattle.local_basis.proofs.Moved.{placed_together}
use Rattle.local_basis.proofs.Squares.{cubes_start, rises_start}
use Rattle.local_basis.proofs.Standing.{values_none, values_some, slopes_none, slopes_some}
use Rattle.local_basis.proofs.fours.both_at.Goals as goal

pub returns-then-mesh-at : goal.returns-then-mesh-at
returns-then-mesh-at c =
    let mesh = c.args.mesh in
    let calm = calm_grid mesh.grid mesh.calm mesh.own_calm c.requires in
    let none = c.no_eight.ensures in
    record {
      start = rw (none.0, none.1);
      values = rw none.0 (values_none mesh.few calm c.interval-at.ensures c.if-mesh-at.true);
      slopes = rw none.1 (slopes_none mesh.few calm c.interval-at.ensures c.if-mesh-at.true);
    }

pub returns : goal.returns
returns c =
    let mesh = c.args.mesh in
    let calm = calm_grid mesh.grid mesh.calm mesh.own_calm c.requires in
    let squares = c.squares_of-squares.ensures in
    let begins = rises_start _ _ _ c.rises.ensures ∙ sym (cubes_start _ _ _ _ c.cubes.ensures) in
    record {
      start = rw (c.placed-2.ensures, c.placed.ensures) (placed_together _ _ _ _ begins);
      values = rw (c.placed.ensures, c.cubes.ensures)
          (values_some mesh.few calm c.interval-at.ensures c.if-mesh-at.false squares);
      slopes = rw (c.placed-2.ensures, c.rises.ensures)
          (slopes_some mesh.few calm c.interval-at.ensures c.if-mesh-at.false squares);
    }
