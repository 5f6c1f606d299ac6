-- The four that the search leads to stand for all slopes.
use Rattle.local_basis.proofs.Meshes.{calm_grid}
use Rattle.local_basis.proofs.Standing.{slopes_none, slopes_some}
use Rattle.local_basis.proofs.fours.slopes_at.Goals as goal

pub returns-then-mesh-at : goal.returns-then-mesh-at
returns-then-mesh-at c =
    let mesh = c.args.mesh in
    rw c.no_four.ensures
    (slopes_none mesh.few (calm_grid mesh.grid mesh.calm mesh.own_calm c.requires) c.interval-at.ensures
    c.if-mesh-at.true)

pub returns : goal.returns
returns c =
    let mesh = c.args.mesh in
    rw (c.placed.ensures, c.rises.ensures)
    (slopes_some mesh.few (calm_grid mesh.grid mesh.calm mesh.own_calm c.requires) c.interval-at.ensures
    c.if-mesh-at.false c.squares_of.ensures)
