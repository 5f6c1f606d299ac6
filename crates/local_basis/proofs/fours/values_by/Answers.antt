-- The four that the search leads to stand for all values.
use Rattle.std.proofs.Common.{sym}
use Rattle.local_basis.proofs.Standing.{values_none, values_some}
use Rattle.local_basis.proofs.fours.values_by.Goals as goal

pub returns-then-intervals-at : goal.returns-then-intervals-at
returns-then-intervals-at c =
    rw c.no_four.ensures
    (values_none c.requires.few (sym c.requires.own_calm) c.interval-at.ensures c.if-intervals-at.true)

pub returns : goal.returns
returns c =
    rw (c.placed.ensures, c.cubes.ensures)
    (values_some c.requires.few (sym c.requires.own_calm) c.interval-at.ensures c.if-intervals-at.false
    c.squares_of.ensures)
