-- Every knot so far is one that x is not below.
use Rattle.std.proofs.Common.{◌≡◌, true}
use Rattle.std.specs.Float.Ieee.{le}
use Rattle.spline.specs.Spline.{knot_of}
use Rattle.local_basis.proofs.search.up.Given as goal

abbrev pub invariant-loop-at : goal.invariant-loop-at
invariant-loop-at l = le (knot_of l.mesh.grid l.at) l.x ≡ true
