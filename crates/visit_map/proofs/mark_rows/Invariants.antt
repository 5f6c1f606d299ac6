-- No row so far is refused, and the map has their marks.
use Prim.Native.Nat.{◌+◌}
use Rattle.layers.specs.Net.{net_of}
use Rattle.layers.specs.Widths.{parameters_in}
use Rattle.visit_map.proofs.Rows.{Visiting}
use Rattle.visit_map.proofs.mark_rows.Given as goal

abbrev pub invariant-loop-r : goal.invariant-loop-r
invariant-loop-r l =
    Visiting (net_of l.grid) l.model l.widths l.inputs (parameters_in (l.grid.intervals + 5) l.widths)
    l.fn.first l.fn.second l.r l.first l.second l.map
