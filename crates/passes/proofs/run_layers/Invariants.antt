-- The holder has the values of the layers so far.
use Rattle.std.proofs.Common.{take}
use Rattle.layers.specs.Widths.{width_at}
use Rattle.passes.proofs.Walks.{Walked}
use Rattle.passes.proofs.run_layers.Given as goal

abbrev pub invariant-loop-l : goal.invariant-loop-l
invariant-loop-l l =
    Walked l.grid l.model l.widths (take (width_at l.widths 0) l.initial.second) l.initial.first l.initial.second l.l
    l.layer l.first l.second
