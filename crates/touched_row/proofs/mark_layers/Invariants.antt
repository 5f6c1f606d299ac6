-- The bytes of the layers so far are marked, and the holder has their values.
use Rattle.touched_row.proofs.Rows.{Marched}
use Rattle.touched_row.proofs.mark_layers.Given as goal

abbrev pub invariant-loop-l : goal.invariant-loop-l
invariant-loop-l l =
    Marched l.grid l.model l.widths l.initial.first l.initial.second l.initial.map l.l l.layer l.first l.second l.map
