-- The outputs of the rows so far are written.
use Rattle.layers.specs.Net.{net_of}
use Rattle.prediction.proofs.Rows.{Going}
use Rattle.prediction.proofs.predict_rows.Given as goal

abbrev pub invariant-loop-r : goal.invariant-loop-r
invariant-loop-r l =
    Going (net_of l.grid) l.model l.widths l.inputs l.initial.first l.initial.second l.initial.outputs l.rows l.r-counter
    l.first l.second l.outputs
