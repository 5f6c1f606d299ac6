-- The sum is that of the rows so far.
use Rattle.layers.specs.Net.{net_of}
use Rattle.loss.proofs.Errors.{Adding}
use Rattle.loss.proofs.sum_rows.Given as goal

abbrev pub invariant-loop-r : goal.invariant-loop-r
invariant-loop-r l =
    Adding (net_of l.grid) l.model l.widths l.inputs l.targets l.initial.first l.initial.second l.rows l.r l.sum l.first
    l.second
