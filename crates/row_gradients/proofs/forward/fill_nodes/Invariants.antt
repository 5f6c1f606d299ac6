-- The values up to the inputs of the layer that comes next stand in the work.
use Rattle.row_gradients.proofs.Values.{Valued}
use Rattle.row_gradients.proofs.forward.fill_nodes.Given as goal

abbrev pub invariant-loop : goal.invariant-loop
invariant-loop l = Valued l.grid l.model l.widths l.row l.initial.work l.counter l.layer l.work
