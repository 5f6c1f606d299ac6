-- The parts of the layers before are added.
use Rattle.row_gradients.proofs.Slots.{Summed}
use Rattle.row_gradients.proofs.adding.add_layers.Given as goal

abbrev pub invariant-loop : goal.invariant-loop
invariant-loop l = Summed l.grid l.model l.widths l.work l.initial.gradients l.counter l.layer l.gradients
