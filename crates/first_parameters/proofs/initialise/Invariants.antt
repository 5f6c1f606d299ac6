use Rattle.first_parameters.proofs.Walks.{Walked}
use Rattle.first_parameters.proofs.initialise.Given as goal

abbrev pub invariant-loop : goal.invariant-loop
invariant-loop l = Walked l.grid l.widths l.initial.random l.fn.model l.counter l.layer l.model l.random
