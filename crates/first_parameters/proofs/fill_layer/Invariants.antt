use Rattle.first_parameters.proofs.Parts.{Done, edge_plan}
use Rattle.first_parameters.proofs.fill_layer.Given as goal

abbrev pub invariant-loop-e : goal.invariant-loop-e
invariant-loop-e l = Done (edge_plan l.intervals l.root) l.fn.random l.fn.params l.e l.params l.random
