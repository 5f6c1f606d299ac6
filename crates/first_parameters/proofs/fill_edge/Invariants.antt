use Rattle.first_parameters.proofs.Edges.{Drawn}
use Rattle.first_parameters.proofs.fill_edge.Given as goal

abbrev pub invariant-loop-coefficient : goal.invariant-loop-coefficient
invariant-loop-coefficient l =
    Drawn l.initial.next l.initial.coefficient-items l.coefficient-index l.coefficient-items l.next
