-- Two cells, then the coefficients.
use Rattle.std.proofs.Common.{◌+◌, ◌∙◌, arith}
use Rattle.floats.proofs.Loops.{rest}
use Rattle.gradients.proofs.Edges.{edge_added}
use Rattle.gradients.proofs.add_edge.Goals as goal

pub returns : goal.returns
returns c =
    let g = c.args.grid.intervals in
    edge_added _ _ _ _ (g + 3) (g + 5) _ _ _ _ (omega arith) c.requires.gradients (rw c.silu_by.ensures)
    (rw (c.dot.ensures, rest)) (c.add_coefficients.ensures ∙ rw rest)
