-- After i turns i inputs' edges are marked in each row.
use Rattle.std.proofs.Common.{◌≡◌, ℕ, ◌+◌, ◌*◌, length}
use Rattle.floats.specs.Sums.{at, flat_to}
use Rattle.layers.specs.Net.{basis_of}
use Rattle.touched_layer.specs.Touched.{edge_touched}
use Rattle.touched_layer.specs.Marks.{marked_by, in_row}
use Rattle.touched_layer.proofs.layer.mark_layer.Given as goal

abbrev pub invariant-loop-i : goal.invariant-loop-i
invariant-loop-i l =
    let edges = λ (j : ℕ). edge_touched (basis_of l.mesh.grid) (at l.inputs j) in
    l.map
    ≡ marked_by (flat_to (λ (o : ℕ). in_row 0 (length l.inputs * (l.mesh.grid.intervals + 5)) (flat_to edges l.i)) l.n)
    l.initial.map
