-- After r turns the byte of r rows is marked.
use Rattle.std.proofs.Common.{◌≡◌, ℕ, ◌∷◌, []}
use Rattle.floats.specs.Sums.{flat_to}
use Rattle.touched_layer.specs.Marks.{marked_by, in_row}
use Rattle.touched_layer.proofs.layer.mark_column.Given as goal

abbrev pub invariant-loop-r : goal.invariant-loop-r
invariant-loop-r l = l.map ≡ marked_by (flat_to (λ (q : ℕ). in_row l.at l.row (l.touched ∷ [])) l.r) l.initial.map
