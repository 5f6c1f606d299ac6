-- `touched_layer::layer::mark_one_by_one` meets its contract: after k turns k coefficients are marked. Assumes nothing.
use mathlib.Core.Path.{◌≡◌, refl, ◌∙◌}
use mathlib.Core.Bool.{Bool, true}
use mathlib.Core.List.{List, [], ◌∷◌}
use Prim.Native.Nat.{ℕ, ◌+◌, ◌-◌, ◌≤◌}
use native.Mathlib.Omega.{arith}
use lib.ListN.{length}
use lib.Ieee.{Float}
use Rattle.floats.specs.Sums.{tabulate, flat_to}
use Rattle.floats.proofs.Loops.{tab_length}
use Rattle.spline.specs.declared.Grid.{Grid}
use Rattle.layers.specs.Net.{basis_of}
use Rattle.touched_layer.specs.Touched.{touches, edge_touched}
use Rattle.touched_layer.specs.Marks.{marked_by, in_row}
use Rattle.touched_layer.proofs.Marking.{marked_size}
use Rattle.touched_layer.proofs.Rows.{none_in_rows, more_in_rows, table_in_rows}
use Rattle.touched_layer.proofs.layer.mark_one_by_one.Statement.{statement}
use Rattle.touched_layer.proofs.layer.mark_one_by_one.Tie as tie

-- the tests of the first k coefficients
abbrev coefficients : Grid → Float → ℕ → List Bool
coefficients g x k = tabulate (λ (j : ℕ). touches (basis_of g) j x) k

-- both weights are marked before the loop
abbrev invariant-loop : tie.invariant-loop-k
invariant-loop grid x from row n map₀ k₀ k-end map k =
    (k ≤ grid.intervals + 3)
    × (map ≡ marked_by (flat_to (λ (o : ℕ). in_row (from + 2) row (coefficients grid x k)) n) map₀)

abbrev decreases-loop : tie.decreases-loop-k
decreases-loop grid x from row n map₀ k₀ k-end map k = grid.intervals + 3 - k

-- ---- from place to place: only these lines know how many places lie between
abbrev outset : tie.After-mark_column invariant-loop decreases-loop → tie.Start invariant-loop decreases-loop
outset c = c.before.before.before

abbrev base : tie.After-mark_column-arg-2-1 invariant-loop decreases-loop → tie.After-mark_column invariant-loop decreases-loop
base c = c.before.before.before

abbrev weights : tie.After-struct_known-1 invariant-loop decreases-loop → tie.After-mark_column-2 invariant-loop decreases-loop
weights c = c.before.before.before

abbrev entry : tie.After-struct_known-1 invariant-loop decreases-loop → tie.Start invariant-loop decreases-loop
entry c = outset (base (weights c).before)

abbrev head : tie.After-is_touched invariant-loop decreases-loop → tie.At-loop-k invariant-loop decreases-loop
head c = c.before.before

abbrev marked : tie.After-slice_known-in-loop-k-1 invariant-loop decreases-loop → tie.After-mark_column-in-loop-k invariant-loop decreases-loop
marked c = c.before.before

-- ---- the map keeps its length
size : (c : tie.At-loop-k invariant-loop decreases-loop) → length c.loop-k.map ≡ length (entry c.before).args.map.now
size c =
    let w = weights c.before in
    marked_size _ _ _ c.loop-k.invariant.1 ∙ marked_size _ _ _ w.mark_column-2.ensures
    ∙ marked_size _ _ _ (base w.before).mark_column.ensures

-- ---- the needs
mark_column_requires : tie.Need-mark_column-requires invariant-loop decreases-loop
mark_column_requires c κs = omega arith

add_mark_column : tie.Need-overflow_add-from invariant-loop decreases-loop
add_mark_column c = omega arith

mark_column_requires_2 : tie.Need-mark_column-requires-2 invariant-loop decreases-loop
mark_column_requires_2 c κs =
    let b = base c in
    omega (arith, (outset b).requires, marked_size _ _ _ b.mark_column.ensures)

add_k_end : tie.Need-overflow_add-k-end invariant-loop decreases-loop
add_k_end c = omega (arith, (entry c).requires)

loop_holds : tie.Need-loop-k-init invariant-loop decreases-loop
unfolding tabulate
loop_holds c = (omega arith, none_in_rows _ _ (entry c).args.n _)

is_touched_requires : tie.Need-is_touched-requires invariant-loop decreases-loop
is_touched_requires c κs = omega (arith, (entry c.before.before).requires)

add_mark_column_2 : tie.Need-overflow_add-from-in-loop-k invariant-loop decreases-loop
add_mark_column_2 c = omega (arith, entry (head c).before)

add_mark_column_3 : tie.Need-overflow_add-from-in-loop-k-2 invariant-loop decreases-loop
add_mark_column_3 c = omega (arith, entry (head c).before)

mark_column_requires_3 : tie.Need-mark_column-requires-in-loop-k invariant-loop decreases-loop
mark_column_requires_3 c κs =
    let h = head c.before in
    omega (arith, size h, (entry h.before).requires)

add_k : tie.Need-overflow_step-k invariant-loop decreases-loop
add_k c = omega arith

loop_less : tie.Need-loop-k-smaller invariant-loop decreases-loop
loop_less c = omega arith

loop_again : tie.Need-loop-k-preserved invariant-loop decreases-loop
loop_again c =
    let m = marked c in
    let t = m.before.before in
    let h = head t in
    let s = entry h.before in (
      omega arith,
      table_in_rows _ _ _ s.args.n _ _ _ _ _ (omega (arith, s.requires)) t.is_touched.ensures h.loop-k.invariant.1
          m.mark_column-in-loop-k.ensures,
    )

same_length : tie.Need-shape_of-map invariant-loop decreases-loop
same_length c = size c.before

returns : tie.Need-returns invariant-loop decreases-loop
unfolding edge_touched
returns c =
    let h = c.before in
    let w = weights h.before in
    let s = entry h.before in
    let a = s.args in
    let m = a.grid.intervals + 3 in
    let all : h.loop-k.k ≡ m = omega arith in
    let rest = coefficients a.grid a.x m in
    let size : length rest ≡ m = tab_length _ m in
    let two = more_in_rows _ _ (true ∷ []) (true ∷ []) (omega (arith, s.requires)) _ a.n _ _ _ refl
    (base w.before).mark_column.ensures w.mark_column-2.ensures in
    more_in_rows _ _ (true ∷ true ∷ []) rest (omega (arith, s.requires)) _ a.n _ _ _ refl two
    (rw all at h.loop-k.invariant.1)

pub mark_one_by_one_spec : {M : Type 1} → statement M
mark_one_by_one_spec =
    tie.close
    (tie.spec
    invariant-loop
    decreases-loop
    mark_column_requires
    add_mark_column
    mark_column_requires_2
    add_k_end
    loop_holds
    is_touched_requires
    add_mark_column_2
    add_mark_column_3
    mark_column_requires_3
    add_k
    loop_less
    loop_again
    same_length
    returns)
