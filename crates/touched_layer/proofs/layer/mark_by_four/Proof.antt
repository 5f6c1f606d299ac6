-- `touched_layer::layer::mark_by_four` meets its contract: after o turns o outputs' edges are marked. Assumes nothing.
use mathlib.Core.Path.{◌≡◌, ◌∙◌}
use mathlib.Core.Bool.{Bool}
use mathlib.Core.List.{List}
use Prim.Native.Nat.{ℕ, ◌+◌, ◌*◌, ◌-◌, ◌≤◌}
use native.Mathlib.Omega.{arith}
use lib.ListN.{length}
use Rattle.floats.specs.Sums.{flat_to}
use Rattle.floats.proofs.Loops.{room, rest, rest_length}
use Rattle.layers.specs.Net.{basis_of}
use Rattle.touched_layer.specs.Touched.{edge_touched}
use Rattle.touched_layer.specs.Marks.{marked_by, in_row}
use Rattle.touched_layer.proofs.Marking.{marked_first, marked_size}
use Rattle.touched_layer.proofs.Rows.{one_output}
use Rattle.touched_layer.proofs.Layers.{edge_length}
use Rattle.touched_layer.proofs.layer.mark_by_four.Statement.{statement}
use Rattle.touched_layer.proofs.layer.mark_by_four.Tie as tie

abbrev invariant-loop : tie.invariant-loop-o
invariant-loop mesh x from row n map₀ eight o₀ map o =
    (o ≤ n) × (map ≡ marked_by (flat_to (λ (q : ℕ). in_row from row (edge_touched (basis_of mesh.grid) x)) o) map₀)

abbrev decreases-loop : tie.decreases-loop-o
decreases-loop mesh x from row n map₀ eight o₀ map o = n - o

-- ---- from place to place: only these lines know how many places lie between
abbrev entry : tie.At-loop-o invariant-loop decreases-loop → tie.Start invariant-loop decreases-loop
entry c = c.before.before.before

abbrev head : tie.In-loop-o invariant-loop decreases-loop → tie.At-loop-o invariant-loop decreases-loop
head c = c.before

abbrev marked : tie.After-slice_known-in-loop-o-1 invariant-loop decreases-loop → tie.After-mark_edge invariant-loop decreases-loop
marked c = c.before.before

-- ---- what is known in a turn
abbrev tests : tie.At-loop-o invariant-loop decreases-loop → List Bool
tests c = edge_touched (basis_of (entry c).args.mesh.grid) (entry c).args.x

size : (c : tie.At-loop-o invariant-loop decreases-loop) → length c.loop-o.map ≡ length (entry c).args.map.now
size c = marked_size _ _ _ c.loop-o.invariant.1

-- the edge lies in its row, and that in the map
inside : (c : tie.In-loop-o invariant-loop decreases-loop)
    → (head c).loop-o.o * (entry (head c)).args.row + (entry (head c)).args.from
    + ((entry (head c)).args.mesh.grid.intervals + 5) ≤ length (head c).loop-o.map
inside c =
    let h = head c in
    let lies = room h.loop-o.o (entry h).args.n (entry h).args.row _ c.loop-o-test.true (entry h).requires.2 in
    omega (arith, lies, size h, (entry h).requires.1)

-- ---- the needs
both_at_requires : tie.Need-both_at-eight-requires invariant-loop decreases-loop
both_at_requires c κs = c.requires.0

loop_holds : tie.Need-loop-o-init invariant-loop decreases-loop
loop_holds c = (omega arith, marked_first _ _)

mul_at : tie.Need-overflow_mul-at invariant-loop decreases-loop
mul_at c = omega (arith, inside c, size (head c), (entry (head c)).well_formed)

add_at : tie.Need-overflow_add-at invariant-loop decreases-loop
add_at c = omega (arith, inside c, size (head c), (entry (head c)).well_formed)

sub_mark_edge : tie.Need-slice_bounds-mark_edge-count invariant-loop decreases-loop
sub_mark_edge c = omega (arith, inside c.before)

part_mark_edge_start : tie.Need-slice_bounds-mark_edge-start invariant-loop decreases-loop
part_mark_edge_start c = omega (arith, inside c.before)

part_mark_edge_end : tie.Need-slice_bounds-mark_edge-end invariant-loop decreases-loop
part_mark_edge_end c = omega arith

mark_edge_requires : tie.Need-mark_edge-requires invariant-loop decreases-loop
mark_edge_requires c κs =
    let t = c.before in
    ((head t.before).both_at-eight.ensures, rw rest_length (omega (arith, inside t.before)))

add_o : tie.Need-overflow_step-o invariant-loop decreases-loop
add_o c = omega arith

loop_less : tie.Need-loop-o-smaller invariant-loop decreases-loop
loop_less c = omega arith

loop_again : tie.Need-loop-o-preserved invariant-loop decreases-loop
loop_again c =
    let m = marked c in
    let t = m.before.before.before in
    let h = head t in (
      omega arith,
      one_output (entry h).args.from (entry h).args.row (tests h) (rw edge_length (entry h).requires.1) h.loop-o.o _
          h.loop-o.map _ h.loop-o.invariant.1 (omega (arith, inside t)) (m.mark_edge.ensures ∙ rw rest),
    )

same_length : tie.Need-shape_of-map invariant-loop decreases-loop
same_length c = size c.before

returns : tie.Need-returns invariant-loop decreases-loop
returns c =
    let h = c.before in
    let all : h.loop-o.o ≡ (entry h).args.n = omega arith in
    rw all at h.loop-o.invariant.1

pub mark_by_four_spec : {M : Type 1} → statement M
mark_by_four_spec =
    tie.close
    (tie.spec
    invariant-loop
    decreases-loop
    both_at_requires
    loop_holds
    mul_at
    add_at
    sub_mark_edge
    part_mark_edge_start
    part_mark_edge_end
    mark_edge_requires
    add_o
    loop_less
    loop_again
    same_length
    returns)
