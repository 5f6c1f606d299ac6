-- `touched_layer::layer::mark_edge` meets its contract: the marks by the four are those by all. Assumes nothing.
use mathlib.Core.Path.{◌∙◌}
use native.Mathlib.Omega.{arith}
use lib.ListN.{length-set}
use Rattle.floats.proofs.Loops.{rest, rest_length}
use Rattle.touched_layer.specs.Touched.{edge_touched}
use Rattle.touched_layer.proofs.Marking.{marked_two}
use Rattle.touched_layer.proofs.Fours.{four_marked_lem}
use borrow.Author.Rules.{rules}
use Rattle.touched_layer.proofs.layer.mark_edge.Statement.{statement}
use Rattle.touched_layer.proofs.layer.mark_edge.Tie as tie

-- ---- from place to place: only these lines know how many places lie between
abbrev entry : tie.After-mark_four-arg-1 → tie.Start
entry c = c.before.before

abbrev marked : tie.After-slice_known-2-1 → tie.After-mark_four
marked c = c.before.before

-- ---- the needs
slice_write_map : tie.Need-bounds-map-0
slice_write_map c = search rules

slice_write_map_2 : tie.Need-bounds-map-1
slice_write_map_2 c = simp length-set (omega arith)

sub_mark_four : tie.Need-slice_bounds-mark_four-count
sub_mark_four c = simp length-set (omega arith)

part_mark_four_start : tie.Need-slice_bounds-mark_four-start
part_mark_four_start c = simp length-set (omega arith)

part_mark_four_end : tie.Need-slice_bounds-mark_four-end
part_mark_four_end c = search rules

mark_four_requires : tie.Need-mark_four-requires
mark_four_requires c κs =
    let p = (entry c).requires in
    rw (rest_length, length-set, length-set) (omega (arith, p.0.values.fit, p.1))

same_length : tie.Need-shape_of-map
same_length c = c.map-1.given.1 ∙ simp length-set

returns : tie.Need-returns
unfolding edge_touched
returns c =
    let m = marked c in
    let p = (entry m.before).requires in
    marked_two _ _ _ (omega (arith, p.1))
    (m.mark_four.ensures
    ∙ four_marked_lem p.0 _ (rw (rest_length, length-set, length-set) (omega (arith, p.1))) ∙ rw rest)

pub mark_edge_spec : {M : Type 1} → statement M
mark_edge_spec =
    tie.close
    (tie.spec
    slice_write_map
    slice_write_map_2
    sub_mark_four
    part_mark_four_start
    part_mark_four_end
    mark_four_requires
    same_length
    returns)
