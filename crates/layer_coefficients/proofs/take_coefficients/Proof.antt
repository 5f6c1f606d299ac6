-- `layer_coefficients::take_coefficients` meets its contract: after k turns k edges have their coefficients.
-- Assumes nothing.
use mathlib.Core.Path.{◌≡◌, refl, ◌∙◌}
use Prim.Native.Nat.{◌-◌, ◌≤◌}
use native.Mathlib.Omega.{arith}
use lib.ListN.{length}
use Rattle.layer_coefficients.specs.Coefficients.{replaced}
use Rattle.layer_coefficients.proofs.Edges.{Within, within}
use Rattle.layer_coefficients.proofs.Turns.{word_room, take_none, take_more}
use Rattle.layer_coefficients.proofs.take_coefficients.Statement.{statement}
use Rattle.layer_coefficients.proofs.take_coefficients.Tie as tie

abbrev invariant-loop : tie.invariant-loop-edge
invariant-loop model₀ from intervals edges bytes each edge₀ model edge =
    (edge ≤ edges) × (length model ≡ length model₀) × (model ≡ replaced model₀ from intervals edge bytes)

abbrev decreases-loop : tie.decreases-loop-edge
decreases-loop model₀ from intervals edges bytes each edge₀ model edge = edges - edge

-- ---- what is known in a turn: its edge lies within the model, and its words within the bytes
inside : (c : tie.In-loop-edge invariant-loop decreases-loop) → let a = c.args in
    Within a.model.now a.from a.intervals a.bytes.now c.loop-edge.edge
inside c = within c.requires c.loop-edge-test.true

turned : (c : tie.After-take_floats-arg-1 invariant-loop decreases-loop) → let a = c.args in
    Within a.model.now a.from a.intervals a.bytes.now c.loop-edge.edge
turned c = inside c.before

-- ---- the needs
add_each : tie.Need-overflow_add-each invariant-loop decreases-loop
add_each c = omega (arith, c.requires.grid)

mul_each : tie.Need-overflow_mul-each invariant-loop decreases-loop
mul_each c = omega (arith, c.requires.grid)

loop_holds : tie.Need-loop-edge-init invariant-loop decreases-loop
loop_holds c = (omega arith, refl, take_none _ _ _ _)

add_first : tie.Need-overflow_add-first invariant-loop decreases-loop
add_first c = omega (arith, (inside c).model, (inside c).body, (inside c).grid, (inside c).small)

mul_first : tie.Need-overflow_mul-first invariant-loop decreases-loop
mul_first c = omega (arith, (inside c).model, (inside c).body, (inside c).grid, (inside c).small)

add_first_2 : tie.Need-overflow_add-first-in-loop-edge invariant-loop decreases-loop
add_first_2 c = omega (arith, (inside c).model, (inside c).body, (inside c).grid, (inside c).small)

add_first_3 : tie.Need-overflow_add-first-in-loop-edge-2 invariant-loop decreases-loop
add_first_3 c = omega (arith, (inside c).model, (inside c).body, (inside c).grid, (inside c).small)

add_end : tie.Need-overflow_add-end invariant-loop decreases-loop
add_end c = omega (arith, (inside c).model, (inside c).body, (inside c).grid, (inside c).small)

add_end_2 : tie.Need-overflow_add-end-in-loop-edge invariant-loop decreases-loop
add_end_2 c = omega (arith, (inside c).model, (inside c).body, (inside c).grid, (inside c).small)

mul_place : tie.Need-overflow_mul-place invariant-loop decreases-loop
mul_place c = omega (arith, (inside c).model, (inside c).body, (inside c).grid, (inside c).small)

sub_take_floats : tie.Need-slice_bounds-take_floats-count invariant-loop decreases-loop
sub_take_floats c = omega (arith, (inside c).body)

part_take_floats_start : tie.Need-slice_bounds-take_floats-start invariant-loop decreases-loop
part_take_floats_start c = omega (arith, (inside c).body)

part_take_floats_end : tie.Need-slice_bounds-take_floats-end invariant-loop decreases-loop
part_take_floats_end c = omega (arith, (inside c).body)

mul_take_floats : tie.Need-offset_bounds-model-first invariant-loop decreases-loop
mul_take_floats c = omega (arith, (turned c).model)

sub_take_floats_2 : tie.Need-slice_bounds-take_floats-count-in-loop-edge invariant-loop decreases-loop
sub_take_floats_2 c = omega (arith, (turned c).model)

part_take_floats_start_2 : tie.Need-slice_bounds-take_floats-start-in-loop-edge invariant-loop decreases-loop
part_take_floats_start_2 c = omega (arith, (turned c).model)

part_take_floats_end_2 : tie.Need-slice_bounds-take_floats-end-in-loop-edge invariant-loop decreases-loop
part_take_floats_end_2 c = omega (arith, (turned c).model)

take_floats_requires : tie.Need-take_floats-requires invariant-loop decreases-loop
take_floats_requires c κs =
    let at_arg = c.before in
    let a = at_arg.args in
    let w = turned at_arg in
    word_room _ _ _ _ _ _ a.bytes.now at_arg.loop-edge.model w refl
    (omega (arith, w.model, at_arg.loop-edge.invariant.1))

add_edge : tie.Need-overflow_step-edge invariant-loop decreases-loop
add_edge c = omega arith

loop_less : tie.Need-loop-edge-smaller invariant-loop decreases-loop
loop_less c = omega arith

loop_again : tie.Need-loop-edge-preserved invariant-loop decreases-loop
loop_again c =
    let at-model = c.before in
    let at_take = at-model.before in
    let at_arg = at_take.before.before in
    let inv = at_arg.loop-edge.invariant in (
      omega arith,
      at-model.model-1.given.1 ∙ inv.1,
      take_more _ _ _ _ _ _ _ (turned at_arg) inv.1 inv.2 at_take.take_floats.ensures,
    )

same_length : tie.Need-shape_of-model invariant-loop decreases-loop
same_length c = c.loop-edge.invariant.1

returns : tie.Need-returns invariant-loop decreases-loop
returns c =
    let last : c.loop-edge.edge ≡ c.args.edges = omega arith in
    c.loop-edge.invariant.2 ∙ rw last

pub take_coefficients_spec : {M : Type 1} → statement M
take_coefficients_spec =
    tie.close
    (tie.spec
    invariant-loop
    decreases-loop
    add_each
    mul_each
    loop_holds
    add_first
    mul_first
    add_first_2
    add_first_3
    add_end
    add_end_2
    mul_place
    sub_take_floats
    part_take_floats_start
    part_take_floats_end
    mul_take_floats
    sub_take_floats_2
    part_take_floats_start_2
    part_take_floats_end_2
    take_floats_requires
    add_edge
    loop_less
    loop_again
    same_length
    returns)
