-- `layer_coefficients::put_coefficients` meets its contract: after k turns the words of k edges are written.
-- Assumes nothing.
use mathlib.Core.Path.{◌≡◌, refl, ◌∙◌}
use mathlib.Core.List.{◌++◌}
use Prim.Native.Nat.{◌+◌, ◌-◌, ◌*◌, ◌≤◌}
use native.Mathlib.Omega.{arith}
use lib.ListN.{length, drop}
use Rattle.layer_coefficients.specs.Coefficients.{body_of}
use Rattle.layer_coefficients.proofs.Edges.{Within, within}
use Rattle.layer_coefficients.proofs.Turns.{word_room, edge_finite, put_none, put_more}
use Rattle.layer_coefficients.proofs.put_coefficients.Statement.{statement}
use Rattle.layer_coefficients.proofs.put_coefficients.Tie as tie

abbrev invariant-loop : tie.invariant-loop-edge
invariant-loop model from intervals edges bytes₀ each edge₀ bytes edge =
    (edge ≤ edges) × (length bytes ≡ length bytes₀)
    × (bytes ≡ body_of model from intervals edge ++ drop (edge * (4 * (intervals + 3))) bytes₀)

abbrev decreases-loop : tie.decreases-loop-edge
decreases-loop model from intervals edges bytes₀ each edge₀ bytes edge = edges - edge

-- ---- what is known in a turn: its edge lies within the model, and its words within the bytes
inside : (c : tie.In-loop-edge invariant-loop decreases-loop) → let a = c.args in
    Within a.model.now a.from a.intervals a.bytes.now c.loop-edge.edge
inside c = within c.requires.0 c.loop-edge-test.true

turned : (c : tie.After-put_floats-arg-1 invariant-loop decreases-loop) → let a = c.args in
    Within a.model.now a.from a.intervals a.bytes.now c.loop-edge.edge
turned c = inside c.before

-- ---- the needs
add_each : tie.Need-overflow_add-each invariant-loop decreases-loop
add_each c = omega (arith, c.requires.0.grid)

mul_each : tie.Need-overflow_mul-each invariant-loop decreases-loop
mul_each c = omega (arith, c.requires.0.grid)

loop_holds : tie.Need-loop-edge-init invariant-loop decreases-loop
loop_holds c = (omega arith, refl, put_none _ _ _ _)

add_at : tie.Need-overflow_add-at invariant-loop decreases-loop
add_at c = omega (arith, (inside c).model, (inside c).body, (inside c).grid, (inside c).small)

mul_at : tie.Need-overflow_mul-at invariant-loop decreases-loop
mul_at c = omega (arith, (inside c).model, (inside c).body, (inside c).grid, (inside c).small)

add_at_2 : tie.Need-overflow_add-at-in-loop-edge invariant-loop decreases-loop
add_at_2 c = omega (arith, (inside c).model, (inside c).body, (inside c).grid, (inside c).small)

add_at_3 : tie.Need-overflow_add-at-in-loop-edge-2 invariant-loop decreases-loop
add_at_3 c = omega (arith, (inside c).model, (inside c).body, (inside c).grid, (inside c).small)

add_end : tie.Need-overflow_add-end invariant-loop decreases-loop
add_end c = omega (arith, (inside c).model, (inside c).body, (inside c).grid, (inside c).small)

add_end_2 : tie.Need-overflow_add-end-in-loop-edge invariant-loop decreases-loop
add_end_2 c = omega (arith, (inside c).model, (inside c).body, (inside c).grid, (inside c).small)

mul_place : tie.Need-overflow_mul-place invariant-loop decreases-loop
mul_place c = omega (arith, (inside c).model, (inside c).body, (inside c).grid, (inside c).small)

sub_put_floats : tie.Need-slice_bounds-put_floats-count invariant-loop decreases-loop
sub_put_floats c = omega (arith, (inside c).body)

part_put_floats_start : tie.Need-slice_bounds-put_floats-start invariant-loop decreases-loop
part_put_floats_start c = omega (arith, (inside c).body)

part_put_floats_end : tie.Need-slice_bounds-put_floats-end invariant-loop decreases-loop
part_put_floats_end c = omega (arith, (inside c).body)

mul_put_floats : tie.Need-offset_bounds-model-at invariant-loop decreases-loop
mul_put_floats c = omega (arith, (turned c).model)

sub_put_floats_2 : tie.Need-slice_bounds-put_floats-count-in-loop-edge invariant-loop decreases-loop
sub_put_floats_2 c = omega (arith, (turned c).model)

part_put_floats_start_2 : tie.Need-slice_bounds-put_floats-start-in-loop-edge invariant-loop decreases-loop
part_put_floats_start_2 c = omega (arith, (turned c).model)

part_put_floats_end_2 : tie.Need-slice_bounds-put_floats-end-in-loop-edge invariant-loop decreases-loop
part_put_floats_end_2 c = omega (arith, (turned c).model)

put_floats_requires : tie.Need-put_floats-requires invariant-loop decreases-loop
put_floats_requires c κs =
    let at_arg = c.before in
    let at-loop = at_arg.before.before in
    let w = turned at_arg in (
      word_room _ _ _ _ _ _ at-loop.loop-edge.bytes at-loop.args.model.now w at-loop.loop-edge.invariant.1
          (omega (arith, w.model)),
      edge_finite _ _ _ _ _ w at-loop.requires.1,
    )

add_edge : tie.Need-overflow_step-edge invariant-loop decreases-loop
add_edge c = omega arith

loop_less : tie.Need-loop-edge-smaller invariant-loop decreases-loop
loop_less c = omega arith

loop_again : tie.Need-loop-edge-preserved invariant-loop decreases-loop
loop_again c =
    let at-bytes = c.before in
    let at-put = at-bytes.before in
    let at_arg = at-put.before.before in
    let inv = at_arg.loop-edge.invariant in (
      omega arith,
      at-bytes.bytes-1.given.1 ∙ inv.1,
      put_more _ _ _ _ _ _ _ (turned at_arg) inv.1 inv.2 at-put.put_floats.ensures,
    )

same_length : tie.Need-shape_of-bytes invariant-loop decreases-loop
same_length c = c.loop-edge.invariant.1

returns : tie.Need-returns invariant-loop decreases-loop
returns c =
    let last : c.loop-edge.edge ≡ c.args.edges = omega arith in
    c.loop-edge.invariant.2 ∙ rw last

pub put_coefficients_spec : {M : Type 1} → statement M
put_coefficients_spec =
    tie.close
    (tie.spec
    invariant-loop
    decreases-loop
    add_each
    mul_each
    loop_holds
    add_at
    mul_at
    add_at_2
    add_at_3
    add_end
    add_end_2
    mul_place
    sub_put_floats
    part_put_floats_start
    part_put_floats_end
    mul_put_floats
    sub_put_floats_2
    part_put_floats_start_2
    part_put_floats_end_2
    put_floats_requires
    add_edge
    loop_less
    loop_again
    same_length
    returns)
