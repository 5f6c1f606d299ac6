use Rattle.std.proofs.Common.{◌≡◌, ap, ◌∙◌, List, ℕ, Bool, length, arith}
use Rattle.std.proofs.Math.Nat.{le_refl}
use Rattle.floats.specs.Sums.{at, flat_to}
use Rattle.floats.proofs.Loops.{room}
use Rattle.layers.specs.Net.{basis_of}
use Rattle.touched_layer.specs.Touched.{edge_touched, node_touched, layer_touched}
use Rattle.touched_layer.specs.Marks.{marked_by}
use Rattle.touched_layer.proofs.Rows.{none_in_rows, flat_in_rows, whole_row}
use Rattle.touched_layer.proofs.Layers.{edge_length, node_length}
use Rattle.touched_layer.proofs.layer.mark_layer.Goals as goal

pub loop-i-init : goal.loop-i-init
unfolding flat_to
loop-i-init c = none_in_rows 0 _ c.args.n _

pub loop-i-preserved : goal.loop-i-preserved
loop-i-preserved c =
    let i = c.loop-i.i in
    flat_in_rows (λ (j : ℕ). edge_touched (basis_of c.args.mesh.grid) (at c.args.inputs.now j)) _ (λ j. edge_length _ _) _
    c.args.n i _ _ _ (room i (length c.args.inputs.now) _ _ c.loop-i-test.true (le_refl _)) c.loop-i.invariant
    c.mark_input.ensures

pub returns : goal.returns
unfolding layer_touched node_touched
returns c =
    let xs = c.args.inputs.now in
    let g = c.args.mesh.grid in
    let all : c.loop-i.i ≡ length xs = omega arith in
    (rw all at c.loop-i.invariant)
    ∙ ap (λ (bs : List Bool). marked_by (flat_to (λ (o : ℕ). bs) c.args.n) c.args.map.now)
    (whole_row _ (node_touched (basis_of g) xs) (node_length g xs))
