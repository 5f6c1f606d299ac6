-- A turn adds one output's edge.
use Rattle.std.proofs.Common.{◌<◌, ◌≤◌, ◌∙◌, length, take, rules}
use Rattle.floats.proofs.Loops.{cut}
use Rattle.layers.specs.Layer.{edge_of}
use Rattle.fast_forward.specs.Inputs.{added_input}
use Rattle.fast_forward.proofs.Edges.{added_none, added_more, added_front}
use Rattle.fast_forward.proofs.inputs.add_plain.Goals as goal

pub loop-o-init : goal.loop-o-init
loop-o-init c = added_none

pub loop-o-preserved : goal.loop-o-preserved
loop-o-preserved c =
    let n = c.args.n in
    let inside : c.loop-o.o < n = search rules in
    let long : n ≤ length (take n c.args.outputs.now) = search rules in
    added_more _ c.loop-o.invariant inside long (c.edge.ensures ∙ rw cut)

pub returns : goal.returns
unfolding added_input edge_of
returns c =
    let whole : c.args.n ≤ c.loop-o.o = search rules in
    let silu = c.silu_by-silu.ensures in
    rw silu at (added_front c.args.outputs.now c.loop-o.invariant whole c.requires.1)
