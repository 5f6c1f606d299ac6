-- A turn adds one output's edge.
use Rattle.std.proofs.Common.{◌<◌, ◌≤◌, ◌∙◌, length, take, rules}
use Rattle.floats.proofs.Loops.{cut}
use Rattle.fast_forward.proofs.Edges.{added_none, added_more, added_front, all_added_lem}
use Rattle.fast_forward.proofs.inputs.add_four.Goals as goal

pub loop-o-init : goal.loop-o-init
loop-o-init c = added_none

pub loop-o-preserved : goal.loop-o-preserved
loop-o-preserved c =
    let n = c.args.n in
    let inside : c.loop-o.o < n = search rules in
    let long : n ≤ length (take n c.args.outputs.now) = search rules in
    added_more _ c.loop-o.invariant inside long (c.edge_by.ensures ∙ rw cut)

pub returns : goal.returns
returns c =
    let whole : c.args.n ≤ c.loop-o.o = search rules in
    all_added_lem c.requires.0 _ _ _ _ _ c.silu_by-silu.ensures c.values_by-four.ensures
    (added_front _ c.loop-o.invariant whole c.requires.1)
