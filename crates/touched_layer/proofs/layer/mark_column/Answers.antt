use Rattle.std.proofs.Common.{◌+◌, ◌*◌, ◌<◌, length, arith}
use Rattle.floats.proofs.Loops.{room}
use Rattle.touched_layer.proofs.Marking.{marked_first}
use Rattle.touched_layer.proofs.Rows.{one_byte}
use Rattle.touched_layer.proofs.layer.mark_column.Goals as goal

pub loop-r-init : goal.loop-r-init
loop-r-init c = marked_first _ _

pub loop-r-preserved : goal.loop-r-preserved
loop-r-preserved c =
    let r = c.loop-r.r in
    let lies = room r c.args.n c.args.row (length c.args.map.now) c.loop-r-test.true c.requires.1 in
    let inside : r * c.args.row + c.args.at < length c.loop-r.map = omega (arith, lies) in
    one_byte _ _ _ (omega arith) r _ _ _ c.loop-r.invariant inside c.mark.ensures
