-- Forward, back, and every layer's part.
use Rattle.std.proofs.lemmas.Result.{err_from_is_err_and}
use Rattle.row_gradients.proofs.Rows.{stopped, passed, row_nodes, added}
use Rattle.row_gradients.proofs.take_row.Goals as goal

pub returns-in_err-fill_nodes : goal.returns-in_err-fill_nodes
returns-in_err-fill_nodes c =
    let p = err_from_is_err_and c.from_residual.result c.from_residual.ensures.1 in
    rw (p.1, p.2) (stopped c.in_err-fill_nodes.ensures)

pub back_layers-requires : goal.back_layers-requires
back_layers-requires c =
    let t = passed c.requires.0 c.fill_nodes.auto.work c.in_ok-fill_nodes.ensures in
    (t.fits, c.requires.3, row_nodes t, c.walk_end-end.ensures, c.requires.4)

pub returns : goal.returns
returns c =
    added (passed c.requires.0 c.fill_nodes.auto.work c.in_ok-fill_nodes.ensures) c.if-not-add.false c.back_layers.ensures
    c.add_layers.ensures
