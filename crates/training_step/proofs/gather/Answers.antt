-- Cleared in front, then added to.
use Rattle.std.proofs.Common.{arith}
use lib.Seq.{length-take-le}
use Rattle.batch_gradients.proofs.Checked.{full_rows}
use Rattle.training_step.proofs.Stepping.{lent_clean, gather_done}
use Rattle.training_step.proofs.gather.Goals as goal

pub take_rows-requires : goal.take_rows-requires
take_rows-requires c =
    let p = c.requires in (
      p.room.fits,
      full_rows _ _ _ p.batch,
      length-take-le _ _ (omega (arith, p.room.gradients, c.clear.auto.xs)),
      p.finite,
      λ _. lent_clean _ _ _ c.clear.ensures,
    )

pub returns : goal.returns
returns c =
    gather_done _ _ _ _ _ _ _ _ _ _ _ _ c.scale_of-scale.ensures c.requires.batch c.clear.ensures
    c.take_rows.auto.gradients c.take_rows.ensures
