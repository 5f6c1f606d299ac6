-- The rows behind the first are tested, and then all are added.
use Rattle.std.proofs.Common.{◌∙◌}
use Rattle.std.proofs.lemmas.Result.{err_from_is_err_and}
use Rattle.row_gradients.proofs.Spans.{refit}
use Rattle.batch_gradients.proofs.Checked.{full_rows}
use Rattle.split_training.proofs.Adding.{none_added, added_or_none}
use Rattle.split_training.proofs.accumulating.add_tested.Goals as goal

pub returns-in_err-check_further_rows : goal.returns-in_err-check_further_rows
returns-in_err-check_further_rows c =
    let p = err_from_is_err_and c.from_residual.result c.from_residual.ensures.1 in
    rw (p.1, p.2) (none_added c.in_err-check_further_rows.ensures)

pub take_rows-requires : goal.take_rows-requires
take_rows-requires c =
    let p = c.requires.0 in
    let sizes = c.check_further_rows.auto in (
      refit p.fits sizes.work,
      full_rows _ _ _ p.batch,
      sizes.gradients ∙ p.gradients,
      p.finite,
      c.no_minus_zero-clean.ensures.clean,
    )

pub returns : goal.returns
returns c = added_or_none c.in_ok-check_further_rows.ensures _ c.scale_of-scale.ensures c.take_rows.ensures
