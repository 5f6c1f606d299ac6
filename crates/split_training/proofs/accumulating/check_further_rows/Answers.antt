-- The rows behind the first pass with all.
use Rattle.split_training.proofs.Adding.{further}
use Rattle.split_training.proofs.accumulating.check_further_rows.Goals as goal

pub returns : goal.returns
returns c = further c.take_rows.ensures
