-- The number stands behind the label.
use Rattle.text.proofs.Appends.{exact, both_within}
use Rattle.text.proofs.append_labelled.Goals as goal

pub returns : goal.returns
returns c = both_within (exact c.append-next.ensures) c.append_number.ensures
