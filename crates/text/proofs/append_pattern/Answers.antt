-- The byte stands behind the digits.
use Rattle.text.proofs.Appends.{exact, both_within}
use Rattle.text.proofs.append_pattern.Goals as goal

pub returns : goal.returns
returns c = both_within c.append_bits-next.ensures (exact c.append.ensures)
