use Rattle.std.proofs.Common.{rules}
use Rattle.npy_header.proofs.Faults.{judged}
use Rattle.npy_header.proofs.entries.check_text.Goals as goal

pub returns-in_err-refuse_unless : goal.returns-in_err-refuse_unless
returns-in_err-refuse_unless c = rw (judged _ _ _ c.entries-found.ensures) (search rules)

pub returns : goal.returns
returns c = rw (judged _ _ _ c.entries-found.ensures) (search rules)
