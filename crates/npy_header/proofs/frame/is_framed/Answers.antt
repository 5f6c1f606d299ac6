use mathlib.Core.Path.{sym}
use Rattle.npy_header.specs.File.{magic, is_framed}
use Rattle.npy_header.proofs.Frames.{too_short}
use Rattle.npy_header.proofs.frame.is_framed.Goals as goal

pub returns-then-file-lt-TEXT_AT : goal.returns-then-file-lt-TEXT_AT
returns-then-file-lt-TEXT_AT c = sym (too_short _ c.if-file-lt-TEXT_AT.true)

pub returns : goal.returns
unfolding is_framed magic
returns c = rw (c.spells-magic.ensures, c.body_at.ensures)
