-- A digit more.
use Rattle.replay.proofs.Digits.{read_more}
use Rattle.replay.proofs.hex_word.Goals as goal

pub loop-byte-preserved : goal.loop-byte-preserved
loop-byte-preserved c =
    let d = c.in_ok-number.ensures in
    read_more c.loop-byte.invariant _ c.loop-byte-test.true d.0 d.1
