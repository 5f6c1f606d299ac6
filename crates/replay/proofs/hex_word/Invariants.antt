-- The number is what the digits so far stand for.
use Rattle.replay.proofs.Digits.{Read}
use Rattle.replay.proofs.hex_word.Given as goal

abbrev pub invariant-loop-byte : goal.invariant-loop-byte
invariant-loop-byte l = Read l.text l.number l.byte-index
