-- After i turns i words are written.
use Rattle.std.proofs.Common.{◌≡◌, ◌++◌, ◌*◌, drop}
use Rattle.words.specs.Words.{packed}
use Rattle.words.proofs.Packs.{bits_in}
use Rattle.words.proofs.put_floats.Given as goal

abbrev pub invariant-loop-i : goal.invariant-loop-i
invariant-loop-i l = l.bytes ≡ packed (bits_in l.floats) l.i ++ drop (l.i * 4) l.initial.bytes
