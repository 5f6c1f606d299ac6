-- After i turns i words are written.
use Rattle.std.proofs.Common.{◌≡◌, ◌++◌, ◌*◌, drop}
use Rattle.words.specs.Words.{packed}
use Rattle.words.proofs.Packs.{word_in}
use Rattle.words.proofs.put_sizes.Given as goal

abbrev pub invariant-loop-i : goal.invariant-loop-i
invariant-loop-i l = l.bytes ≡ packed (word_in l.sizes) l.i ++ drop (l.i * 4) l.initial.bytes
