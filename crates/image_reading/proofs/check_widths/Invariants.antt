-- The loop folds the widths, a word at a time.
use Rattle.std.proofs.Common.{◌≡◌, ◌*◌, ◌≤◌, length, take, drop}
use Rattle.config.specs.Fold.{shape_to}
use Rattle.words.specs.Words.{words_from}
use Rattle.image_reading.proofs.check_widths.Given as goal

abbrev pub invariant-loop-word : goal.invariant-loop-word
invariant-loop-word l =
    let done = length l.yielded in
    record {
      some : done ≤ l.count;
      size : l.word-iterator.size ≡ 4;
      rest : l.word-iterator.rest.now ≡ drop (4 * done) (take (4 * l.count) (drop l.from l.image));
      folded : l.shape ≡ shape_to l.each (words_from l.image l.from l.count) done;
    }
