-- Where the line is malformed, what a turn stores, and the answer at the line's end.
use Rattle.std.proofs.Common.{◌≡◌, take, Some, arith}
use Rattle.replay.specs.Lines.{word_of}
use Rattle.replay.proofs.Words.{malformed, taken_no_space, taken_full, taken_more, taken_all, words_read}
use Rattle.replay.proofs.tagged.Goals as goal
use Rattle.replay.proofs.tagged.Goals.{then-mark-ne32-via-then-mark-ne32, then-mark-ne32-via-else-mark-ne32+then-count-words}

pub returns-then-mark-ne32 : goal.returns-then-mark-ne32
returns-then-mark-ne32 c =
    let t = c.loop-mark.invariant in
    let left = c.in-Some.ensures.cases.0 in
    malformed _ _ _
    (elim c.then-mark-ne32.branch [
      | then-mark-ne32-via-then-mark-ne32 w ↦ taken_no_space t _ _ left _ w.if-mark-ne32.true
      | then-mark-ne32-via-else-mark-ne32+then-count-words w ↦ taken_full t _ _ left _ w.if-mark-ne32.false w.if-count-words.true
    ])

pub loop-mark-preserved : goal.loop-mark-preserved
loop-mark-preserved c =
    let left = c.in-Some.ensures.cases.0 in
    let word : word_of (take c.bytes_before.result c.in-Some.behind.now) ≡ Some c.in-Some-hex_word.number = cc in
    rw c.split_at.ensures.back
    (taken_more c.loop-mark.invariant _ _ left _ c.if-mark-ne32.false c.bytes_before.ensures.first _ word (omega arith))

pub returns : goal.returns
returns c =
    let t = c.loop-mark.invariant in
    words_read _ _ _ _ c.loop-mark.words t.room t.same (taken_all t c.in_default.ensures.cases)
