-- The widths are the words of the part, one chunk each.
use Rattle.std.proofs.Common.{◌≡◌, ◌+◌, ◌-◌, ◌*◌, arith, length, length-append, ◌∙◌, sym}
use Rattle.config.proofs.Folded.{fold_none, fold_more, verdict_is}
use Rattle.words.proofs.Tables.{words_length}
use Rattle.image_reading.proofs.Chunks.{NextChunk, left, after}
use Rattle.image_reading.proofs.check_widths.Goals as goal

pub loop-word-init : goal.loop-word-init
loop-word-init c =
    let whole : c.args.from + 4 * c.args.count - c.args.from ≡ 4 * c.args.count = omega arith in
    let part = rw whole at c.chunks_exact-word-items.ensures.rest in
    record { some = omega arith; size = cc; rest = cc; folded = c.new-shape.ensures ∙ fold_none _ _ }

pub loop-word-preserved : goal.loop-word-preserved
loop-word-preserved c =
    let at = c.loop-word.invariant in
    let step = c.in-Some.ensures.steps in
    let done = length c.loop-word.yielded in
    let here : NextChunk c.args.image.now c.args.from c.args.count done c.in-Some.word.now c.next.new.self.rest.now =
    after _ _ _ done _ c.requires at.rest _ _ step.1.0 (step.1.1 ∙ at.size) in
    rw length-append
    (record {
      some = omega (arith, here.more);
      size = step.0 ∙ at.size;
      rest = here.rest;
      folded = c.take-shape.ensures ∙ fold_more _ _ done _ _ at.folded (c.size.ensures.0 ∙ here.word);
    })

pub returns : goal.returns
returns c =
    let at = c.loop-word.invariant in
    let all : length c.loop-word.yielded ≡ c.args.count =
    omega (arith, c.in-None.ensures.steps.1.0, left _ _ _ _ _ c.requires at.rest, at.some, at.size) in
    c.verdict.ensures ∙ verdict_is _ _ _ _ _ _ c.per_edge-each.ensures (sym (words_length _ _ _)) all at.folded
