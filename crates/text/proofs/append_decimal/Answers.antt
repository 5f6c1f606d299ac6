use Rattle.std.proofs.Common.{◌≤◌, ◌<◌, ◌+◌, ◌-◌, ◌%◌, ◌∙◌, sym, arith}
use Rattle.std.proofs.Math.ListN.{length-set}
use Rattle.text.proofs.Appends.{retold, within}
use Rattle.text.proofs.Decimals.{two_digits, digit_less, digit_more, last_text, text_short}
use Rattle.text.proofs.append_decimal.Goals as goal

pub loop-rest-preserved : goal.loop-rest-preserved
loop-rest-preserved c =
    let at = c.loop-rest in
    let more : 10 ≤ at.rest = omega arith in
    let two = two_digits at.rest at.from more at.invariant.room in
    record {
      long = simp length-set (omega arith);
      some = omega arith;
      within = omega arith;
      room = digit_less at.rest at.from more at.invariant.room;
      same = sym (digit_more at.digits at.rest at.from at.invariant.some (omega arith) more) ∙ at.invariant.same;
    }

pub returns : goal.returns
returns c =
    let at = c.loop-rest in
    let all = at.invariant in
    let first = at.from - 1 in
    let small : at.rest < 10 = omega arith in
    let text =
    last_text at.digits at.rest at.from (20 - first) _ all.long all.some all.within small all.same
    (omega arith) in
    within (retold c.append.ensures text)
    (rw (← text) (text_short at.digits first (48 + at.rest % 10) (20 - first) all.long))
