-- After i turns i gradients are written.
use Rattle.std.proofs.Common.{◌≡◌, ◌<◌, length, rules, arith}
use Rattle.floats.proofs.Loops.{tab_more}
use Rattle.fast_backward.proofs.Written.{back_written}
use Rattle.fast_backward.proofs.back.back_plain.Goals as goal

pub loop-i-preserved : goal.loop-i-preserved
loop-i-preserved c =
    let d = c.split_at_mut-results.result.0.now in
    let inside : c.loop-i.i < length d = search rules in
    tab_more _ _ _ d _ c.loop-i.invariant c.input_gradient.ensures inside

pub returns : goal.returns
returns c =
    let a = c.args in
    let first = c.split_at_mut-before.ensures in
    let second = c.split_at_mut-results.ensures in
    let last : c.loop-i.i ≡ a.w = omega (arith, second.front_len) in
    back_written _ _ a.work.now _ _ _ _ _ a.from a.w a.to a.n c.loop-i.i first.front first.back second.back second.front_len last
    c.requires.before c.requires.room c.loop-i.invariant
