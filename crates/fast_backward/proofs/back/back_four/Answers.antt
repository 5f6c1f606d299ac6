-- After i turns i gradients are written.
use Rattle.std.proofs.Common.{◌≡◌, ℕ, ◌+◌, ◌-◌, ◌<◌, ◌≤◌, ◌∙◌, sym, ap, length, take, drop, rules, arith}
use Rattle.floats.specs.Sums.{sum_to, at}
use Rattle.floats.proofs.Loops.{tab_more}
use Rattle.floats.proofs.Places.{piece_length}
use Rattle.layers.specs.Net.{basis_of}
use Rattle.fast_backward.specs.InputGradients.{back_at}
use Rattle.fast_backward.proofs.Written.{back_written}
use Rattle.fast_backward.proofs.back.back_four.Goals as goal

pub loop-i-preserved : goal.loop-i-preserved
loop-i-preserved c =
    let d = c.split_at_mut-results.result.0.now in
    let inside : c.loop-i.i < length d = search rules in
    let a = c.args in
    let l = c.split_at_mut-before.result.0.now in
    let xs = take (a.from + a.w - a.from) (drop a.from l) in
    let ups = take a.n c.split_at_mut-results.result.1.now in
    let i = c.loop-i.i in
    let there : a.from + a.w ≤ length l = omega (arith, c.requires.0.before, c.split_at_mut-before.ensures.front_len) in
    let wide : length xs ≡ a.w = piece_length l a.from a.w there in
    let same = ap (λ (k : ℕ). sum_to (back_at (basis_of a.mesh.grid) a.params.now k (at xs i) ups i) (length ups)) (sym wide) in
    tab_more _ _ _ d _ c.loop-i.invariant (c.input_gradient.ensures ∙ same) inside

pub returns : goal.returns
returns c =
    let a = c.args in
    let first = c.split_at_mut-before.ensures in
    let second = c.split_at_mut-results.ensures in
    let last : c.loop-i.i ≡ a.w = omega (arith, second.front_len) in
    back_written _ _ a.work.now _ _ _ _ _ a.from a.w a.to a.n c.loop-i.i first.front first.back second.back second.front_len last
    c.requires.0.before c.requires.0.room c.loop-i.invariant
