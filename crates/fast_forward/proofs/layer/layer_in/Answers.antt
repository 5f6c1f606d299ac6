-- After j turns each output is the sum of j inputs.
use Rattle.std.proofs.Common.{◌≡◌, ℕ, ◌-◌, ◌+◌, ◌≤◌, ◌∙◌, sym, ap, length, take, drop, arith}
use Rattle.floats.specs.Sums.{at}
use Rattle.floats.proofs.Places.{piece_length}
use Rattle.layers.specs.Net.{basis_of}
use Rattle.fast_forward.specs.Inputs.{added_input}
use Rattle.fast_forward.proofs.Parts.{layer_written}
use Rattle.fast_forward.proofs.Summed.{summed_none, summed_more, summed_all}
use Rattle.fast_forward.proofs.layer.layer_in.Goals as goal

pub loop-j-init : goal.loop-j-init
loop-j-init c = summed_none _ _ _ _ _ _ c.clear.ensures

pub loop-j-preserved : goal.loop-j-preserved
loop-j-preserved c =
    let a = c.args in
    let l = c.split_at_mut-before.result.0.now in
    let xs = take (a.from + a.w - a.from) (drop a.from l) in
    let there : a.from + a.w ≤ length l = omega (arith, c.requires.before, c.split_at_mut-before.ensures.front_len) in
    let wide : length xs ≡ a.w = piece_length l a.from a.w there in
    let room : a.n ≤ length c.clear.new.xs =
    omega (arith, c.requires.room, c.clear.auto.xs, c.split_at_mut-before.ensures.back_len) in
    summed_more _ _ _ _ _ c.loop-j.invariant c.loop-j-test.true room
    (c.add_input.ensures
    ∙ ap (λ (k : ℕ). added_input (basis_of a.mesh.grid) a.params.now k c.loop-j.j (at xs c.loop-j.j) c.loop-j.behind a.n) (sym wide))

pub returns : goal.returns
returns c =
    let cut = c.split_at_mut-before.ensures in
    let a = c.args in
    layer_written _ _ a.work.now _ _ _ a.from a.w a.to a.n cut.front cut.back c.requires.before
    (summed_all _ _ _ _ _ c.clear.ensures c.loop-j.invariant (omega arith))
