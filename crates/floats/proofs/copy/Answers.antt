-- A number more, and all of them.
use Rattle.std.proofs.Common.{◌≡◌, ◌++◌, ◌∙◌, List, Float, length, drop, refl, ap, arith}
use lib.Ieee.{nan}
use Rattle.floats.proofs.Loops.{tab_none, tab_more, tab_self}
use Rattle.floats.proofs.copy.Goals as goal

pub loop-i-init : goal.loop-i-init
loop-i-init c = tab_none _ _

pub loop-i-preserved : goal.loop-i-preserved
loop-i-preserved c = tab_more _ _ _ _ _ c.loop-i.invariant refl (omega (arith, c.requires, c.loop-i-test.true, c.loop-i.auto.i-end))

pub returns : goal.returns
returns c =
    let from = c.args.from.now in
    let e : c.loop-i.i ≡ length from = omega (arith, c.loop-i.auto.i-end, c.loop-i-test.false) in
    c.loop-i.invariant ∙ rw e (ap (λ (l : List Float). l ++ drop (length from) c.args.to.now) (tab_self from nan))
