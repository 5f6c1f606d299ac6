-- Each turn adds the error of the next output.
use Rattle.std.proofs.Common.{◌∙◌, arith, length-append, sym}
use Rattle.std.proofs.lemmas.Slice.Zip.{zip_turn, zip_end}
use Rattle.std.proofs.lemmas.Result.{err_from_is_err_and}
use Rattle.floats.proofs.Loops.{sum_none}
use Rattle.loss.specs.Steps.{errors_to}
use Rattle.loss.proofs.Errors.{none_added, one_added, stop_added, all_added_lem, pair_added}
use Rattle.loss.proofs.add_errors.Goals as goal

pub loop-output-init : goal.loop-output-init
loop-output-init c = none_added _ (sum_none _ _)

pub returns-in_err-total : goal.returns-in_err-total
unfolding errors_to
returns-in_err-total c =
    let z = zip_turn c.args.outputs.now c.args.targets.now c.loop-output.yielded c.into_iter-output-iterator.result
    c.loop-output.output-iterator c.next.new.self c.next.result (cc) (cc) c.loop-output.yielded_by _ c.in-Some.is
    c.next.ensures.steps in
    let p = err_from_is_err_and c.from_residual.result c.from_residual.ensures.1 in
    let e = pair_added c.args.sum _ _ _ _ _ _ c.loop-output.invariant z.2 z.3 c.add_error.ensures in
    rw (p.1, p.2) (stop_added _ z.0 c.loop-output.invariant (sym e ∙ c.in_err-total.was))

pub loop-output-preserved : goal.loop-output-preserved
loop-output-preserved c =
    let z = zip_turn c.args.outputs.now c.args.targets.now c.loop-output.yielded c.into_iter-output-iterator.result
    c.loop-output.output-iterator c.next.new.self c.next.result (cc) (cc) c.loop-output.yielded_by _ c.in-Some.is
    c.next.ensures.steps in
    let e = pair_added c.args.sum _ _ _ _ _ _ c.loop-output.invariant z.2 z.3 c.add_error.ensures in
    rw length-append (one_added c.loop-output.invariant (sym e ∙ c.in_ok-total.was))

pub returns : goal.returns
unfolding errors_to
returns c =
    let n = zip_end c.args.outputs.now c.args.targets.now c.loop-output.yielded c.into_iter-output-iterator.result
    c.loop-output.output-iterator c.next.new.self c.next.result (cc) (cc) c.loop-output.yielded_by c.in-None.is
    c.next.ensures.steps in
    all_added_lem _ (omega (arith, n, c.requires)) c.loop-output.invariant
