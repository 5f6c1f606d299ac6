-- The checks up to 9, the rows, the sweep.
use Rattle.std.proofs.Common.{◌*◌, ap, sym, arith}
use Rattle.std.proofs.lemmas.Result.{err_from_is_err_and}
use Rattle.config.specs.declared.Sizes.{Sizes}
use Rattle.config.proofs.Answers.{accepted, rejected}
use Rattle.admission.proofs.Passed.{past9_for_nodes}
use Rattle.split_training.proofs.Adding.{fitting, swept_by, not_begun, begun}
use Rattle.split_training.proofs.accumulating.accumulate.Goals as goal

pub returns-in_err-sizes : goal.returns-in_err-sizes
returns-in_err-sizes c =
    let p = err_from_is_err_and c.from_residual.result c.from_residual.ensures.1 in
    rw (p.1, p.2) (not_begun _ _ _ _ _ _ _ _ _ (rejected _ _ _ (sym c.in_err-sizes.ensures)))

pub accumulate_sound-answer-requires : goal.accumulate_sound-answer-requires
accumulate_sound-answer-requires c = fitting _ _ _ _ (accepted _ _ _ (sym c.in_ok-sizes.ensures)).passed

pub overflow_mul-sizes : goal.overflow_mul-sizes
overflow_mul-sizes c =
    let a = accepted _ _ _ (sym c.in_ok-sizes.ensures) in
    let k = past9_for_nodes _ _ _ _ a.passed in
    omega (arith, k.size.few_nodes, ap (λ (s : Sizes). s.nodes) a.sizes)

pub clear-requires : goal.clear-requires
clear-requires c =
    let a = accepted _ _ _ (sym c.in_ok-sizes.ensures) in
    let k = past9_for_nodes _ _ _ _ a.passed in
    omega (arith, k.work, ap (λ (s : Sizes). s.nodes) a.sizes, c.accumulate_sound-answer.auto.work)

pub returns : goal.returns
returns c =
    let a = accepted _ _ _ (sym c.in_ok-sizes.ensures) in
    begun _ _ _ _ _ _ _ _ _ a.passed c.accumulate_sound-answer.ensures
    (swept_by _ (ap (λ (s : Sizes). 2 * s.nodes) a.sizes) c.clear.ensures)
