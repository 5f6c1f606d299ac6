-- The checks, the steps, the sweep.
use Rattle.std.proofs.Common.{◌*◌, ap, refl, sym, arith}
use Rattle.std.proofs.lemmas.Result.{err_from_is_err_and}
use Rattle.config.specs.declared.Sizes.{Sizes}
use Rattle.config.proofs.Answers.{accepted, rejected}
use Rattle.admission.proofs.Passed.{past9_in_training}
use Rattle.training.proofs.Whole.{roomy, swept_by, train_refused, train_done_lem}
use Rattle.training.proofs.calls.train.Goals as goal

pub returns-in_err-sizes : goal.returns-in_err-sizes
returns-in_err-sizes c =
    let p = err_from_is_err_and c.from_residual.result c.from_residual.ensures.1 in
    rw (p.1, p.2)
    (train_refused _ _ _ _ _ _ _ _ _ _ _ _ refl (rejected _ _ _ (sym c.in_err-sizes.ensures)).outcome)

pub train_sound-answer-requires : goal.train_sound-answer-requires
train_sound-answer-requires c =
    roomy _ _ _ _ _ (past9_in_training _ _ _ _ _ (accepted _ _ _ (sym c.in_ok-sizes.ensures)).passed)

-- the sizes that were answered are P and N
pub clear-requires : goal.clear-requires
clear-requires c =
    let a = accepted _ _ _ (sym c.in_ok-sizes.ensures) in
    let k = past9_in_training _ _ _ _ _ a.passed in
    omega (arith, k.gradients, ap (λ (s : Sizes). s.parameters) a.sizes, c.train_sound-answer.auto.gradients)

pub overflow_mul-sizes : goal.overflow_mul-sizes
overflow_mul-sizes c =
    let a = accepted _ _ _ (sym c.in_ok-sizes.ensures) in
    let k = past9_in_training _ _ _ _ _ a.passed in
    omega (arith, k.nodes.size.few_nodes, ap (λ (s : Sizes). s.nodes) a.sizes)

pub clear-requires-2 : goal.clear-requires-2
clear-requires-2 c =
    let a = accepted _ _ _ (sym c.in_ok-sizes.ensures) in
    let k = past9_in_training _ _ _ _ _ a.passed in
    omega (arith, k.nodes.work, ap (λ (s : Sizes). s.nodes) a.sizes, c.train_sound-answer.auto.work)

pub returns : goal.returns
returns c =
    let a = accepted _ _ _ (sym c.in_ok-sizes.ensures) in
    train_done_lem _ _ _ _ _ _ _ _ _ _ _ _ _ _ _ _ a.passed c.train_sound-answer.ensures
    (swept_by _ (ap (λ (s : Sizes). s.parameters) a.sizes) c.clear.ensures)
    (swept_by _ (ap (λ (s : Sizes). 2 * s.nodes) a.sizes) c.clear-2.ensures)
