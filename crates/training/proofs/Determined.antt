-- Each call's statement determines its answer and the final contents of all memory lent to it (R3.6): any two outcomes
-- that it allows coincide, in the answer, the model, the gradients and the work.
use mathlib.Core.Path.{sym, ◌∙◌}
use Rattle.floats.proofs.Determined.{Determined}
use Rattle.training.specs.contracts.calls.train as train
use Rattle.training.proofs.calls.train.Reads as train-reads
use Rattle.training.specs.contracts.calls.train_step as step
use Rattle.training.proofs.calls.train_step.Reads as step-reads

pub train_determined : Determined train.ended train-reads.Post
train_determined κs a r r' w w' p q =
    let model = p.leaves.model ∙ sym q.leaves.model in
    let gradients = p.leaves.gradients ∙ sym q.leaves.gradients in
    let work = p.leaves.work ∙ sym q.leaves.work in
    (p.answer ∙ sym q.answer, (λ i. (tt, (tt, (model i, (tt, (tt, (tt, (tt, (gradients i, (work i, tt)))))))))))

pub step_determined : Determined step.ended step-reads.Post
step_determined κs a r r' w w' p q =
    let model = p.leaves.model ∙ sym q.leaves.model in
    let gradients = p.leaves.gradients ∙ sym q.leaves.gradients in
    let work = p.leaves.work ∙ sym q.leaves.work in
    (p.answer ∙ sym q.answer, (λ i. (tt, (tt, (model i, (tt, (tt, (tt, (gradients i, (work i, tt))))))))))
