-- Each call's statement determines its answer and the final contents of all memory lent to it (R3.6): any two outcomes
-- that it allows coincide, in the answer, the gradients and the work of `accumulate`, and the model of `apply`.
use mathlib.Core.Path.{sym, ◌∙◌}
use Rattle.floats.proofs.Determined.{Determined}
use Rattle.split_training.specs.contracts.accumulating.accumulate as accumulate
use Rattle.split_training.proofs.accumulating.accumulate.Reads as accumulate-reads
use Rattle.split_training.specs.contracts.applying.apply as apply
use Rattle.split_training.proofs.applying.apply.Reads as apply-reads

pub accumulate_determined : Determined accumulate.ended accumulate-reads.Post
accumulate_determined κs a r r' w w' p q =
    let gradients = p.gradients ∙ sym q.gradients in
    let work = p.work ∙ sym q.work in
    (p.answer ∙ sym q.answer, (λ i. (tt, (tt, (tt, (tt, (tt, (tt, (gradients i, (work i, tt))))))))))

pub apply_determined : Determined apply.ended apply-reads.Post
apply_determined κs a r r' w w' p q =
    let model = p.model ∙ sym q.model in
    (p.answer ∙ sym q.answer, (λ i. (tt, (tt, (model i, (tt, (tt, tt)))))))
