-- Each call's statement determines its answer and the final contents of all memory lent to it (R3.6): any two outcomes
-- that it allows coincide. Assumes nothing.
use mathlib.Core.Path.{sym, ◌∙◌}
use Rattle.floats.proofs.Determined.{Determined}
use Rattle.prediction.specs.contracts.predict_batch as predict
use Rattle.prediction.proofs.predict_batch.Reads as predict-reads

-- the answer, both work slices and the outputs
pub predict_determined : Determined predict.ended predict-reads.Post
predict_determined κs a r r' w w' p q =
    let first = p.first ∙ sym q.first in
    let second = p.second ∙ sym q.second in
    let outputs = p.outputs ∙ sym q.outputs in
    (p.answer ∙ sym q.answer, (λ i. (tt, (tt, (tt, (tt, (first i, (second i, (outputs i, tt)))))))))
