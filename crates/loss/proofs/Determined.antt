-- Each call's statement determines its answer and the final contents of all memory lent to it (R3.6): any two outcomes
-- that it allows coincide. Assumes nothing.
use mathlib.Core.Path.{sym, ◌∙◌}
use Rattle.floats.proofs.Determined.{Determined}
use Rattle.loss.specs.contracts.mse_loss as loss
use Rattle.loss.proofs.mse_loss.Reads as loss-reads

-- the answer and both work slices
pub loss_determined : Determined loss.ended loss-reads.Post
loss_determined κs a r r' w w' p q =
    let first = p.first ∙ sym q.first in
    let second = p.second ∙ sym q.second in
    (p.answer ∙ sym q.answer, (λ i. (tt, (tt, (tt, (tt, (tt, (first i, (second i, tt)))))))))
