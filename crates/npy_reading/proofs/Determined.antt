-- The call's statement determines its answer and the final contents of all memory lent to it (R3.6): any two outcomes
-- that it allows coincide. Assumes nothing.
use mathlib.Core.Path.{sym, ◌∙◌}
use Rattle.floats.proofs.Determined.{Determined}
use Rattle.npy_reading.specs.contracts.read_npy as read
use Rattle.npy_reading.proofs.read_npy.Reads as read-reads

-- the answer and the model
pub npy_read_determined : Determined read.ended read-reads.Post
npy_read_determined κs a r r' w w' p q =
    let model = p.model ∙ sym q.model in
    (p.answer ∙ sym q.answer, (λ i. (tt, (tt, (model i, (tt, (tt, tt)))))))
