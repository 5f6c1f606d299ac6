-- The call's statement determines its answer and the final contents of all memory lent to it (R3.6): any two outcomes
-- that it allows coincide. Assumes nothing.
use mathlib.Core.Path.{sym, ◌∙◌}
use Rattle.floats.proofs.Determined.{Determined}
use Rattle.npy_writing.specs.contracts.write_npy as write
use Rattle.npy_writing.proofs.write_npy.Reads as write-reads

-- the answer and the file
pub npy_write_determined : Determined write.ended write-reads.Post
npy_write_determined κs a r r' w w' p q =
    let file = p.file ∙ sym q.file in
    (p.answer ∙ sym q.answer, (λ i. (tt, (tt, (tt, (tt, (file i, tt)))))))
