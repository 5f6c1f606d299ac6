-- Each call's statement determines its answer and the final contents of all memory lent to it (R3.6): any two outcomes
-- that it allows coincide. Assumes nothing.
use mathlib.Core.Path.{sym, ◌∙◌}
use Rattle.floats.proofs.Determined.{Determined}
use Rattle.image_writing.specs.contracts.write as write
use Rattle.image_writing.proofs.write.Reads as write-reads

-- the answer and the image
pub write_determined : Determined write.ended write-reads.Post
write_determined κs a r r' w w' p q =
    let image = p.image ∙ sym q.image in
    (p.answer ∙ sym q.answer, (λ i. (tt, (tt, (tt, (image i, tt))))))
