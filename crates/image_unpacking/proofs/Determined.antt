-- Each call's statement determines its answer and the final contents of all memory lent to it (R3.6): any two outcomes
-- that it allows coincide. Assumes nothing.
use mathlib.Core.Path.{sym, ◌∙◌}
use Rattle.floats.proofs.Determined.{Determined}
use Rattle.image_unpacking.specs.contracts.unpack as unpack
use Rattle.image_unpacking.proofs.unpack.Reads as unpack-reads

-- the answer, the widths and the model
pub unpack_determined : Determined unpack.ended unpack-reads.Post
unpack_determined κs a r r' w w' p q =
    let widths = p.widths ∙ sym q.widths in
    let model = p.model ∙ sym q.model in
    (p.answer ∙ sym q.answer, (λ i. (tt, (widths i, (model i, tt)))))
