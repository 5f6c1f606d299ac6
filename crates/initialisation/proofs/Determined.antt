-- Each call's statement determines its answer and the final contents of all memory lent to it (R3.6): any two outcomes
-- that it allows coincide. Assumes nothing.
use mathlib.Core.Path.{sym, ◌∙◌}
use Rattle.floats.proofs.Determined.{Determined}
use Rattle.initialisation.specs.contracts.initialise as initialise
use Rattle.initialisation.proofs.initialise.Reads as initialise-reads

-- the answer and the model
pub initialise_determined : Determined initialise.ended initialise-reads.Post
initialise_determined κs a r r' w w' p q =
    let model = p.model ∙ sym q.model in
    (p.answer ∙ sym q.answer, (λ i. (tt, (tt, (tt, (model i, tt))))))
