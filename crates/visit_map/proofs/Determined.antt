-- Each call's statement determines its answer and the final contents of all memory lent to it (R3.6): any two outcomes
-- that it allows coincide. Assumes nothing.
use mathlib.Core.Path.{sym, ◌∙◌}
use Rattle.floats.proofs.Determined.{Determined}
use Rattle.visit_map.specs.contracts.visit_map as visit
use Rattle.visit_map.proofs.visit_map.Reads as visit-reads

-- the answer, both work slices and the map
pub visit_determined : Determined visit.ended visit-reads.Post
visit_determined κs a r r' w w' p q =
    let first = p.first ∙ sym q.first in
    let second = p.second ∙ sym q.second in
    let map = p.map ∙ sym q.map in
    (p.answer ∙ sym q.answer, (λ i. (tt, (tt, (tt, (tt, (first i, (second i, (map i, tt)))))))))
