-- Each call's statement determines its answer and the final contents of all memory lent to it (R3.6): any two outcomes
-- that it allows coincide, for what the listing program prints. Assumes nothing.
use mathlib.Core.Path.{sym, ◌∙◌}
use Rattle.floats.proofs.Determined.{Determined}
use Rattle.listing.specs.contracts.render as render
use Rattle.listing.proofs.render.Reads as render-reads

-- how long the text is, and the lent room with the text at its front
pub render_determined : Determined render.ended render-reads.Post
render_determined κs a r r' w w' p q =
    let text = p.bytes ∙ sym q.bytes in
    (p.place ∙ sym q.place, (λ i. (text i, (tt, tt))))
