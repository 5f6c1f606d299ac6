-- Each call's statement determines its answer and the final contents of all memory lent to it (R3.6): any two outcomes
-- that it allows coincide. Assumes nothing.
use mathlib.Core.Path.{◌≡◌, sym, ◌∙◌}
use contract.Lifetimes.{Lfts}
use denote.Triple.Clauses.{Lasts, at_exit}
use denote.Triple.Entry.{Args, Res}
use Rattle.floats.proofs.Determined.{Determined}
use Rattle.image_reading.specs.contracts.survey as survey
use Rattle.image_reading.proofs.survey.Reads as survey-reads
use Rattle.image_reading.specs.contracts.describe as describe
use Rattle.image_reading.proofs.describe.Reads as describe-reads
use Rattle.image_reading.specs.contracts.read as read
use Rattle.image_reading.proofs.read.Reads as read-reads

-- nothing is lent but bytes to read: the answer
pub survey_determined : Determined survey.ended survey-reads.Post
survey_determined κs a r r' w w' p q = (p ∙ sym q, (λ i. (tt, tt)))

pub describe_determined : Determined describe.ended describe-reads.Post
describe_determined κs a r r' w w' p q = (p ∙ sym q, (λ i. (tt, tt)))

-- the part's contents, its place and the lent number. A part's ghost name is the prover's own
pub read_determined : (κs : Lfts 2) (a : Args read.signature κs) (r r' : Res read.signature κs)
    (w w' : Lasts read.ended κs a) → read-reads.Post κs a r (at_exit read.ended κs a w)
    → read-reads.Post κs a r' (at_exit read.ended κs a w') → (r.now ≡ r'.now) × (r.ref_ptr ≡ r'.ref_ptr) × (w ≡ w')
read_determined κs a r r' w w' p q =
    let number = p.number ∙ sym q.number in
    (p.holds ∙ sym q.holds, p.lies ∙ sym q.lies, (λ i. (tt, (number i, tt))))
