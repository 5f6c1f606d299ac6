-- Each call's statement determines its answer: any two outcomes that it allows coincide. Nothing is lent here but
-- widths to read, so the answer is all.
use mathlib.Core.Path.{sym, ◌∙◌}
use Rattle.floats.proofs.Determined.{Determined}
use Rattle.config.specs.contracts.check as check
use Rattle.config.proofs.check.Reads as check-reads
use Rattle.config.specs.contracts.parameter_count as count
use Rattle.config.proofs.parameter_count.Reads as count-reads
use Rattle.config.specs.contracts.per_edge as per-edge
use Rattle.config.proofs.per_edge.Reads as per-edge-reads
use Rattle.config.specs.contracts.Shape.new as new
use Rattle.config.proofs.Shape.new.Reads as new-reads
use Rattle.config.specs.contracts.Shape.take as take
use Rattle.config.proofs.Shape.take.Reads as take-reads
use Rattle.config.specs.contracts.Shape.verdict as verdict
use Rattle.config.proofs.Shape.verdict.Reads as verdict-reads

pub check_determined : Determined check.ended check-reads.Post
check_determined κs a r r' w w' p q = (p ∙ sym q, (λ i. (tt, (tt, tt))))

pub count_determined : Determined count.ended count-reads.Post
count_determined κs a r r' w w' p q = (p ∙ sym q, (λ i. (tt, (tt, tt))))

-- ---- the checks one width at a time, which the reader of images shares
pub per_edge_determined : Determined per-edge.ended per-edge-reads.Post
per_edge_determined κs a r r' w w' p q = (p ∙ sym q, (λ i. (tt, tt)))

pub new_determined : Determined new.ended new-reads.Post
new_determined κs a r r' w w' p q = (p ∙ sym q, (λ i. tt))

pub take_determined : Determined take.ended take-reads.Post
take_determined κs a r r' w w' p q = (p ∙ sym q, (λ i. (tt, (tt, (tt, tt)))))

pub verdict_determined : Determined verdict.ended verdict-reads.Post
verdict_determined κs a r r' w w' p q = (p ∙ sym q, (λ i. (tt, (tt, (tt, tt)))))
