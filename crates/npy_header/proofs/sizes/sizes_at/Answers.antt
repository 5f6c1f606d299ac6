use mathlib.Core.Path.{sym, ◌∙◌}
use Rattle.npy_header.proofs.Walks.{closes, nearer, goes_on, ends}
use Rattle.npy_header.proofs.sizes.sizes_at.Goals as goal

pub returns-then-stands_at : goal.returns-then-stands_at
returns-then-stands_at c =
    closes _ _ _ _ _ c.loop-matched.invariant _ c.end_of-here.ensures (sym c.if-stands_at.true ∙ c.stands_at.ensures) _
    c.eq.ensures

pub returns-then-not-stands_at : goal.returns-then-not-stands_at
returns-then-not-stands_at c =
    ends _ _ _ _ _ c.loop-matched.invariant _ c.end_of-here.ensures (sym c.if-stands_at.false ∙ c.stands_at.ensures) _
    c.whole_number-number.ensures _ c.match_one-matched.ensures _ c.end_of-after.ensures _
    (sym c.if-not-stands_at.true ∙ c.stands_at-in-loop-matched.ensures) c.past_byte.ensures _
    c.eq-then-not-stands_at.ensures

pub loop-matched-preserved : goal.loop-matched-preserved
loop-matched-preserved c =
    goes_on _ _ _ _ _ c.loop-matched.invariant _ c.end_of-here.ensures (sym c.if-stands_at.false ∙ c.stands_at.ensures) _
    c.whole_number-number.ensures _ c.match_one-matched.ensures _ c.end_of-after.ensures
    (sym c.if-not-stands_at.false ∙ c.stands_at-in-loop-matched.ensures)

pub loop-matched-smaller : goal.loop-matched-smaller
loop-matched-smaller c =
    nearer _ _ _ _ _ c.loop-matched.invariant _ c.end_of-here.ensures (sym c.if-stands_at.false ∙ c.stands_at.ensures) _
    c.whole_number-number.ensures _ c.match_one-matched.ensures _ c.end_of-after.ensures
    (sym c.if-not-stands_at.false ∙ c.stands_at-in-loop-matched.ensures)
