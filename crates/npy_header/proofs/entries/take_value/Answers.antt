use mathlib.Core.Path.{sym, ◌∙◌}
use Rattle.npy_header.specs.Dictionary.{descr_word, order_word, shape_word}
use Rattle.npy_header.specs.Reading.{with_value}
use Rattle.npy_header.proofs.Founds.{fails}
use Rattle.npy_header.proofs.entries.take_value.Goals as goal

pub returns-then-spells : goal.returns-then-spells
unfolding with_value descr_word
returns-then-spells c =
    λ s w. rw (sym c.spells.ensures ∙ c.if-spells.true) (c.take_descr.ensures _ s w)

pub returns-then-spells-2 : goal.returns-then-spells-2
unfolding with_value descr_word order_word
returns-then-spells-2 c =
    λ s w.
    rw (sym c.spells.ensures ∙ c.if-spells.false, sym c.spells-2.ensures ∙ c.if-spells-2.true)
    (c.take_order.ensures _ s w)

pub returns-then-spells-3 : goal.returns-then-spells-3
unfolding with_value descr_word order_word shape_word
returns-then-spells-3 c =
    λ s w.
    rw (
      sym c.spells.ensures ∙ c.if-spells.false,
      sym c.spells-2.ensures ∙ c.if-spells-2.false,
      sym c.spells-3.ensures ∙ c.if-spells-3.true,
    )
    (c.take_shape.ensures s w)

pub returns : goal.returns
unfolding with_value descr_word order_word shape_word
returns c =
    λ s w.
    rw (
      sym c.spells.ensures ∙ c.if-spells.false,
      sym c.spells-2.ensures ∙ c.if-spells-2.false,
      sym c.spells-3.ensures ∙ c.if-spells-3.false,
    )
    (fails _ _ s _ w _ c.failed.ensures)
