-- Two cells, then four coefficients or all.
use Rattle.std.proofs.Common.{sym, ◌∙◌}
use Rattle.floats.proofs.Loops.{rest}
use Rattle.fast_gradients.proofs.Fours.{all_edge, four_edge}
use Rattle.fast_gradients.proofs.add_edge.Goals as goal

pub returns-then-is_finite : goal.returns-then-is_finite
returns-then-is_finite c =
    let a = c.args in
    let p = c.requires in
    four_edge a.grid a.params.now a.x a.up a.silu a.four _ a.gradients.now p.2 p.3 p.0.gradients p.1 c.curve_by.ensures p.4
    (sym c.is_finite.ensures ∙ c.if-is_finite.true) _ (c.add_four.ensures ∙ rw rest)

pub returns-else-is_finite : goal.returns-else-is_finite
returns-else-is_finite c =
    let a = c.args in
    let p = c.requires in
    all_edge a.grid a.params.now a.x a.up a.silu a.four _ a.gradients.now p.2 p.3 p.0.gradients p.1 c.curve_by.ensures _
    (c.add_coefficients.ensures ∙ rw rest)
