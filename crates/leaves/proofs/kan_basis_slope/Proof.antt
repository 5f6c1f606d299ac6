-- `leaves::kan_basis_slope` meets its contract. Assumes nothing.
use mathlib.Core.Path.{◌∙◌}
use Rattle.leaves.proofs.Asked.{within, no_index, too_fine}
use borrow.Author.Rules.{rules}
use Rattle.leaves.proofs.kan_basis_slope.Statement.{statement}
use Rattle.leaves.proofs.kan_basis_slope.Tie as tie

add_if2 : tie.Need-overflow_add-intervals
add_if2 c = search rules

basis_slope_requires : tie.Need-basis_slope-requires
basis_slope_requires c κs = search rules

returns : tie.Need-returns-then-i-intervals
returns c = c.basis_slope.ensures ∙ within _ _ _ c.if-intervals-le250000.true c.if-i-intervals.true

returns_2 : tie.Need-returns-else-i-intervals
returns_2 c = no_index _ _ _ c.if-intervals-le250000.true c.if-i-intervals.false

returns_3 : tie.Need-returns-else-intervals-le250000
returns_3 c = too_fine _ _ _ c.if-intervals-le250000.false

pub kan_basis_slope_spec : {M : Type 1} → statement M
kan_basis_slope_spec =
    tie.close (tie.spec add_if2 basis_slope_requires returns returns_2 returns_3)
