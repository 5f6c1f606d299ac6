-- The pieces of the line, one behind the other. The ends are finite, and so have bits of their own.
use lib.Ieee.Bits.{is_true}
use Rattle.words.proofs.Patterns.{finite_number}
use Rattle.text.proofs.Appends.{exact, both_within}
use Rattle.listing.specs.Listing.{grid_label, grid_line}
use Rattle.listing.proofs.grid_line.Goals as goal

pub float_to_bits-grid : goal.float_to_bits-grid
float_to_bits-grid c = finite_number _ (is_true _ c.requires.1.lo)

pub float_to_bits-grid-2 : goal.float_to_bits-grid-2
float_to_bits-grid-2 c = finite_number _ (is_true _ c.requires.1.hi)

pub returns : goal.returns
unfolding grid_line grid_label
returns c =
    both_within (exact c.append-labelled.ensures)
    (both_within c.append_number-counted.ensures
    (both_within c.append_pattern-lower.ensures c.append_pattern.ensures))
