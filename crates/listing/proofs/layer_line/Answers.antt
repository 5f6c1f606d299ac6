-- The pieces of the line, one behind the other.
use Rattle.text.proofs.Appends.{exact, both_within}
use Rattle.listing.specs.Listing.{layer_label, layer_text}
use Rattle.listing.proofs.layer_line.Goals as goal

pub returns : goal.returns
unfolding layer_text layer_label
returns c =
    both_within (exact c.append-labelled.ensures)
    (both_within c.append_number-numbered.ensures
    (both_within c.append_number-fed.ensures
    (both_within c.append_number-fanned.ensures c.append_number.ensures)))
