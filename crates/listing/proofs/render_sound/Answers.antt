-- The lines, one behind the other.
use Rattle.text.proofs.Appends.{both}
use Rattle.listing.specs.Listing.{total_label, sound_text}
use Rattle.listing.proofs.render_sound.Goals as goal

pub returns : goal.returns
unfolding sound_text total_label
returns c =
    both c.grid_line-after_grid.ensures.whole
    (both c.layer_lines-after_layers.ensures.whole c.append_labelled.ensures.whole)
