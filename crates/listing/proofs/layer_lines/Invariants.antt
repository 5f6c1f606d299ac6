-- After l turns the lines of l layers are written.
use Rattle.std.proofs.Common.{◌+◌, ◌*◌}
use Rattle.floats.specs.Sums.{flat_to}
use Rattle.words.specs.Words.{words_from}
use Rattle.text.specs.Appended.{AppendedWithin}
use Rattle.listing.specs.Listing.{layer_line}
use Rattle.listing.proofs.layer_lines.Given as goal

abbrev pub invariant-loop-layer : goal.invariant-loop-layer
invariant-loop-layer l =
    AppendedWithin (90 * l.layer) l.initial.out l.at
    (flat_to (layer_line l.each (words_from l.image l.from (l.layers + 1))) l.layer) l.out l.next
