-- Both slices hold what the description says of the image.
use Rattle.std.proofs.Common.{sym}
use Rattle.image_unpacking.proofs.Calls.{filled}
use Rattle.image_unpacking.proofs.unpack.Goals as goal

pub returns : goal.returns
returns c =
    filled _ _ _ _ _ _ (sym c.in_ok-description.ensures) (sym c.in_ok-refuse_unless.ensures)
    (sym c.in_ok-refuse_unless-2.ensures) c.take_sizes.ensures c.take_floats.ensures
