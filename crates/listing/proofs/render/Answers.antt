-- What the definition says of an image that is too long, of a refused one and of a sound one.
use Rattle.std.proofs.Common.{sym}
use Rattle.text.proofs.Appends.{retold}
use Rattle.listing.specs.Listing.{refused_label}
use Rattle.listing.proofs.Listed.{listable, enough, list_long, list_refused, list_sound}
use Rattle.listing.proofs.render.Goals as goal

pub returns-then-image-gt-MOST_BYTES : goal.returns-then-image-gt-MOST_BYTES
unfolding refused_label
returns-then-image-gt-MOST_BYTES c = retold c.append_labelled.ensures.whole (list_long _ c.if-image-gt-MOST_BYTES.true)

pub render_sound-requires : goal.render_sound-requires
render_sound-requires c =
    let sound = sym c.in-Ok.ensures in
    (enough _ _ sound _ c.if-image-gt-MOST_BYTES.false c.requires, listable _ _ sound)

pub returns-in-Ok : goal.returns-in-Ok
returns-in-Ok c =
    retold c.render_sound.ensures (list_sound _ _ c.if-image-gt-MOST_BYTES.false (sym c.in-Ok.ensures))

pub returns-in-Err : goal.returns-in-Err
unfolding refused_label
returns-in-Err c =
    retold c.append_labelled-in-Err.ensures.whole
    (list_refused _ _ c.if-image-gt-MOST_BYTES.false (sym c.in-Err.ensures))
