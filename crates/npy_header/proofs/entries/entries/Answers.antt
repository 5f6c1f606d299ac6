use mathlib.Core.Path.{refl}
use Rattle.npy_tokens.specs.Tokens.{after_byte}
use Rattle.npy_header.specs.Reading.{nothing_from, entries_of}
use Rattle.npy_header.proofs.entries.entries.Goals as goal

-- what is found behind each entry and each comma follows what is read up to there
pub comma-requires : goal.comma-requires
comma-requires c =
    let first = c.take_entry-first.ensures (nothing_from (after_byte 123 c.args.text.now))
    (record { place = c.past_byte.ensures; descr = refl; order = refl; shape = refl }) in
    first.place.inside

pub take_entry-second-requires : goal.take_entry-second-requires
take_entry-second-requires c =
    let first = c.take_entry-first.ensures (nothing_from (after_byte 123 c.args.text.now))
    (record { place = c.past_byte.ensures; descr = refl; order = refl; shape = refl }) in
    (c.requires, (c.comma.ensures _ _ first).place.inside)

pub comma-requires-2 : goal.comma-requires-2
comma-requires-2 c =
    let first = c.take_entry-first.ensures (nothing_from (after_byte 123 c.args.text.now))
    (record { place = c.past_byte.ensures; descr = refl; order = refl; shape = refl }) in
    (c.take_entry-second.ensures _ (c.comma.ensures _ _ first)).place.inside

pub take_entry-requires : goal.take_entry-requires
take_entry-requires c =
    let first = c.take_entry-first.ensures (nothing_from (after_byte 123 c.args.text.now))
    (record { place = c.past_byte.ensures; descr = refl; order = refl; shape = refl }) in
    (c.requires, (c.comma-2.ensures _ _ (c.take_entry-second.ensures _ (c.comma.ensures _ _ first))).place.inside)

pub returns : goal.returns
unfolding entries_of
returns c =
    let first = c.take_entry-first.ensures (nothing_from (after_byte 123 c.args.text.now))
    (record { place = c.past_byte.ensures; descr = refl; order = refl; shape = refl }) in
    c.take_entry.ensures _ (c.comma-2.ensures _ _ (c.take_entry-second.ensures _ (c.comma.ensures _ _ first)))
