-- The dictionary has 62 to 77 bytes, so that it ends before the 128th.
use Rattle.std.proofs.Common.{◌≤◌, arith}
use Rattle.npy_front.proofs.Lengths.{fits}
use Rattle.npy_front.proofs.Pieces.{spaces_end, pieces}
use Rattle.npy_front.proofs.put_header.Goals as goal

pub append_spaces-newline_at-requires : goal.append_spaces-newline_at-requires
append_spaces-newline_at-requires c =
    let size = fits _ _ _ c.requires.1 c.requires.2 c.requires.3 in (
      omega (arith, size.few, c.append_dictionary-padding_at.ensures.whole.place, c.append-text_at.ensures.place),
      omega arith,
    )

pub append-requires : goal.append-requires
append-requires c =
    let size = fits _ _ _ c.requires.1 c.requires.2 c.requires.3 in
    let short : c.append_dictionary-padding_at.result ≤ 127 =
    omega (arith, size.few, c.append_dictionary-padding_at.ensures.whole.place, c.append-text_at.ensures.place) in
    omega (arith, spaces_end short c.append_spaces-newline_at.ensures)

pub returns : goal.returns
returns c =
    pieces _ _ _ (fits _ _ _ c.requires.1 c.requires.2 c.requires.3) c.append-text_at.ensures
    c.append_dictionary-padding_at.ensures.whole c.append_spaces-newline_at.ensures c.append.ensures
