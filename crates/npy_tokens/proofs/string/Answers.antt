use Rattle.std.proofs.Common.{sym}
use Rattle.npy_tokens.proofs.Readings.{string_found, no_quote, no_string}
use Rattle.npy_tokens.proofs.string.Goals as goal

pub returns-in-Some : goal.returns-in-Some
returns-in-Some c =
    let first = c.in-Some.ensures.lookup.3 in
    string_found _ _ _ c.end_of-open.ensures _ _ _ first.0 (first.1 0) (sym c.if-is_quote.ensures) c.end_of-end.ensures
    c.past_byte-next.ensures

pub returns-in_default : goal.returns-in_default
returns-in_default c =
    let first = c.in-Some.ensures.lookup.3 in
    no_quote _ _ _ c.end_of-open.ensures _ first.0 (first.1 0) (sym c.if-is_quote.ensures)

pub returns-in_default-2 : goal.returns-in_default-2
returns-in_default-2 c =
    let none = rw c.in_default.is at c.get.ensures.lookup in
    no_string _ _ _ c.end_of-open.ensures none.3
