-- R18.4, R18.5: how a header's text is read: brace, three entries, brace, and the newline that ends it. Definitions only.
-- Bytes are ASCII: 10 the newline, 40 ( and 41 ), 44 the comma, 58 the colon, 84 T, 123 { and 125 }.
use Rattle.std.specs.Prelude.{ℕ, zero, suc, Bool, ◌&&◌, not, cond, List, [], ◌∷◌, length}
use Rattle.std.proofs.Math.Option.{Option, none, some}
use Rattle.refusals.specs.Refusals.{◌otherwise◌}
use Rattle.npy_tokens.specs.declared.Class.TheVariants.{Space}
use Rattle.npy_tokens.specs.Tokens.{behind, after_byte, after_bytes, after_token, begins_with, string_in, after_string}
use Rattle.npy_tokens.specs.Tokens.{number_in, after_number, same}
use Rattle.npy_header.specs.Dictionary.{Dictionary, descr_word, order_word, shape_word, true_word, false_word, single_word}

-- ---- True, or else False: by the first byte, a T (84)
abbrev pub truth_in : List ℕ → Bool
truth_in bs = begins_with 84 (behind Space bs)

abbrev pub after_truth : List ℕ → List ℕ
after_truth bs = after_bytes (cond (truth_in bs) true_word false_word) (behind Space bs)

-- ---- R18.5: the numbers up to the parenthesis that closes them, at most k, and the rest behind it
unfoldable pub numbers_to : ℕ → List ℕ → List ℕ
numbers_to zero bs = []
numbers_to (suc k) bs =
    cond (begins_with 41 (behind Space bs)) []
    (number_in bs
    ∷ cond (begins_with 44 (behind Space (after_number bs))) (numbers_to k (after_token 44 (after_number bs))) [])

unfoldable pub after_numbers_to : ℕ → List ℕ → List ℕ
after_numbers_to zero bs = []
after_numbers_to (suc k) bs =
    cond (begins_with 41 (behind Space bs)) (after_token 41 bs)
    (cond (begins_with 44 (behind Space (after_number bs))) (after_numbers_to k (after_token 44 (after_number bs)))
    (after_token 41 (after_number bs)))

-- a text has no more commas than bytes
abbrev pub numbers_in : List ℕ → List ℕ
numbers_in bs = numbers_to (suc (length bs)) bs

abbrev pub after_numbers : List ℕ → List ℕ
after_numbers bs = after_numbers_to (suc (length bs)) bs

-- a shape: the numbers behind its parenthesis
abbrev pub sizes_in : List ℕ → List ℕ
sizes_in bs = numbers_in (after_token 40 bs)

abbrev pub after_sizes : List ℕ → List ℕ
after_sizes bs = after_numbers (after_token 40 bs)

-- ---- the entries read so far, and the rest behind them
pub record Read : Type 0 where
  pub rest : List ℕ
  pub descr : Option (List ℕ)
  pub fortran_order : Option Bool
  pub shape : Option (List ℕ)

abbrev pub nothing_from : List ℕ → Read
nothing_from bs = record { rest = bs; descr = none; fortran_order = none; shape = none }

-- the same with nothing left to read: how a text that fails goes on
abbrev pub failed : Read → Read
failed r = record { rest = []; descr = r.descr; fortran_order = r.fortran_order; shape = r.shape }

-- one entry more, of which the value is read from bs on; a key that was there fails
abbrev pub with_descr : Option (List ℕ) → Read → List ℕ → Read
with_descr none r bs = record { rest = after_string bs; descr = some (string_in bs); fortran_order = r.fortran_order; shape = r.shape }
with_descr (some s) r bs = failed r

abbrev pub with_order : Option Bool → Read → List ℕ → Read
with_order none r bs = record { rest = after_truth bs; descr = r.descr; fortran_order = some (truth_in bs); shape = r.shape }
with_order (some o) r bs = failed r

abbrev pub with_shape : Option (List ℕ) → Read → List ℕ → Read
with_shape none r bs = record { rest = after_sizes bs; descr = r.descr; fortran_order = r.fortran_order; shape = some (sizes_in bs) }
with_shape (some s) r bs = failed r

-- by the key, whose value is behind a colon; another key fails
unfoldable pub with_value : List ℕ → Read → List ℕ → Read
with_value key r bs =
    cond (same key descr_word) (with_descr r.descr r bs)
    (cond (same key order_word) (with_order r.fortran_order r bs)
    (cond (same key shape_word) (with_shape r.shape r bs) (failed r)))

unfoldable pub entry_of : Read → Read
entry_of r = with_value (string_in r.rest) r (after_token 58 (after_string r.rest))

-- and a comma
unfoldable pub comma_of : Read → Read
comma_of r = record { rest = after_token 44 r.rest; descr = r.descr; fortran_order = r.fortran_order; shape = r.shape }

-- ---- the whole: three entries behind the brace, then a last comma or none, the other brace, spaces, and the newline that ends it
unfoldable pub entries_of : List ℕ → Read
entries_of text = entry_of (comma_of (entry_of (comma_of (entry_of (nothing_from (after_byte 123 text))))))

abbrev pub after_optional_comma : List ℕ → List ℕ
after_optional_comma bs = cond (begins_with 44 (behind Space bs)) (after_token 44 bs) bs

unfoldable pub is_closed : List ℕ → Bool
is_closed bs = same (behind Space (after_token 125 (after_optional_comma bs))) (10 ∷ [])

-- where each of the three was there
abbrev pub gathered : Option (List ℕ) → Option Bool → Option (List ℕ) → Option Dictionary
gathered none o s = none
gathered (some d) none s = none
gathered (some d) (some o) none = none
gathered (some d) (some o) (some s) = some (record { descr = d; fortran_order = o; shape = s })

abbrev pub dictionary_of : Read → Option Dictionary
dictionary_of r = gathered r.descr r.fortran_order r.shape

unfoldable pub header_of : List ℕ → Option Dictionary
header_of text = cond (is_closed (entries_of text).rest) (dictionary_of (entries_of text)) none

-- ---- R18.6: what is asked of a header: f32 with the lowest byte first, rows first, and a shape
unfoldable pub asked : List ℕ → Dictionary → Bool
asked shape d = same d.descr single_word && not d.fortran_order && same d.shape shape

-- R18.6: 29, the text is no header; 30, it says something else
unfoldable pub header_fault : List ℕ → Option Dictionary → ℕ
header_fault shape none = 29
header_fault shape (some d) = asked shape d otherwise 30
