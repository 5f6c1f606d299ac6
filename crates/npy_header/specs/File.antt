-- R18.1, R18.6: what stands around the header's text in an NPY file of version 1.0, as it is read. Definitions only.
use Rattle.std.specs.Prelude.{ℕ, ◌+◌, ◌*◌, Bool, ◌&&◌, List, [], ◌∷◌, leb, length, get_or, take, drop}
use Rattle.refusals.specs.Refusals.{◌otherwise◌, ◌then◌}
use Rattle.npy_tokens.specs.Tokens.{same}
use Rattle.npy_header.specs.Reading.{header_of, header_fault}

-- R18.1: 93 "NUMPY" in hexadecimal and ASCII, and the version 1.0
unfoldable pub magic : List ℕ
magic = 147 ∷ 78 ∷ 85 ∷ 77 ∷ 80 ∷ 89 ∷ 1 ∷ 0 ∷ []

-- R18.1: then the length of the header's text, two bytes, the lower first
abbrev pub text_length : List ℕ → ℕ
text_length bs = get_or bs 8 0 + 256 * get_or bs 9 0

-- the text, and behind it the numbers
abbrev pub text_in : List ℕ → List ℕ
text_in bs = take (text_length bs) (drop 10 bs)

abbrev pub body_at : List ℕ → ℕ
body_at bs = 10 + text_length bs

-- R18.6: the magic bytes are there, and the text does not run past the end
unfoldable pub is_framed : List ℕ → Bool
is_framed bs = same (take 8 bs) magic && leb (body_at bs) (length bs)

-- R18.6: 29 for all that is no header, and then 30 for one that says something else
unfoldable pub file_fault : List ℕ → List ℕ → ℕ
file_fault shape bs = is_framed bs otherwise 29 then header_fault shape (header_of (text_in bs))
