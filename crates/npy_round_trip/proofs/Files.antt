-- A written file as the reader finds it: framed, its header for the shape that was written, and its body behind it.
-- Assumes nothing.
use Prim.Native.Nat.{ℕ, ◌+◌, ◌*◌, ◌-◌, ◌≤◌}
use native.Mathlib.Omega.{arith}
use mathlib.Core.Path.{◌≡◌, refl, ap, ◌∙◌}
use mathlib.Core.Bool.{true}
use mathlib.Core.List.{List, [], ◌∷◌, ◌++◌}
use mathlib.Core.Option.{some}
use lib.ListN.{length, replicate, length-append}
use lib.Seq.{take_at, drop_at}
use borrow.Author.Tests.{le-leb, eq-eqb}
use Rattle.floats.specs.Sums.{all_finite}
use Rattle.words.specs.Words.{floats_in}
use Rattle.npy_tokens.specs.Tokens.{same}
use Rattle.npy_header.specs.Dictionary.{single_word}
use Rattle.npy_header.specs.Reading.{header_of, asked, header_fault}
use Rattle.npy_header.specs.File.{magic, is_framed, file_fault}
use Rattle.npy_front.specs.Front.{dictionary_text, header_bytes}
use Rattle.npy_front.proofs.Lengths.{Fits, fits, header_is, header_size}
use Rattle.npy_reading.specs.Reader.{body_in, bytes_fault}
use Rattle.npy_round_trip.specs.RoundTrip.{singles}
use Rattle.npy_round_trip.proofs.Headers.{Size, header_read}

same_self : (ns : List ℕ) → same ns ns ≡ true
unfolding same
same_self [] = refl
same_self (n ∷ ns) = rw (eq-eqb n n refl, same_self ns)

-- ---- a text of 118 bytes and a body, behind the magic bytes and the text's length
abbrev framed : List ℕ → List ℕ → List ℕ
framed text body = 147 ∷ 78 ∷ 85 ∷ 77 ∷ 80 ∷ 89 ∷ 1 ∷ 0 ∷ 118 ∷ 0 ∷ (text ++ body)

module _ (text body : List ℕ) (size : length text ≡ 118) where
  framed_length : length (framed text body) ≡ 128 + length body
  framed_length = let l = length-append text body in omega arith

  body_framed : body_in (framed text body) ≡ body
  body_framed = drop_at text body 118 size

  module _ (shape : List ℕ) (said : header_of text ≡ some (singles shape)) where
    header_accepted : file_fault shape (framed text body) ≡ 0
    unfolding file_fault is_framed same magic header_fault asked single_word
    header_accepted =
        let long : 128 ≤ length (framed text body) = omega (arith, framed_length) in
        rw (le-leb 128 (length (framed text body)) long, take_at text body 118 size, said, same_self shape)

    bytes_accepted : (n c : ℕ) → length body ≡ n * (4 * c) → all_finite (floats_in body (n * c)) ≡ true
        → bytes_fault shape n c (framed text body) ≡ 0
    unfolding bytes_fault
    bytes_accepted n c e f =
        let long : length (framed text body) ≡ 128 + n * (4 * c) = omega (arith, framed_length) in
        rw (header_accepted, eq-eqb (length (framed text body)) (128 + n * (4 * c)) long, body_framed, f)

-- ---- the header of a shape, and a body
module _ (a b c : ℕ) (ha : Size a) (hb : Size b) (hc : Size c) (body : List ℕ) where
  abbrev room : Fits a b c
  room = fits a b c ha.few hb.few hc.few

  abbrev spaces : ℕ
  spaces = 127 - (10 + length (dictionary_text a b c))

  abbrev text : List ℕ
  text = dictionary_text a b c ++ (replicate spaces 32 ++ (10 ∷ []))

  text_size : length text ≡ 118
  text_size = omega (arith, ap length (header_is a b c room), header_size a b c room)

  file_is : header_bytes a b c ++ body ≡ framed text body
  file_is = ap (λ (l : List ℕ). l ++ body) (header_is a b c room)

  pub written_body : body_in (header_bytes a b c ++ body) ≡ body
  written_body = ap body_in file_is ∙ body_framed text body text_size

  pub written_accepted : (n k : ℕ) → length body ≡ n * (4 * k) → all_finite (floats_in body (n * k)) ≡ true
      → bytes_fault (a ∷ b ∷ c ∷ []) n k (header_bytes a b c ++ body) ≡ 0
  written_accepted n k e f =
      ap (bytes_fault (a ∷ b ∷ c ∷ []) n k) file_is
      ∙ bytes_accepted text body text_size (a ∷ b ∷ c ∷ []) (header_read a b c ha hb hc spaces) n k e f
