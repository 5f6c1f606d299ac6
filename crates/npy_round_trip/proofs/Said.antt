-- What an accepted file says of itself, and how many bytes follow. Assumes nothing.
use Prim.Native.Nat.{ℕ, ◌+◌, ◌*◌, ◌-◌}
use native.Mathlib.Nat.{add-sub_cancel_left}
use native.Mathlib.Omega.{arith}
use mathlib.Core.Path.{◌≡◌, ap, ◌∙◌}
use mathlib.Core.Bool.{true, ◌&&◌, not, and-eq-true_iff}
use mathlib.Core.List.{List}
use mathlib.Core.Option.{Option, none, some}
use lib.ListN.{length, length-drop}
use lib.Ieee.{Float}
use borrow.Author.Tests.{not-true}
use Rattle.floats.specs.Sums.{all_finite}
use Rattle.refusals.specs.Refusals.{◌otherwise◌}
use Rattle.refusals.proofs.Firsts.{both_pass, test_passes}
use Rattle.spline.specs.declared.Grid.{Grid}
use Rattle.npy_tokens.specs.Tokens.{same}
use Rattle.npy_header.specs.Dictionary.{Dictionary, single_word}
use Rattle.npy_header.specs.Grammar.{Header}
use Rattle.npy_header.specs.Reading.{header_of, asked, header_fault}
use Rattle.npy_header.specs.File.{text_in, body_at, is_framed, file_fault}
use Rattle.npy_grammar.proofs.Marks.{same_true}
use Rattle.npy_grammar.proofs.Exact.{exact}
use Rattle.layer_coefficients.specs.Coefficients.{up_to37, edges_of}
use Rattle.npy_reading.specs.Reader.{shape_of, body_in, bytes_fault, from_model_to_file, read_fault}
use Rattle.npy_reading.proofs.Faults.{accepted_whole, in_words}
use Rattle.npy_round_trip.specs.RoundTrip.{singles}

-- ---- a header that is not refused says what is asked
as_asked : (shape : List ℕ) (d : Dictionary) → asked shape d ≡ true → d ≡ singles shape
unfolding asked
as_asked shape d e =
    let both = (and-eq-true_iff (same d.descr single_word && not d.fortran_order) (same d.shape shape)).0 e in
    let first = (and-eq-true_iff (same d.descr single_word) (not d.fortran_order)).0 both.0 in
    let type = same_true d.descr single_word first.0 in
    let order = not-true d.fortran_order first.1 in
    let sizes = same_true d.shape shape both.1 in
    λ i. record { descr = type i; fortran_order = order i; shape = sizes i }

said : (shape : List ℕ) (o : Option Dictionary) → header_fault shape o ≡ 0 → o ≡ some (singles shape)
unfolding header_fault
said shape none e = absurd (omega (arith, e))
said shape (some d) e = ap some (as_asked shape d (test_passes (asked shape d) 29 e))

-- ---- of a call that is not refused
module _ (ws : List ℕ) (g : Grid) (ps : List Float) (l : ℕ) (bs : List ℕ) (e : read_fault ws g ps l bs ≡ 0) where
  accepted_bytes : bytes_fault (shape_of ws g l) (edges_of ws l) (g.intervals + 3) bs ≡ 0
  unfolding read_fault from_model_to_file
  accepted_bytes =
      (both_pass (all_finite ps otherwise 11) _ (both_pass (up_to37 ws g (length ps) l) _ e).1).1

  pub header_says : Header (singles (shape_of ws g l)) (text_in bs)
  unfolding bytes_fault file_fault
  header_says =
      let file = (both_pass (file_fault (shape_of ws g l) bs) _ accepted_bytes).0 in
      let text = (both_pass (is_framed bs otherwise 29) _ file).1 in
      exact.sound _ (text_in bs) (said (shape_of ws g l) (header_of (text_in bs)) text)

  pub body_length : length (body_in bs) ≡ edges_of ws l * (g.intervals + 3) * 4
  body_length =
      let whole = accepted_whole (shape_of ws g l) (edges_of ws l) (g.intervals + 3) bs accepted_bytes in
      length-drop (body_at bs) bs ∙ ap (λ (n : ℕ). n - body_at bs) whole
      ∙ add-sub_cancel_left (body_at bs) (edges_of ws l * (4 * (g.intervals + 3)))
      ∙ in_words (edges_of ws l) (g.intervals + 3)
