-- Wherever the writer accepts, its file is accepted for any sound model of the configuration and gives it the
-- coefficients that were written; the model that they are of is as it was. Assumes nothing.
use Prim.Native.Nat.{ℕ, ◌+◌, ◌*◌}
use mathlib.Core.Path.{◌≡◌, refl, sym, ap, ◌∙◌}
use mathlib.Core.Logic.{inl, inr}
use mathlib.Core.Bool.{true}
use mathlib.Core.List.{List}
use lib.Dec.{eqb}
use lib.ListN.{length}
use lib.Seq.{ext_get_or}
use lib.Ieee.{Float, nan}
use Rattle.floats.specs.Sums.{at, all_finite}
use Rattle.refusals.specs.Refusals.{◌otherwise◌}
use Rattle.refusals.proofs.Firsts.{both_pass, test_passes}
use Rattle.spline.specs.declared.Grid.{Grid}
use Rattle.layers.specs.Widths.{width_at}
use Rattle.words.specs.Words.{float_at}
use Rattle.layer_coefficients.specs.Coefficients.{up_to37, layer_at, edges_of, body_of}
use Rattle.layer_coefficients.proofs.Edges.{body_length}
use Rattle.npy_writing.specs.Writing.{file_length, file_of, from10_to11, write_fault}
use Rattle.npy_reading.specs.Reader.{body_in, shape_of, bytes_fault, from_model_to_file, read_fault}
use Rattle.npy_round_trip.specs.RoundTrip.{Held, place_of, element_of, IsCoefficient, after_file, ReadBack}
use Rattle.npy_round_trip.proofs.Bodies.{body_float, body_finite}
use Rattle.npy_round_trip.proofs.Files.{written_body, written_accepted}
use Rattle.npy_round_trip.proofs.Layers.{Placed, placed}
use Rattle.npy_round_trip.proofs.InPlace.{edge_below, file_place, in_place}

-- what the writer accepts
record Writable (ws : List ℕ) (g : Grid) (ps : List Float) (l : ℕ) : Type 0 where
  checked : up_to37 ws g (length ps) l ≡ 0
  sound : all_finite ps ≡ true

writable : (ws : List ℕ) (g : Grid) (ps : List Float) (l : ℕ) (bs : List ℕ) → write_fault ws g ps l bs ≡ 0
    → Writable ws g ps l
unfolding write_fault from10_to11
writable ws g ps l bs e =
    let both = both_pass (up_to37 ws g (length ps) l) _ e in
    let after10 = both_pass (eqb (length bs) (file_length ws g l) otherwise 10) _ both.1 in
    record { checked = both.0; sound = test_passes (all_finite ps) 10 after10.1 }

module _ (ws : List ℕ) (g : Grid) (ps : List Float) (l : ℕ) (held : Held ps) (w : Writable ws g ps l) where
  abbrev body : List ℕ
  body = body_of ps (layer_at ws g l) g.intervals (edges_of ws l)

  abbrev here : Placed ws g l ps
  here = placed ws g l ps w.checked

  body_is : body_in (file_of ws g ps l) ≡ body
  unfolding file_of
  body_is = written_body _ _ _ here.outputs here.inputs here.coefficients body

  bytes_accepted : bytes_fault (shape_of ws g l) (edges_of ws l) (g.intervals + 3) (file_of ws g ps l) ≡ 0
  unfolding file_of
  bytes_accepted =
      written_accepted _ _ _ here.outputs here.inputs here.coefficients body (edges_of ws l) (g.intervals + 3)
      (body_length ps (layer_at ws g l) g.intervals (edges_of ws l) here.inside)
      (body_finite ps (layer_at ws g l) g.intervals (edges_of ws l) held here.inside w.sound)

  accepted : (qs : List Float) → length qs ≡ length ps → all_finite qs ≡ true
      → read_fault ws g qs l (file_of ws g ps l) ≡ 0
  unfolding read_fault from_model_to_file
  accepted qs e f = rw (e, w.checked, f, bytes_accepted)

  -- the number that the file has for a coefficient
  written : (o i k : ℕ) → IsCoefficient ws g l o i k
      → float_at (body_in (file_of ws g ps l)) (element_of ws g l o i k * 4) ≡ at ps (place_of ws g l o i k)
  written o i k c =
      ap (λ (bs : List ℕ). float_at bs (element_of ws g l o i k * 4)) body_is
      ∙ body_float ps (layer_at ws g l) g.intervals (edges_of ws l) held here.inside
      (o * width_at ws l + i) k (edge_below ws g l o i k c) c.index

  back : (qs : List Float) → length qs ≡ length ps → all_finite qs ≡ true → ReadBack ws g l ps qs
  back qs e f =
      let taken = in_place ws g qs l (file_of ws g ps l) (accepted qs e f) in
      record {
        accepted = accepted qs e f;
        element = λ o i k c. taken.element o i k c ∙ written o i k c;
        elsewhere = taken.elsewhere;
      }

  -- every place is a coefficient that was written, or as it was
  as_it_was : after_file ws g l ps (file_of ws g ps l) ≡ ps
  as_it_was =
      let after = after_file ws g l ps (file_of ws g ps l) in
      let b = back ps refl w.sound in
      ext_get_or nan after ps b.elsewhere.long (λ q h. elim (file_place ws g l ps here (file_of ws g ps l) q) [
        | inl c ↦ ap (at after) c.place ∙ b.element c.o c.i c.k c.within ∙ ap (at ps) (sym c.place)
        | inr e ↦ e
      ])

pub read_back : (ws : List ℕ) (g : Grid) (ps qs : List Float) (l : ℕ) (bs : List ℕ) → Held ps
    → write_fault ws g ps l bs ≡ 0 → length qs ≡ length ps → all_finite qs ≡ true → ReadBack ws g l ps qs
read_back ws g ps qs l bs held e = back ws g ps l held (writable ws g ps l bs e) qs

pub restored : (ws : List ℕ) (g : Grid) (ps : List Float) (l : ℕ) (bs : List ℕ) → Held ps
    → write_fault ws g ps l bs ≡ 0 → after_file ws g l ps (file_of ws g ps l) ≡ ps
restored ws g ps l bs held e = as_it_was ws g ps l held (writable ws g ps l bs e)
