-- From the writer to the reader: each word that was written is read again. Assumes nothing.
use Rattle.std.specs.Prelude.{Ok}
use Prim.Native.Nat.{ℕ, ◌+◌, ◌-◌, ◌*◌, ◌^◌, ◌<◌}
use native.Mathlib.Nat.{add-zero}
use native.Mathlib.Omega.{arith}
use mathlib.Core.Path.{◌≡◌, refl, sym, ap, ◌∙◌, subst}
use mathlib.Core.Bool.{true}
use mathlib.Core.List.{List, [], ◌++◌, append_assoc, append-nil}
use lib.Dec.{eqb}
use lib.ListN.{length, length-append}
use lib.Ieee.{Float, binary32, of_bits, to_bits, nan}
use lib.Ieee.Bits.{of_bits-to_bits, to_bits-lt}
use Rattle.floats.specs.Sums.{at, all_finite}
use Rattle.floats.proofs.Loops.{tab_ext, tab_self}
use Rattle.refusals.specs.Refusals.{◌otherwise◌}
use Rattle.refusals.proofs.Firsts.{both_pass, test_passes}
use Rattle.spline.specs.declared.Grid.{Grid}
use Rattle.layers.specs.Widths.{width_at}
use Rattle.config.specs.Config.{config_fault}
use Rattle.admission.specs.Admission.{up_to8}
use Rattle.admission.proofs.Passed.{Past8, past8}
use Rattle.words.specs.Words.{word_at, words_from, floats_in, packed_words, packed_floats}
use Rattle.words.proofs.Packs.{word_in, bits_in, packed_words_length, packed_floats_length}
use Rattle.words.proofs.Places.{skip, packed_at}
use Rattle.image_layout.specs.declared.Trailer.{Trailer}
use Rattle.image_layout.specs.Trailer.{widths_distance, image_length, trailer_at, trailer_words}
use Rattle.image_layout.proofs.Lengths.{trailer_length_lem}
use Rattle.image_reading.specs.Image.{trailer_in, widths_in, total_in, description_in, describe_of}
use Rattle.image_reading.specs.Stages.{description_by}
use Rattle.image_reading.specs.Image.{widths_of, parameters_of}
use Rattle.image_reading.proofs.Passed.{PastEleven, sound_all}
use Rattle.image_writing.specs.Writing.{image_of, write_fault}
use Rattle.image_writing.specs.Steps.{InWords}
use Rattle.image_writing.proofs.Placed.{in_words}
use Rattle.image_round_trip.specs.RoundTrip.{Held, description_for, ReadBack}

-- the trailer as it is meant
abbrev own_trailer : List ℕ → Grid → List Float → Trailer
own_trailer ws g ps = record {
  parameters = image_length (length ws) (length ps);
  widths = widths_distance (length ws);
  count = length ws;
  grid = g;
  degree = 3;
  version = 1;
}

-- ---- word by word
module _ (ws : List ℕ) (g : Grid) (ps : List Float) (held : Held g ps) (w : InWords ws g ps) where
  image_length_lem : length (image_of ws g ps) ≡ image_length (length ws) (length ps)
  unfolding image_of
  image_length_lem =
      let a = packed_floats_length ps in
      let b = packed_words_length ws in
      let c = trailer_length_lem (length ws) (length ps) g in
      simp length-append (omega arith)

  -- a word of each part
  parameter_word : (i : ℕ) → i < length ps → word_at (image_of ws g ps) (i * 4) ≡ to_bits binary32 (at ps i)
  unfolding image_of packed_floats
  parameter_word i h = packed_at (bits_in ps) (length ps) i _ h (to_bits-lt binary32 (at ps i) (held.parameters i h))

  width_word : (p i : ℕ) → p ≡ 4 * length ps → i < length ws → word_at (image_of ws g ps) (p + i * 4) ≡ width_at ws i
  unfolding image_of packed_words
  width_word p i e h =
      skip (packed_floats ps) _ p (i * 4) (packed_floats_length ps ∙ omega arith)
      ∙ packed_at (word_in ws) (length ws) i _ h (w.widths i h)

  trailer_word : (p i : ℕ) → p ≡ 4 * length ps + 4 * length ws → i < 8
      → let w = word_in (trailer_words (length ws) (length ps) g) i in w < 2 ^ 32
      → word_at (image_of ws g ps) (p + i * 4) ≡ w
  unfolding image_of packed_words trailer_words
  trailer_word p i e h s =
      let tw = trailer_words (length ws) (length ps) g in
      let a = packed_floats ps in
      let b = packed_words ws in
      let c = packed_words tw in
      let floats = packed_floats_length ps in
      let words = packed_words_length ws in
      let n : length (a ++ b) ≡ p = simp length-append (omega arith) in
      ap (λ (l : List ℕ). word_at l (p + i * 4)) (sym (append_assoc a b c)) ∙ skip (a ++ b) c p (i * 4) n
      ∙ ap (λ (l : List ℕ). word_at l (i * 4)) (sym (append-nil c)) ∙ packed_at (word_in tw) 8 i [] h s

  -- the three parts
  parameters_back : floats_in (image_of ws g ps) (length ps) ≡ ps
  unfolding floats_in
  parameters_back =
      tab_ext _ (at ps) (length ps)
      (λ i h. ap (of_bits binary32) (parameter_word i h) ∙ of_bits-to_bits binary32 (at ps i) (held.parameters i h))
      ∙ tab_self ps nan

  widths_back : (p : ℕ) → p ≡ 4 * length ps → words_from (image_of ws g ps) p (length ws) ≡ ws
  unfolding words_from
  widths_back p e = tab_ext _ (width_at ws) (length ws) (λ i h. width_word p i e h) ∙ tab_self ws 0

  trailer_back : (p : ℕ) → p ≡ 4 * length ps + 4 * length ws → trailer_at (image_of ws g ps) p ≡ own_trailer ws g ps
  unfolding trailer_at trailer_words
  trailer_back p e =
      let t = w.trailer in
      let word = trailer_word p in
      let lo = to_bits-lt binary32 g.lo held.lo in
      let hi = to_bits-lt binary32 g.hi held.hi in
      let first : word_at (image_of ws g ps) p ≡ image_length (length ws) (length ps) =
      ap (word_at (image_of ws g ps)) (sym (add-zero p)) ∙ word 0 e (omega arith) (omega arith) in
      rw (
        first,
        word 1 e (omega arith) (omega arith),
        word 2 e (omega arith) (omega arith),
        word 3 e (omega arith) (omega arith),
        word 4 e (omega arith) lo,
        word 5 e (omega arith) hi,
        word 6 e (omega arith) (omega arith),
        word 7 e (omega arith) (omega arith),
        of_bits-to_bits binary32 g.lo held.lo,
        of_bits-to_bits binary32 g.hi held.hi,
      )

  -- ---- and so the whole image
  at_end : length (image_of ws g ps) - 32 ≡ 4 * length ps + 4 * length ws
  at_end = let n = image_length_lem in omega arith

  trailer_is : trailer_in (image_of ws g ps) ≡ own_trailer ws g ps
  trailer_is = trailer_back (length (image_of ws g ps) - 32) at_end

  widths_are : widths_in (image_of ws g ps) (own_trailer ws g ps) ≡ ws
  widths_are = let n = image_length_lem in widths_back _ (omega arith)

  total_is : Past8 ws g (length ps) → total_in (image_of ws g ps) (own_trailer ws g ps) ≡ length ps
  total_is p = rw widths_are (sym p.model)

  accepted : Past8 ws g (length ps) → config_fault ws g ≡ 0 → all_finite ps ≡ true
      → PastEleven (image_of ws g ps) (own_trailer ws g ps)
  accepted p c f =
      let n = image_length_lem in
      let few = w.trailer.few_widths in
      let small = w.trailer.few_parameters in
      let total = total_is p in
      record {
        length = record {
          widths = record {
            short = omega arith;
            long = omega arith;
            trailer = record { version = refl; degree = refl; distance = refl; within = omega arith };
          };
          config = rw widths_are c;
          whole = n ∙ ap (image_length (length ws)) (sym total);
          first = sym n;
        };
        sound = rw (total, parameters_back) f;
      }

  describe_back : Past8 ws g (length ps) → config_fault ws g ≡ 0 → all_finite ps ≡ true
      → describe_of (image_of ws g ps) ≡ Ok (description_for ws g ps)
  unfolding describe_of
  describe_back p c f =
      let bs = image_of ws g ps in
      let none = sound_all bs (subst (PastEleven bs) (sym trailer_is) (accepted p c f)) in
      let found : description_in bs ≡ description_by (own_trailer ws g ps) (total_in bs (own_trailer ws g ps)) =
      ap (λ (t : Trailer). description_by t (total_in bs t)) trailer_is in
      rw none (ap Ok (found ∙ ap (description_by (own_trailer ws g ps)) (total_is p)))

-- ---- wherever the writer accepts
pub read_back : (ws : List ℕ) (g : Grid) (ps : List Float) (n : ℕ) → Held g ps → write_fault ws g ps n ≡ 0
    → ReadBack ws g ps
unfolding write_fault up_to8 widths_of parameters_of
read_back ws g ps n held e =
    let after8 = both_pass (up_to8 ws g (length ps)) _ e in
    let after10 = both_pass (eqb n (image_length (length ws) (length ps)) otherwise 10) _ after8.1 in
    let config = (both_pass (config_fault ws g) _ after8.0).0 in
    let p = past8 ws g (length ps) after8.0 in
    let w = in_words ws g ps p in
    record {
      description = describe_back ws g ps held w p config (test_passes (all_finite ps) 10 after10.1);
      widths = widths_back ws g ps held w _ refl;
      parameters = parameters_back ws g ps held w;
    }
