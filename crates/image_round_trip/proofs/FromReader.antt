-- From the reader to the writer: each word that was read, written again, is the bytes that it was. Assumes nothing.
use Prim.Native.Nat.{ℕ, zero, suc, ◌+◌, ◌-◌, ◌*◌, ◌≤◌, ◌<◌}
use native.Mathlib.Nat.{add-zero}
use native.Mathlib.Omega.{arith}
use mathlib.Core.Path.{◌≡◌, refl, sym, ap, ◌∙◌}
use mathlib.Core.Bool.{true}
use mathlib.Core.List.{List, ◌++◌}
use lib.ListN.{length, take, drop, length-drop, take-append-drop}
use lib.Seq.{drop-drop, take_all}
use lib.Ieee.{Float, binary32, to_bits}
use lib.Ieee.Bits.{to_bits-of_bits, is_true}
use lib.Ieee.Scale.{finite}
use borrow.Author.Tests.{eq-eqb}
use Rattle.floats.specs.Sums.{all_finite}
use Rattle.floats.proofs.Loops.{all_each}
use Rattle.layers.specs.Widths.{parameters_in}
use Rattle.config.specs.Config.{config_fault}
use Rattle.admission.specs.Admission.{up_to8}
use Rattle.words.specs.Words.{Bytes, word_at, float_at, words_from, floats_in, packed_words, packed_floats}
use Rattle.words.proofs.Packs.{word_in, bits_in}
use Rattle.words.proofs.Patterns.{finite_number}
use Rattle.words.proofs.Tables.{words_length, word_at_lem, floats_length, float_at_lem}
use Rattle.words.proofs.Places.{word_small, packed_again}
use Rattle.image_layout.specs.declared.Trailer.{Trailer}
use Rattle.image_layout.specs.Trailer.{image_length, trailer_at, trailer_words}
use Rattle.image_reading.specs.Image.{trailer_in, widths_in, total_in, describe_fault, widths_of, parameters_of}
use Rattle.image_reading.proofs.Passed.{PastEleven, past_eleven, size}
use Rattle.image_writing.specs.Writing.{image_of, write_fault}
use Rattle.image_round_trip.specs.RoundTrip.{WrittenAgain}

-- ---- three parts that follow one another
three : (bs : List ℕ) (a b c : ℕ) → length bs ≡ a + b + c
    → take a bs ++ (take b (drop a bs) ++ take c (drop (a + b) bs)) ≡ bs
three bs a b c e =
    let end : take c (drop (a + b) bs) ≡ drop b (drop a bs) =
    take_all c (drop (a + b) bs) (simp length-drop (omega arith)) ∙ sym (drop-drop b a bs) in
    ap (λ (l : List ℕ). take a bs ++ (take b (drop a bs) ++ l)) end
    ∙ ap (λ (l : List ℕ). take a bs ++ l) (take-append-drop b (drop a bs)) ∙ take-append-drop a bs

-- the bits of a finite number that was read
bits_back : (bs : List ℕ) (p : ℕ) → Bytes bs → p + 4 ≤ length bs → finite (float_at bs p) ≡ true
    → to_bits binary32 (float_at bs p) ≡ word_at bs p
bits_back bs p b h f = to_bits-of_bits binary32 (word_at bs p) (word_small bs p b h) (finite_number (float_at bs p) f)

-- ---- the image's own trailer, and what it asks for
abbrev t : List ℕ → Trailer
t bs = trailer_in bs

abbrev P : List ℕ → ℕ
P bs = total_in bs (trailer_in bs)

module _ (bs : List ℕ) (b : Bytes bs) (a : PastEleven bs (trailer_in bs)) where
  parameters_again : packed_floats (floats_in bs (P bs)) ≡ take (P bs * 4) bs
  unfolding packed_floats all_finite
  parameters_again =
      let n = P bs in
      let whole = a.length.whole in
      rw (floats_length bs n)
      (packed_again bs 0 n (bits_in (floats_in bs n)) b (omega arith)
      (λ i h. let same = float_at_lem bs n i h in
      let f : finite (float_at bs (i * 4)) ≡ true =
      ap finite (sym same) ∙ all_each _ n (rw (floats_length bs n) at a.sound) i h in
      let z : 0 + i * 4 ≡ i * 4 = omega arith in
      ap (to_bits binary32) same ∙ bits_back bs (i * 4) b (omega arith) f ∙ ap (word_at bs) (sym z)))

  widths_again : (p : ℕ) → p ≡ 4 * P bs
      → packed_words (words_from bs p (t bs).count) ≡ take ((t bs).count * 4) (drop p bs)
  unfolding packed_words
  widths_again p e =
      let n = (t bs).count in
      let whole = a.length.whole in
      rw (words_length bs p n)
      (packed_again bs p n (word_in (words_from bs p n)) b (omega arith) (λ i h. word_at_lem bs p n i h))

  -- the trailer's words, one by one, once the tests have passed
  trailer_words_lem : (i : ℕ) → i < 8
      → word_in (trailer_words (t bs).count (P bs) (t bs).grid) i ≡ word_at bs (length bs - 32 + i * 4)
  unfolding trailer_words trailer_at
  trailer_words_lem zero h =
      sym a.length.whole ∙ sym a.length.first ∙ ap (word_at bs) (sym (add-zero (length bs - 32)))
  trailer_words_lem (suc zero) h = sym a.length.widths.trailer.distance
  trailer_words_lem (suc (suc zero)) h = refl
  trailer_words_lem (suc (suc (suc zero))) h = refl
  trailer_words_lem (suc (suc (suc (suc zero)))) h =
      bits_back bs (length bs - 32 + 16) b (omega (arith, a.length.widths.long))
      (is_true _ (size bs (t bs) a.length).lo_finite)
  trailer_words_lem (suc (suc (suc (suc (suc zero))))) h =
      bits_back bs (length bs - 32 + 20) b (omega (arith, a.length.widths.long))
      (is_true _ (size bs (t bs) a.length).hi_finite)
  trailer_words_lem (suc (suc (suc (suc (suc (suc zero)))))) h = sym a.length.widths.trailer.degree
  trailer_words_lem (suc (suc (suc (suc (suc (suc (suc zero))))))) h = sym a.length.widths.trailer.version
  trailer_words_lem (suc (suc (suc (suc (suc (suc (suc (suc i)))))))) h = absurd (omega arith)

  trailer_again : packed_words (trailer_words (t bs).count (P bs) (t bs).grid) ≡ take 32 (drop (length bs - 32) bs)
  unfolding packed_words trailer_words
  trailer_again =
      packed_again bs (length bs - 32) 8 (word_in (trailer_words (t bs).count (P bs) (t bs).grid)) b
      (omega (arith, a.length.widths.long)) trailer_words_lem

  image_again : (ws : List ℕ) (ps : List Float) → ws ≡ words_from bs (4 * P bs) (t bs).count → ps ≡ floats_in bs (P bs)
      → image_of ws (t bs).grid ps ≡ bs
  unfolding image_of
  image_again ws ps e f =
      let n = P bs in
      let count = (t bs).count in
      let k : length ws ≡ count = ap length e ∙ words_length bs (4 * n) count in
      let m : length ps ≡ n = ap length f ∙ floats_length bs n in
      let whole = a.length.whole in
      let at-widths : 4 * n ≡ n * 4 = omega arith in
      let at-trailer : length bs - 32 ≡ n * 4 + count * 4 = omega arith in
      let front = take (n * 4) bs in
      let middle = take (count * 4) (drop (n * 4) bs) in
      rw (k, m, e, f, parameters_again, widths_again _ refl, trailer_again, at-widths)
      (ap (λ (p : ℕ). front ++ (middle ++ take 32 (drop p bs))) at-trailer
      ∙ three bs (n * 4) (count * 4) 32 (omega arith))

  -- the widths that follow the parameters are those at their distance from the end
  same_place : length bs - (t bs).widths ≡ 4 * P bs
  same_place = omega (arith, a.length.whole, a.length.widths.trailer.distance)

  accepted_again : (ws : List ℕ) (ps : List Float) → ws ≡ words_from bs (4 * P bs) (t bs).count
      → ps ≡ floats_in bs (P bs) → write_fault ws (t bs).grid ps (length bs) ≡ 0
  unfolding write_fault up_to8
  accepted_again ws ps e f =
      let n = P bs in
      let count = (t bs).count in
      let here : ws ≡ widths_in bs (t bs) = e ∙ ap (λ (p : ℕ). words_from bs p count) (sym same_place) in
      let k : length ws ≡ count = ap length e ∙ words_length bs (4 * n) count in
      let m : length ps ≡ n = ap length f ∙ floats_length bs n in
      let config : config_fault ws (t bs).grid ≡ 0 = rw here a.length.config in
      let eight : length ps ≡ parameters_in ((t bs).grid.intervals + 5) ws = m ∙ ap (parameters_in _) (sym here) in
      let ten : length bs ≡ image_length (length ws) (length ps) = a.length.whole ∙ rw (k, m) in
      let sound : all_finite ps ≡ true = rw f a.sound in
      rw (config, eq-eqb _ _ eight, eq-eqb _ _ ten, sound)

-- ---- wherever the reader accepts
pub written_again_lem : (bs : List ℕ) → Bytes bs → describe_fault bs ≡ 0 → WrittenAgain bs
unfolding widths_of parameters_of
written_again_lem bs b e =
    let a = past_eleven bs e in
    record { accepted = accepted_again bs b a _ _ refl refl; image = image_again bs b a _ _ refl refl }
