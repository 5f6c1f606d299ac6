-- The words of a written file's body are the coefficients again. Assumes nothing.
use Prim.Native.Nat.{ℕ, ◌+◌, ◌*◌, ◌/◌, ◌%◌, ◌≤◌, ◌<◌}
use native.Mathlib.Nat.{add_assoc, div-add-mod', mod-lt, div-lt_iff_lt-mul}
use native.Mathlib.Omega.{arith}
use mathlib.Core.Path.{◌≡◌, sym, ap, ◌∙◌}
use mathlib.Core.Bool.{true}
use mathlib.Core.List.{List, [], append-nil}
use lib.Dec.{T}
use lib.ListN.{length}
use lib.Ieee.{Float, binary32, of_bits, fits}
use lib.Ieee.Bits.{of_bits-to_bits, to_bits-lt}
use lib.Ieee.Scale.{finite}
use Rattle.floats.specs.Sums.{at, all_finite, flat_to}
use Rattle.floats.proofs.Loops.{all_each, all_of, all_table, flat_get, room}
use Rattle.floats.proofs.Places.{part_length, part_at_lem}
use Rattle.words.specs.Words.{word_at, float_at, floats_in, packed_floats}
use Rattle.words.proofs.Packs.{bits_in, packed_floats_length}
use Rattle.words.proofs.Places.{packed_at}
use Rattle.layer_coefficients.specs.Coefficients.{body_of}
use Rattle.layer_coefficients.proofs.Edges.{coefficients_at, body_length}
use Rattle.npy_round_trip.specs.RoundTrip.{Held}

-- a word of the e-th of n lists that follow one another
word_in : (f : ℕ → List ℕ) (e n p : ℕ) → e < n → p + 4 ≤ length (f e)
    → word_at (flat_to f n) (length (flat_to f e) + p) ≡ word_at (f e) p
unfolding word_at
word_in f e n p h l =
    simp (
      add_assoc,
      flat_get f e n p 0 h (omega arith),
      flat_get f e n (p + 1) 0 h (omega arith),
      flat_get f e n (p + 2) 0 h (omega arith),
      flat_get f e n (p + 3) 0 h (omega arith),
    )

-- the i-th of packed numbers, where an f32 holds it
packed_float : (xs : List Float) (i : ℕ) → i < length xs → T (fits binary32 (at xs i))
    → float_at (packed_floats xs) (i * 4) ≡ at xs i
unfolding packed_floats
packed_float xs i h held =
    ap (λ (bs : List ℕ). float_at bs (i * 4)) (sym (append-nil (packed_floats xs)))
    ∙ ap (of_bits binary32) (packed_at (bits_in xs) (length xs) i [] h (to_bits-lt binary32 (at xs i) held))
    ∙ of_bits-to_bits binary32 (at xs i) held

module _ (ps : List Float) (from g n : ℕ) (held : Held ps) (room_for : from + n * (g + 5) ≤ length ps) where
  -- coefficient k of edge e
  pub body_float : (e k : ℕ) → e < n → k < g + 3
      → float_at (body_of ps from g n) ((e * (g + 3) + k) * 4) ≡ at ps (from + e * (g + 5) + 2 + k)
  unfolding body_of
  body_float e k h l =
      let words : ℕ → List ℕ = λ i. packed_floats (coefficients_at ps from g i) in
      let p = from + e * (g + 5) + 2 in
      let xs = coefficients_at ps from g e in
      let m : e * (g + 5) + (g + 5) ≤ n * (g + 5) = room e n (g + 5) _ h (omega arith) in
      let start : length (flat_to words e) ≡ e * (4 * (g + 3)) = body_length ps from g e (omega arith) in
      let some : length xs ≡ g + 3 = part_length ps p (g + 3) (omega arith) in
      let long = packed_floats_length xs in
      let here : (e * (g + 3) + k) * 4 ≡ length (flat_to words e) + k * 4 = omega arith in
      let same : at xs k ≡ at ps (p + k) = part_at_lem ps p (g + 3) k l in
      let holds : T (fits binary32 (at xs k)) = rw same (held (p + k) (omega arith)) in
      ap (float_at (body_of ps from g n)) here
      ∙ ap (of_bits binary32) (word_in words e n (k * 4) h (omega arith))
      ∙ packed_float xs k (omega arith) holds ∙ same

  -- so all of them are finite
  pub body_finite : all_finite ps ≡ true → all_finite (floats_in (body_of ps from g n) (n * (g + 3))) ≡ true
  unfolding floats_in all_finite
  body_finite sound = all_table _ (n * (g + 3)) ∙ all_of _ (n * (g + 3)) each
    where
      each : (j : ℕ) → j < n * (g + 3) → finite (float_at (body_of ps from g n) (j * 4)) ≡ true
      each j h =
          let e = j / (g + 3) in
          let k = j % (g + 3) in
          let below : e < n = (div-lt_iff_lt-mul {k = g + 3} {x = j} {y = n} (omega arith)).1 h in
          let small : k < g + 3 = mod-lt j (omega arith) in
          let m : e * (g + 5) + (g + 5) ≤ n * (g + 5) = room e n (g + 5) _ below (omega arith) in
          let same : j ≡ e * (g + 3) + k = sym (div-add-mod' j (g + 3)) in
          ap (λ (i : ℕ). finite (float_at (body_of ps from g n) (i * 4))) same
          ∙ ap finite (body_float e k below small)
          ∙ all_each _ (length ps) sound (from + e * (g + 5) + 2 + k) (omega arith)
