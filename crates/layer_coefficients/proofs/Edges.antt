-- The edges of a layer, in the model and as words: where they lie, and how many words each has. Assumes nothing.
use Prim.Native.Nat.{ℕ, zero, suc, ◌+◌, ◌-◌, ◌*◌, ◌≤◌, ◌<◌}
use native.Mathlib.Nat.{zero-mul, suc-mul, mul_comm, lt-suc_self}
use native.Mathlib.Omega.{arith}
use mathlib.Core.Path.{◌≡◌, sym, ap, ◌∙◌}
use mathlib.Core.Bool.{true}
use mathlib.Core.List.{List}
use lib.ListN.{length, drop, length-append}
use lib.Ieee.{Float}
use lib.Ieee.Scale.{finite}
use Rattle.floats.specs.Sums.{all_finite, flat_to}
use Rattle.floats.specs.Places.{part_at}
use Rattle.floats.proofs.Loops.{all_each, all_of, room}
use Rattle.floats.proofs.Places.{part_length, part_at_lem}
use Rattle.words.specs.Words.{packed_floats}
use Rattle.words.proofs.Packs.{packed_floats_length}
use Rattle.words.proofs.Tables.{floats_length}
use Rattle.layer_coefficients.specs.Coefficients.{body_of, edge_from}
use Rattle.layer_coefficients.specs.Steps.{Fitting}

-- ---- lists one after the other, of which the first n are as long
pub flat_sized : {A : Type 0} (f : ℕ → List A) (s n : ℕ) → ((j : ℕ) → j < n → length (f j) ≡ s)
    → length (flat_to f n) ≡ n * s
unfolding flat_to
flat_sized f s zero h = sym (zero-mul s)
flat_sized f s (suc n) h =
    length-append (flat_to f n) (f n)
    ∙ rw (flat_sized f s n (λ j l. h j (omega arith)), h n (lt-suc_self n)) (sym (suc-mul n s))

-- ---- the numbers of a part of a finite model are finite
pub part_finite : (ps : List Float) (a n : ℕ) → all_finite ps ≡ true → a + n ≤ length ps
    → all_finite (part_at ps a n) ≡ true
unfolding all_finite
part_finite ps a n f h =
    rw (part_length ps a n h)
    (all_of _ n (λ k l. ap finite (part_at_lem ps a n k l) ∙ all_each _ (length ps) f (a + k) (omega arith)))

-- ---- edge k of n: it lies within the model, and its words within the body
pub record Within (ps : List Float) (from g : ℕ) (bytes : List ℕ) (k : ℕ) : Type 0 where
  pub grid : g ≤ 250000
  pub small : length ps ≤ 250000
  pub model : from + k * (g + 5) + (g + 5) ≤ length ps
  pub body : k * (4 * (g + 3)) + 4 * (g + 3) ≤ length bytes

pub within : {ps : List Float} {from g n k : ℕ} {bytes : List ℕ} → Fitting ps from g n bytes → k < n
    → Within ps from g bytes k
within {ps} {from} {g} {n} {k} f h =
    let m : k * (g + 5) + (g + 5) ≤ length ps - from =
    room k n (g + 5) (length ps - from) h (omega (arith, f.model)) in
    record {
      grid = f.grid;
      small = f.small;
      model = omega (arith, m, f.model);
      body = room k n (4 * (g + 3)) _ h f.body;
    }

-- ---- the coefficients of n edges as words, and each edge from words
module _ (ps : List Float) (from g : ℕ) where
  abbrev pub coefficients_at : ℕ → List Float
  coefficients_at k = part_at ps (from + k * (g + 5) + 2) (g + 3)

  words_length : (k : ℕ) → from + k * (g + 5) + (g + 5) ≤ length ps
      → length (packed_floats (coefficients_at k)) ≡ 4 * (g + 3)
  words_length k h =
      let l : length (coefficients_at k) ≡ g + 3 = part_length ps (from + k * (g + 5) + 2) (g + 3) (omega arith) in
      packed_floats_length (coefficients_at k) ∙ ap (λ (n : ℕ). n * 4) l ∙ mul_comm (g + 3) 4

  -- each of n edges lies in the model where all do
  pub edge_inside : (n k : ℕ) → from + n * (g + 5) ≤ length ps → k < n → from + k * (g + 5) + (g + 5) ≤ length ps
  edge_inside n k h l = let m : k * (g + 5) + (g + 5) ≤ n * (g + 5) = room k n (g + 5) _ l (omega arith) in omega arith

  pub body_length : (n : ℕ) → from + n * (g + 5) ≤ length ps → length (body_of ps from g n) ≡ n * (4 * (g + 3))
  unfolding body_of
  body_length n h = flat_sized _ (4 * (g + 3)) n (λ k l. words_length k (edge_inside n k h l))

  module _ (body : List ℕ) where
    pub edge_length : (k : ℕ) → from + k * (g + 5) + (g + 5) ≤ length ps → length (edge_from ps from g body k) ≡ g + 5
    unfolding edge_from
    edge_length k h =
        let p = from + k * (g + 5) in
        let a : length (part_at ps p 2) ≡ 2 = part_length ps p 2 (omega arith) in
        let b = floats_length (drop (k * (4 * (g + 3))) body) (g + 3) in
        length-append (part_at ps p 2) _ ∙ omega (arith, a, b)

    pub edges_length : (n : ℕ) → from + n * (g + 5) ≤ length ps
        → length (flat_to (edge_from ps from g body) n) ≡ n * (g + 5)
    edges_length n h = flat_sized _ (g + 5) n (λ k l. edge_length k (edge_inside n k h l))
