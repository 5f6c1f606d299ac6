-- One turn of each loop: an edge's coefficients written as words, or taken from words. Assumes nothing.
use Prim.Native.Nat.{ℕ, ◌+◌, ◌-◌, ◌*◌, ◌≤◌}
use native.Mathlib.Nat.{zero-mul, add-zero, suc-mul}
use native.Mathlib.Numerals.{add-one}
use native.Mathlib.Omega.{arith}
use mathlib.Core.Path.{◌≡◌, sym, ap, ◌∙◌}
use mathlib.Core.Bool.{true}
use mathlib.Core.List.{List, ◌++◌, append_assoc}
use lib.ListN.{length, take, drop, length-append, take-append-drop}
use lib.Seq.{take_at, drop_at, drop-drop, take-append-add, drop-append-add, length-take-le}
use lib.Ieee.{Float}
use borrow.Rule.Slice.PartMut.{put_mid, Post-is}
use Rattle.floats.specs.Sums.{all_finite, flat_to}
use Rattle.floats.specs.Places.{part_at}
use Rattle.floats.proofs.Loops.{put_rest, rest, rest_length}
use Rattle.floats.proofs.Places.{part_is, part_length, piece_length}
use Rattle.words.specs.Words.{packed_floats, floats_in}
use Rattle.layer_coefficients.specs.Coefficients.{body_of, edge_from, replaced}
use Rattle.layer_coefficients.proofs.Edges.{Within, part_finite, coefficients_at, body_length, edges_length}

times_more : (s k : ℕ) → (k + 1) * s ≡ k * s + s
times_more s k = ap (λ (n : ℕ). n * s) (add-one k) ∙ suc-mul k s

-- an edge, its weights and its coefficients, between those before it and the rest
edge_between : {A : Type 0} (a b c d r : List A) → a ++ b ++ c ++ (d ++ r) ≡ a ++ (b ++ (c ++ d) ++ r)
edge_between a b c d r = simp append_assoc

module _ (ps : List Float) (from g : ℕ) where
  -- ---- what the calls ask, where qs is the model, or what the loop has made of it: so many words lie within the bytes
  pub word_room : (k at : ℕ) (bytes e : List ℕ) (qs : List Float) → Within ps from g bytes k → length e ≡ length bytes
      → at + (g + 3) ≤ length qs
      → let place = k * (4 * (g + 3)) in
      length (take (at + (g + 3) - at) (drop at qs)) * 4 ≤ length (take (length e - place) (drop place e))
  word_room k at bytes e qs w same inside =
      let place = k * (4 * (g + 3)) in
      rw (piece_length qs at (g + 3) inside, rest_length place e) (omega (arith, w.body))

  -- and its coefficients are finite
  pub edge_finite : (k : ℕ) (bytes : List ℕ) → Within ps from g bytes k → all_finite ps ≡ true
      → let at = from + k * (g + 5) + 2 in all_finite (take (at + (g + 3) - at) (drop at ps)) ≡ true
  edge_finite k bytes w f =
      let at = from + k * (g + 5) + 2 in
      ap all_finite (part_is ps at (g + 3)) ∙ part_finite ps at (g + 3) f (omega (arith, w.model))

  -- ---- written: no edge, one edge more
  pub put_none : (bytes : List ℕ) → bytes ≡ body_of ps from g 0 ++ drop (0 * (4 * (g + 3))) bytes
  unfolding body_of flat_to
  put_none bytes = rw (zero-mul (4 * (g + 3)))

  pub put_more : (k : ℕ) (bytes e y : List ℕ) → Within ps from g bytes k → length e ≡ length bytes
      → e ≡ body_of ps from g k ++ drop (k * (4 * (g + 3))) bytes
      → let at = from + k * (g + 5) + 2 in
      let part = take (at + (g + 3) - at) (drop at ps) in
      let place = k * (4 * (g + 3)) in
      y ≡ packed_floats part ++ drop (length part * 4) (take (length e - place) (drop place e))
      → put_mid place (length e - place) e y ≡ body_of ps from g (k + 1) ++ drop ((k + 1) * (4 * (g + 3))) bytes
  unfolding body_of flat_to
  put_more k bytes e y w same p q =
      let at = from + k * (g + 5) + 2 in
      let place = k * (4 * (g + 3)) in
      let m : from + k * (g + 5) ≤ length ps = omega (arith, w.model) in
      let L = body_of ps from g k in
      let long : length L ≡ place = body_length ps from g k m in
      let front : take place e ≡ L = ap (take place) p ∙ take_at L (drop place bytes) place long in
      let back : drop place e ≡ drop place bytes = ap (drop place) p ∙ drop_at L (drop place bytes) place long in
      let size : length (part_at ps at (g + 3)) * 4 ≡ 4 * (g + 3) =
      omega (arith, part_length ps at (g + 3) (omega (arith, w.model))) in
      put_rest place e y (omega (arith, w.body))
      ∙ rw (q, part_is ps at (g + 3), size, rest place e, front, back, drop-drop, times_more (4 * (g + 3)) k, add-one k)
      (sym (append_assoc L (packed_floats (coefficients_at ps from g k)) (drop (place + 4 * (g + 3)) bytes)))

  -- ---- taken
  module _ (body : List ℕ) where
    pub take_none : ps ≡ replaced ps from g 0 body
    unfolding replaced flat_to
    take_none = rw (zero-mul (g + 5), add-zero from) (sym (take-append-drop from ps))

    pub take_more : (k : ℕ) (e y : List Float) → Within ps from g body k → length e ≡ length ps
        → e ≡ replaced ps from g k body
        → let at = from + k * (g + 5) + 2 in
        let place = k * (4 * (g + 3)) in
        let part = take (at + (g + 3) - at) (drop at e) in
        y ≡ floats_in (take (length body - place) (drop place body)) (length part)
        → put_mid at (at + (g + 3) - at) e y ≡ replaced ps from g (k + 1) body
    unfolding replaced flat_to edge_from
    take_more k e y w same p q =
        let here = from + k * (g + 5) in
        let at = here + 2 in
        let place = k * (4 * (g + 3)) in
        let m : here ≤ length ps = omega (arith, w.model) in
        let edges = flat_to (edge_from ps from g body) k in
        let L = take from ps ++ edges in
        let long : length L ≡ here =
        length-append (take from ps) edges
        ∙ rw (length-take-le from ps (omega arith), edges_length ps from g body k m) in
        let z : e ≡ L ++ drop here ps = p ∙ sym (append_assoc (take from ps) edges (drop here ps)) in
        let front : take at e ≡ L ++ take 2 (drop here ps) =
        ap (take at) z ∙ ap (λ (n : ℕ). take (n + 2) (L ++ drop here ps)) (sym long)
        ∙ take-append-add L (drop here ps) 2 in
        let after : at + (g + 3) ≡ length L + (g + 5) = omega (arith, long) in
        let next : here + (g + 5) ≡ from + (k + 1) * (g + 5) = omega (arith, times_more (g + 5) k) in
        let back : drop (at + (g + 3)) e ≡ drop (from + (k + 1) * (g + 5)) ps =
        ap (drop (at + (g + 3))) z
        ∙ ap (λ (n : ℕ). drop n (L ++ drop here ps)) after
        ∙ drop-append-add L (drop here ps) (g + 5) ∙ drop-drop (g + 5) here ps
        ∙ ap (λ (n : ℕ). drop n ps) next in
        let size : length (part_at e at (g + 3)) ≡ g + 3 = part_length e at (g + 3) (omega (arith, w.model)) in
        let written : y ≡ floats_in (drop place body) (g + 3) = q ∙ rw (rest place body, part_is e at (g + 3), size) in
        rw (Post-is at (at + (g + 3)) e (omega arith), front, back, written, add-one k)
        (edge_between (take from ps) edges (take 2 (drop here ps)) (floats_in (drop place body) (g + 3)) _)
