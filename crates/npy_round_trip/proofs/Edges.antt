-- A model whose layer took its coefficients from words: what stands at each of its places. Assumes nothing.
use Prim.Native.Nat.{ℕ, ◌+◌, ◌-◌, ◌*◌, ◌/◌, ◌%◌, ◌≤◌, ◌<◌}
use native.Mathlib.Nat.{add_assoc, div-add-mod', mod-lt, div-lt_iff_lt-mul}
use native.Mathlib.Omega.{arith}
use mathlib.Core.Path.{◌≡◌, refl, sym, ap, ◌∙◌}
use mathlib.Core.Logic.{◌⊎◌, inl, inr}
use mathlib.Core.Bool.{Bool, true, false}
use mathlib.Core.List.{List, ◌++◌, append_assoc}
use lib.Dec.{ltb}
use lib.ListN.{length, get_or, take, drop, length-append, length-drop, get_or-append}
use lib.Seq.{get_or-append-add, get_or-drop, get_or-take, length-take-le}
use lib.Ieee.{Float, nan, binary32, of_bits}
use borrow.Author.Tests.{ltb-true, ltb-false}
use Rattle.floats.specs.Sums.{at, flat_to}
use Rattle.floats.specs.Places.{part_at}
use Rattle.floats.proofs.Loops.{flat_get, room}
use Rattle.floats.proofs.Places.{part_length, part_at_lem}
use Rattle.words.specs.Words.{word_at, float_at, floats_in}
use Rattle.words.proofs.Tables.{float_at_lem}
use Rattle.layer_coefficients.specs.Coefficients.{edge_from, replaced}
use Rattle.layer_coefficients.proofs.Edges.{edge_inside, edge_length, edges_length}

-- ---- lists: a place behind a front of n, and a word behind m bytes
behind : {A : Type 0} (a r : List A) (n k : ℕ) (x : A) → length a ≡ n → get_or (a ++ r) (n + k) x ≡ get_or r k x
behind a r n k x e = rw (← e) (get_or-append-add a r k x)

word_dropped : (bs : List ℕ) (m p : ℕ) → word_at (drop m bs) p ≡ word_at bs (m + p)
unfolding word_at
word_dropped bs m p = simp (get_or-drop, add_assoc)

-- ---- n edges of g + 5 numbers each that begin at a place of a model
-- a place of the model that is coefficient `index` of edge `edge`
pub record InEdge (from g n p : ℕ) : Type 0 where
  pub edge : ℕ
  pub index : ℕ
  pub below : edge < n
  pub few : index < g + 3
  pub place : p ≡ from + edge * (g + 5) + 2 + index

module _ (ps : List Float) (from g n : ℕ) (body : List ℕ) (fits : from + n * (g + 5) ≤ length ps) where
  abbrev edges : ℕ → List Float
  edges e = flat_to (edge_from ps from g body) e

  -- the model that is left
  abbrev model : List Float
  model = replaced ps from g n body

  abbrev Either : ℕ → Type 0
  Either p = InEdge from g n p ⊎ (at model p ≡ at ps p)

  front : length (take from ps) ≡ from
  front = length-take-le from ps (omega arith)

  pub replaced_length : length (replaced ps from g n body) ≡ length ps
  unfolding replaced
  replaced_length =
      let a = front in
      let b = edges_length ps from g body n fits in
      simp (length-append, length-drop) (omega arith)

  -- ---- place r of edge e: a weight, as it was, or a coefficient, of the words
  in_edge : (e r : ℕ) → e < n → r < g + 5
      → at model (from + (e * (g + 5) + r)) ≡ at (edge_from ps from g body e) r
  unfolding replaced
  in_edge e r h l =
      let z = edge_inside ps from g n e fits h in
      let long = edges_length ps from g body n fits in
      let start = edges_length ps from g body e (omega arith) in
      let m : e * (g + 5) + (g + 5) ≤ n * (g + 5) = room e n (g + 5) _ h (omega arith) in
      behind (take from ps) (edges n ++ drop (from + n * (g + 5)) ps) from (e * (g + 5) + r) nan front
      ∙ get_or-append (edges n) (drop (from + n * (g + 5)) ps) nan (e * (g + 5) + r) (omega arith)
      ∙ rw (← start) (flat_get (edge_from ps from g body) e n r nan h (rw (edge_length ps from g body e (edge_inside ps from g n e fits h)) l))

  weight_length : (e : ℕ) → e < n → length (part_at ps (from + e * (g + 5)) 2) ≡ 2
  weight_length e h = let z = edge_inside ps from g n e fits h in part_length ps (from + e * (g + 5)) 2 (omega arith)

  weight : (e r : ℕ) → e < n → r < 2
      → at model (from + (e * (g + 5) + r)) ≡ at ps (from + (e * (g + 5) + r))
  unfolding edge_from
  weight e r h l =
      let p = from + e * (g + 5) in
      let w = weight_length e h in
      in_edge e r h (omega arith)
      ∙ get_or-append (part_at ps p 2) _ nan r (omega arith)
      ∙ part_at_lem ps p 2 r l ∙ ap (at ps) (add_assoc from (e * (g + 5)) r)

  pub coefficient : (e k : ℕ) → e < n → k < g + 3
      → at (replaced ps from g n body) (from + e * (g + 5) + 2 + k) ≡ float_at body ((e * (g + 3) + k) * 4)
  unfolding edge_from
  coefficient e k h l =
      let p = from + e * (g + 5) in
      let words = drop (e * (4 * (g + 3))) body in
      let here : p + 2 + k ≡ from + (e * (g + 5) + (2 + k)) = omega arith in
      let there : e * (4 * (g + 3)) + k * 4 ≡ (e * (g + 3) + k) * 4 = omega arith in
      ap (at model) here
      ∙ in_edge e (2 + k) h (omega arith)
      ∙ behind (part_at ps p 2) (floats_in words (g + 3)) 2 k nan (weight_length e h)
      ∙ float_at_lem words (g + 3) k l
      ∙ ap (of_bits binary32) (word_dropped body (e * (4 * (g + 3))) (k * 4) ∙ ap (word_at body) there)

  -- ---- every place: a coefficient, or as it was
  before : (p : ℕ) → p < from → at model p ≡ at ps p
  unfolding replaced
  before p h = let a = front in get_or-append (take from ps) _ nan p (omega arith) ∙ get_or-take from ps p nan h

  after : (p : ℕ) → from + n * (g + 5) ≤ p → at model p ≡ at ps p
  unfolding replaced
  after p h =
      let q = from + n * (g + 5) in
      let a = front in
      let b = edges_length ps from g body n fits in
      let long : length (take from ps ++ edges n) ≡ q = length-append (take from ps) (edges n) ∙ omega arith in
      let k : p ≡ q + (p - q) = omega arith in
      ap (λ (l : List Float). at l p) (sym (append_assoc (take from ps) (edges n) (drop q ps)))
      ∙ ap (at ((take from ps ++ edges n) ++ drop q ps)) k
      ∙ behind (take from ps ++ edges n) (drop q ps) q (p - q) nan long
      ∙ get_or-drop q ps (p - q) nan ∙ ap (at ps) (sym k)

  pub each_place : (p : ℕ) → InEdge from g n p ⊎ (at (replaced ps from g n body) p ≡ at ps p)
  each_place p = by_front (ltb p from) refl
    where
      e : ℕ
      e = (p - from) / (g + 5)

      r : ℕ
      r = (p - from) % (g + 5)

      by_row : from ≤ p → e < n → p ≡ from + (e * (g + 5) + r) → (b : Bool) → ltb r 2 ≡ b → Either p
      by_row l h q true t =
          inr (ap (at model) q ∙ weight e r h (ltb-true r 2 t) ∙ ap (at ps) (sym q))
      by_row l h q false t =
          let some = ltb-false r 2 t in
          let small : r < g + 5 = mod-lt (p - from) (omega arith) in
          inl (record { edge = e; index = r - 2; below = h; few = omega arith; place = omega arith })

      by_end : from ≤ p → (b : Bool) → ltb p (from + n * (g + 5)) ≡ b → Either p
      by_end l true t =
          let h = ltb-true p (from + n * (g + 5)) t in
          let q = div-add-mod' (p - from) (g + 5) in
          by_row l ((div-lt_iff_lt-mul (omega arith)).1 (omega arith)) (omega arith) (ltb r 2) refl
      by_end l false t = inr (after p (ltb-false p (from + n * (g + 5)) t))

      by_front : (b : Bool) → ltb p from ≡ b → Either p
      by_front true t = inr (before p (ltb-true p from t))
      by_front false t = by_end (ltb-false p from t) (ltb p (from + n * (g + 5))) refl
