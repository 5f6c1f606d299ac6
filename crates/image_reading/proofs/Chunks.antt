-- Of n words that begin at a place, read as chunks of 4 bytes: the chunk that comes after i of them is word i.
-- Assumes nothing.
use Rattle.std.proofs.Common.{◌≡◌, ℕ, ◌+◌, ◌-◌, ◌*◌, ◌<◌, ◌≤◌, List, ◌++◌, length, get_or, take, drop}
use Rattle.std.proofs.Common.{sym, ap, ◌∙◌, arith, length-append, length-drop}
use Rattle.std.proofs.Math.ListN.{get_or-append, length-take}
use Rattle.std.proofs.Math.Seq.{drop-drop, drop_at}
use Rattle.std.proofs.lemmas.List.{get_or-take, get_or-drop}
use Rattle.words.specs.Words.{word_at, words_from}
use Rattle.words.proofs.Tables.{word_at_lem}
use Rattle.layers.specs.Widths.{width_at}

pub record NextChunk (bs : List ℕ) (p n i : ℕ) (w left : List ℕ) : Type 0 where
  pub more : i < n
  pub word : word_at w 0 ≡ width_at (words_from bs p n) i
  pub rest : left ≡ drop (4 * (i + 1)) (take (4 * n) (drop p bs))

module _ (bs : List ℕ) (p n i : ℕ) (rest : List ℕ) (room : p + 4 * n ≤ length bs)
    (at : rest ≡ drop (4 * i) (take (4 * n) (drop p bs))) where
  pub left : length rest ≡ 4 * n - 4 * i
  left = rw at (simp (length-drop, length-take) (omega arith))

  module _ (w rest' : List ℕ) (front : rest ≡ w ++ rest') (four : length w ≡ 4) where
    more : i < n
    more = omega (arith, left, simp length-append at (ap length front))

    byte : (k : ℕ) → k < 4 → get_or w k 0 ≡ get_or bs (p + (4 * i + k)) 0
    byte k h =
        let here : k < length w = omega arith in
        let within : 4 * i + k < 4 * n = omega (arith, more) in
        sym (get_or-append w rest' 0 k here) ∙ rw (← front, at, get_or-drop, get_or-take, get_or-drop)

    chunk_is : word_at w 0 ≡ width_at (words_from bs p n) i
    unfolding word_at
    chunk_is =
        let place : (k : ℕ) → p + (4 * i + k) ≡ p + i * 4 + k = λ k. omega arith in
        let zero : p + (4 * i + 0) ≡ p + i * 4 = omega arith in
        rw (
          word_at_lem bs p n i more,
          byte 0 (omega arith),
          byte 1 (omega arith),
          byte 2 (omega arith),
          byte 3 (omega arith),
          zero,
          place 1,
          place 2,
          place 3,
        )

    next : rest' ≡ drop (4 * (i + 1)) (take (4 * n) (drop p bs))
    next =
        let sum : 4 * (i + 1) ≡ 4 * i + 4 = omega arith in
        let part = take (4 * n) (drop p bs) in
        rw sum (sym (drop_at w rest' 4 four) ∙ ap (drop 4) (sym front ∙ at) ∙ drop-drop 4 (4 * i) part)

    pub after : NextChunk bs p n i w rest'
    after = record { more = more; word = chunk_is; rest = next }
