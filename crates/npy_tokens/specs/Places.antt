-- What the readers of tokens promise of places in a text: no part of the grammar's meaning. Definitions only.
use Rattle.std.specs.Prelude.{ℕ, ◌-◌, ◌≤◌, ◌<◌, min, ◌≡◌, List, length, get_or, take, drop}
use Rattle.npy_tokens.specs.declared.Class.{Class}
use Rattle.npy_tokens.specs.declared.Quoted.{Quoted}
use Rattle.npy_tokens.specs.declared.Number.{Number}
use Rattle.npy_tokens.specs.Tokens.{front, behind, string_in, after_string, number_in, after_number}

-- a place of a text, by the rest that begins there; the text's end where the rest is empty
pub record Place (text : List ℕ) (place : ℕ) (bs : List ℕ) : Type 0 where
  pub inside : place ≤ length text
  pub rest : drop place text ≡ bs

-- the bytes from one place up to another
abbrev pub part : List ℕ → ℕ → ℕ → List ℕ
part text from end = take (end - from) (drop from text)

-- where the bytes of a class end that begin at a place
pub record Ended (text : List ℕ) (from : ℕ) (c : Class) (end : ℕ) : Type 0 where
  pub behind_from : from ≤ end
  pub front : part text from end ≡ front c (drop from text)
  pub place : Place text end (behind c (drop from text))

pub record StringRead (text : List ℕ) (from : ℕ) (r : Quoted) : Type 0 where
  pub ordered : r.from ≤ r.end
  pub inside : r.end ≤ length text
  pub content : part text r.from r.end ≡ string_in (drop from text)
  pub place : Place text r.next (after_string (drop from text))

-- every byte from one place up to another is a digit, or a larger one
pub record Digits (text : List ℕ) (from end : ℕ) : Type 0 where
  pub ordered : from ≤ end
  pub inside : end ≤ length text
  pub each : (i : ℕ) → from ≤ i → i < end → 48 ≤ get_or text i 0

-- a number as far as it is counted
abbrev pub counted : ℕ → ℕ
counted n = min n 1000000

pub record NumberRead (text : List ℕ) (from : ℕ) (r : Number) : Type 0 where
  pub value : r.value ≡ counted (number_in (drop from text))
  pub place : Place text r.next (after_number (drop from text))
