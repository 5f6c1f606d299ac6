-- R15.2: what it means that a text was put at a place of lent bytes. Definitions only.
use Rattle.std.specs.Prelude.{ℕ, ◌+◌, ◌≤◌, ◌≡◌, List, ◌++◌, length, take, drop}

-- R15.2: a text was put at a place of a slice, and the next place is behind it
pub record Appended (out : List ℕ) (at : ℕ) (text out' : List ℕ) (next : ℕ) : Type 0 where
  pub place : next ≡ at + length text
  pub room : at + length text ≤ length out
  pub bytes : out' ≡ take at out ++ (text ++ drop (at + length text) out)

-- R15.2: and it is no longer than a bound, from which a caller works out the room that it must have
pub record AppendedWithin (most : ℕ) (out : List ℕ) (at : ℕ) (text out' : List ℕ) (next : ℕ) : Type 0 where
  pub whole : Appended out at text out' next
  pub short : next ≤ at + most
