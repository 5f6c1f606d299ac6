-- R17.8: the reader of a header's text and the grammar: what the theorems of this crate say. Definitions only.
use Rattle.std.specs.Prelude.{ℕ, ◌≡◌, List}
use Rattle.std.proofs.Math.Option.{some}
use Rattle.npy_header.specs.Dictionary.{Dictionary}
use Rattle.npy_header.specs.Grammar.{Header}
use Rattle.npy_header.specs.Reading.{header_of}

-- R17.8: a text is read as a dictionary exactly where it is a header that says so; with this a text says one thing at most
pub record Exact : Type 0 where
  pub complete : (d : Dictionary) (text : List ℕ) → Header d text → header_of text ≡ some d
  pub sound : (d : Dictionary) (text : List ℕ) → header_of text ≡ some d → Header d text
