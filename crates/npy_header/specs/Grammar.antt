-- R18.4: the texts that are a header, in the form of NumPy's format document: a dictionary of three entries as Python has it,
-- padded with spaces and closed by a newline. This is what is to be believed; Reading.antt is how such a text is read, and the
-- two are proved to be the same (npy_grammar). Definitions only.
-- Bytes are ASCII: 10 the newline, 40 ( and 41 ), 44 the comma, 58 the colon, 123 { and 125 }.
use Rattle.std.specs.Prelude.{ℕ, ◌≡◌, ◌⊎◌, Bool, true, false, List, [], ◌∷◌, ◌++◌}
use Rattle.npy_tokens.specs.declared.Class.{Class}
use Rattle.npy_tokens.specs.declared.Class.TheVariants.{Space, Digit, Within}
use Rattle.npy_tokens.specs.Tokens.{belongs, is_quote, plain, value_of}
use Rattle.npy_header.specs.Dictionary.{Dictionary, Key, Descr, FortranOrder, Shape, name_of, true_word, false_word}

-- a set of texts
abbrev pub Language : Type 1
Language = List ℕ → Type 0

-- ---- notation
-- one text alone
abbrev pub Exactly : List ℕ → Language
Exactly text bs = bs ≡ text

infixr 40 ◌⨾◌
-- a text of the one, and then a text of the other
pub record ◌⨾◌ (P Q : Language) (bs : List ℕ) : Type 0 where
  pub front : List ℕ
  pub back : List ℕ
  pub split : bs ≡ front ++ back
  pub first : P front
  pub second : Q back

-- a text, or none
abbrev pub Optional : Language → Language
Optional P bs = Exactly [] bs ⊎ P bs

-- bytes of one class, as many as there are
unfoldable pub Many : Class → Language
Many c [] = Unit {0}
Many c (b ∷ bs) = (belongs c b ≡ true) × Many c bs

-- ---- tokens: spaces or none stand before each
abbrev pub Spaces : Language
Spaces = Many Space

abbrev pub Token : List ℕ → Language
Token text = Spaces ⨾ Exactly text

-- a string between two quotes of one kind
pub record Quoted (content : List ℕ) (bs : List ℕ) : Type 0 where
  pub quote : ℕ
  pub either : is_quote quote ≡ true
  pub closed : bs ≡ quote ∷ (content ++ (quote ∷ []))
  pub inside : Many (Within quote) content

-- a whole number: digits, the first no 0 unless it is alone
pub record Decimal (n : ℕ) (bs : List ℕ) : Type 0 where
  pub digits : Many Digit bs
  pub written : plain bs ≡ true
  pub value : value_of bs ≡ n

abbrev pub Text : List ℕ → Language
Text content = Spaces ⨾ Quoted content

abbrev pub Number : ℕ → Language
Number n = Spaces ⨾ Decimal n

abbrev pub Comma : Language
Comma = Token (44 ∷ [])

-- ---- values: True or False; and the numbers of a shape, in parentheses, parted by commas, with a last comma or none
abbrev pub Truth : Bool → Language
Truth true = Token true_word
Truth false = Token false_word

unfoldable pub Numbers : List ℕ → Language
Numbers [] = Exactly []
Numbers (n ∷ []) = Number n ⨾ Optional Comma
Numbers (n ∷ m ∷ ns) = Number n ⨾ Comma ⨾ Numbers (m ∷ ns)

abbrev pub Sizes : List ℕ → Language
Sizes ns = Token (40 ∷ []) ⨾ Numbers ns ⨾ Token (41 ∷ [])

-- ---- the dictionary
unfoldable pub Value : Dictionary → Key → Language
Value d Descr = Text d.descr
Value d FortranOrder = Truth d.fortran_order
Value d Shape = Sizes d.shape

-- an entry: its key, a colon, its value
abbrev pub Entry : Dictionary → Key → Language
Entry d k = Text (name_of k) ⨾ Token (58 ∷ []) ⨾ Value d k

-- the three keys once each, in any order
pub record Entries (d : Dictionary) (bs : List ℕ) : Type 0 where
  pub key1 : Key
  pub key2 : Key
  pub key3 : Key
  pub different : (key1 ≡ key2 → ⊥) × (key1 ≡ key3 → ⊥) × (key2 ≡ key3 → ⊥)
  pub text : (Entry d key1 ⨾ Comma ⨾ Entry d key2 ⨾ Comma ⨾ Entry d key3) bs

-- R18.4: the whole: braces around the entries, a last comma or none, spaces or none, and the newline that ends it
unfoldable pub Header : Dictionary → Language
Header d = Exactly (123 ∷ []) ⨾ Entries d ⨾ Optional Comma ⨾ Token (125 ∷ []) ⨾ Token (10 ∷ [])
