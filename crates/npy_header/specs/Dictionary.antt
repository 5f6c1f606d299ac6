-- R18.2: what the header of an NPY file says: the three entries of its dictionary, and the words that name them. Definitions
-- only.
use Rattle.std.specs.Prelude.{ℕ, Bool, List, [], ◌∷◌}

pub record Dictionary : Type 0 where
  -- the type of the numbers, as NumPy writes it
  pub descr : List ℕ
  -- whether the first index runs fastest
  pub fortran_order : Bool
  pub shape : List ℕ

-- R18.4: a key
pub data Key : Type 0 where
  Descr : Key
  FortranOrder : Key
  Shape : Key

-- ---- R18.2: the words, as ASCII codes
-- descr
unfoldable pub descr_word : List ℕ
descr_word = 100 ∷ 101 ∷ 115 ∷ 99 ∷ 114 ∷ []

-- fortran_order
unfoldable pub order_word : List ℕ
order_word = 102 ∷ 111 ∷ 114 ∷ 116 ∷ 114 ∷ 97 ∷ 110 ∷ 95 ∷ 111 ∷ 114 ∷ 100 ∷ 101 ∷ 114 ∷ []

-- shape
unfoldable pub shape_word : List ℕ
shape_word = 115 ∷ 104 ∷ 97 ∷ 112 ∷ 101 ∷ []

unfoldable pub name_of : Key → List ℕ
name_of Descr = descr_word
name_of FortranOrder = order_word
name_of Shape = shape_word

-- True, False
unfoldable pub true_word : List ℕ
true_word = 84 ∷ 114 ∷ 117 ∷ 101 ∷ []

unfoldable pub false_word : List ℕ
false_word = 70 ∷ 97 ∷ 108 ∷ 115 ∷ 101 ∷ []

-- <f4
unfoldable pub single_word : List ℕ
single_word = 60 ∷ 102 ∷ 52 ∷ []
