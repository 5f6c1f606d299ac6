-- Marks in a map of bytes; no part of the meaning. Definitions only.
use Rattle.std.specs.Prelude.{ℕ, zero, suc, ◌+◌, ◌-◌, Bool, false, cond, List, [], ◌∷◌, ◌++◌, length, get_or, set}
use Rattle.local_basis.specs.declared.Eight.{Eight}
use Rattle.touched_layer.specs.Touched.{touches_by}

-- the bytes at the front whose parameters are touched become 1, all others stay
unfoldable pub marked_by : List Bool → List ℕ → List ℕ
marked_by [] ms = ms
marked_by (b ∷ bs) [] = []
marked_by (b ∷ bs) (m ∷ ms) = cond b 1 m ∷ marked_by bs ms

-- byte k becomes 1 where its coefficient is touched
unfoldable pub mark_at : ℕ → Bool → List ℕ → List ℕ
mark_at k touched ms = set ms k (cond touched 1 (get_or ms k 0))

-- four neighbouring bytes, from s on
abbrev pub four_at : ℕ → Bool → Bool → Bool → Bool → List ℕ → List ℕ
four_at s a b c d ms = mark_at (s + 3) d (mark_at (s + 2) c (mark_at (s + 1) b (mark_at s a ms)))

-- by the four values and the four slopes of their coefficients
abbrev pub four_marked : Eight → List ℕ → List ℕ
four_marked r ms =
    four_at r.values.start (touches_by r.values.first r.slopes.first) (touches_by r.values.second r.slopes.second)
    (touches_by r.values.third r.slopes.third) (touches_by r.values.fourth r.slopes.fourth) ms

-- n tests that do not pass
unfoldable pub nones : ℕ → List Bool
nones zero = []
nones (suc n) = false ∷ nones n

-- the tests bs at place `from` of a row, and no others
abbrev pub in_row : ℕ → ℕ → List Bool → List Bool
in_row from row bs = nones from ++ (bs ++ nones (row - (from + length bs)))
