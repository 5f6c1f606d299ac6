-- R18.1 to R18.3, R18.8: one layer's coefficients written as an NPY file. Definitions only.
use Rattle.std.specs.Prelude.{ℕ, ◌+◌, ◌*◌, ◌≡◌, List, ◌++◌, eqb, length, Float}
use Rattle.floats.specs.Sums.{all_finite}
use Rattle.refusals.specs.Refusals.{Outcome, ◌otherwise◌, ◌then◌, past, outcome_of}
use Rattle.spline.specs.declared.Grid.{Grid}
use Rattle.layers.specs.Widths.{width_at}
use Rattle.config.specs.Config.{parameters_for, carried_by}
use Rattle.npy_front.specs.Front.{header_bytes}
use Rattle.layer_coefficients.specs.Coefficients.{up_to37, layer_at, edges_of, body_of}

-- R18.2, R18.7: the bytes: a header for the shape (out, in, g + 3), and the coefficients as words
unfoldable pub file_of : List ℕ → Grid → List Float → ℕ → List ℕ
file_of ws g ps l =
    header_bytes (width_at ws (l + 1)) (width_at ws l) (g.intervals + 3)
    ++ body_of ps (layer_at ws g l) g.intervals (edges_of ws l)

-- R18.3: how many these are
abbrev pub file_length : List ℕ → Grid → ℕ → ℕ
file_length ws g l = 128 + edges_of ws l * (4 * (g.intervals + 3))

-- R3.4, R18.8: past check 37: 10, the bytes lent are not as many; 11
unfoldable pub from10_to11 : List ℕ → Grid → List Float → ℕ → ℕ → ℕ
from10_to11 ws g ps l n = eqb n (file_length ws g l) otherwise 10 then all_finite ps otherwise 11

-- ---- R18.8, R3.4: the whole call: the answer, and the bytes; the model is only read
module _ (ws : List ℕ) (g : Grid) (ps : List Float) (l : ℕ) (bs : List ℕ) where
  abbrev to37 : ℕ
  to37 = up_to37 ws g (length ps) l

  unfoldable pub write_fault : ℕ
  write_fault = to37 then from10_to11 ws g ps l (length bs)

  pub record NpyWritten (r : Outcome) (bs' : List ℕ) : Type 0 where
    pub answer : r ≡ outcome_of write_fault (carried_by to37 (parameters_for ws g))
    -- R3.6: all bytes, or none
    pub file : bs' ≡ past write_fault (file_of ws g ps l) bs
