-- R18.6 to R18.9: one layer's coefficients from an NPY file. Definitions only.
use Rattle.std.specs.Prelude.{ℕ, ◌+◌, ◌*◌, ◌≡◌, List, [], ◌∷◌, eqb, length, drop, Float}
use Rattle.floats.specs.Sums.{all_finite}
use Rattle.refusals.specs.Refusals.{Outcome, ◌otherwise◌, ◌then◌, past, outcome_of}
use Rattle.spline.specs.declared.Grid.{Grid}
use Rattle.layers.specs.Widths.{width_at}
use Rattle.config.specs.Config.{parameters_for, carried_by}
use Rattle.words.specs.Words.{floats_in}
use Rattle.npy_header.specs.File.{body_at, file_fault}
use Rattle.layer_coefficients.specs.Coefficients.{up_to37, layer_at, edges_of, replaced}

-- R18.6: the shape of a layer's coefficients: (out, in, g + 3)
abbrev pub shape_of : List ℕ → Grid → ℕ → List ℕ
shape_of ws g l = width_at ws (l + 1) ∷ width_at ws l ∷ (g.intervals + 3) ∷ []

-- the bytes behind the header
abbrev pub body_in : List ℕ → List ℕ
body_in bs = drop (body_at bs) bs

-- R18.6: what is asked of a file of n edges with c coefficients each: 29 and 30 of its header; 29, another length than its shape
-- says; 11, a number that is not finite
unfoldable pub bytes_fault : List ℕ → ℕ → ℕ → List ℕ → ℕ
bytes_fault shape n c bs =
    file_fault shape bs
    then eqb (length bs) (body_at bs + n * (4 * c)) otherwise 29
    then all_finite (floats_in (body_in bs) (n * c)) otherwise 11

-- R3.4, R18.9: past check 37: 11, of the model; and then the file
unfoldable pub from_model_to_file : List ℕ → Grid → List Float → ℕ → List ℕ → ℕ
from_model_to_file ws g ps l bs =
    all_finite ps otherwise 11 then bytes_fault (shape_of ws g l) (edges_of ws l) (g.intervals + 3) bs

-- ---- R18.9, R3.4: the whole call: the answer, and the model; the file is only read
module _ (ws : List ℕ) (g : Grid) (ps : List Float) (l : ℕ) (bs : List ℕ) where
  abbrev to37 : ℕ
  to37 = up_to37 ws g (length ps) l

  unfoldable pub read_fault : ℕ
  read_fault = to37 then from_model_to_file ws g ps l bs

  pub record NpyRead (r : Outcome) (ps' : List Float) : Type 0 where
    pub answer : r ≡ outcome_of read_fault (carried_by to37 (parameters_for ws g))
    -- R18.7: the layer's coefficients, and nothing else
    pub model : ps' ≡ past read_fault (replaced ps (layer_at ws g l) g.intervals (edges_of ws l) (body_in bs)) ps
