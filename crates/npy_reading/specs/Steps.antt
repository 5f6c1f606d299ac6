-- What the stages inside the call promise; no part of the call's meaning. Definitions only.
use Rattle.std.specs.Prelude.{ℕ, ◌+◌, ◌-◌, ◌*◌, ◌≡◌, List, [], ◌∷◌, ltb, length, Float}
use Rattle.refusals.specs.Refusals.{◌otherwise◌, ◌then◌, past, Outcome, outcome_of}
use Rattle.spline.specs.declared.Grid.{Grid}
use Rattle.layer_cursor.specs.declared.Layer.{Layer}
use Rattle.layer_coefficients.specs.Coefficients.{layer_at, edges_of, replaced}
use Rattle.npy_reading.specs.Reader.{body_in, bytes_fault, from_model_to_file}

-- past the model's 11: what a file of the coefficients of layer c is refused for
abbrev pub file_fault_for : Grid → Layer → List ℕ → ℕ
file_fault_for g c bs =
    bytes_fault (c.outputs ∷ c.inputs ∷ (g.intervals + 3) ∷ []) (c.outputs * c.inputs) (g.intervals + 3) bs

-- the file refused, or the coefficients of a layer taken from it
pub record FileTaken (g : Grid) (ps : List Float) (c : Layer) (bs : List ℕ) (r : Outcome) (ps' : List Float) : Type 0
  where
    pub answer : r ≡ outcome_of (file_fault_for g c bs) 0
    pub model : ps' ≡ past (file_fault_for g c bs) (replaced ps c.at g.intervals (c.outputs * c.inputs) (body_in bs)) ps

-- past check 8: 37, the model's 11, and then the file
abbrev pub from37_to_file : List ℕ → Grid → List Float → ℕ → List ℕ → ℕ
from37_to_file ws g ps l bs = ltb l (length ws - 1) otherwise 37 then from_model_to_file ws g ps l bs

pub record ReadDone (ws : List ℕ) (g : Grid) (ps : List Float) (l : ℕ) (bs : List ℕ) (r : Outcome) (ps' : List Float)
    : Type 0 where
  pub answer : r ≡ outcome_of (from37_to_file ws g ps l bs) 0
  pub model : ps'
      ≡ past (from37_to_file ws g ps l bs) (replaced ps (layer_at ws g l) g.intervals (edges_of ws l) (body_in bs)) ps
