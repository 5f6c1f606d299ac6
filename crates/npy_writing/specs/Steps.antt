-- What the stage inside the call asks and promises; no part of the call's meaning. Definitions only.
use Rattle.std.specs.Prelude.{ℕ, ◌-◌, ◌<◌, ◌≡◌, true, List, ltb, length, Float}
use Rattle.floats.specs.Sums.{all_finite}
use Rattle.refusals.specs.Refusals.{◌otherwise◌, ◌then◌, past, Outcome, outcome_of}
use Rattle.spline.specs.declared.Grid.{Grid}
use Rattle.layer_cursor.specs.Cursor.{Stands}
use Rattle.layer_cursor.specs.declared.Layer.{Layer}
use Rattle.layer_coefficients.specs.Steps.{Ready}
use Rattle.npy_writing.specs.Writing.{file_length, file_of, from10_to11}

-- past check 11
pub record Writable (ws : List ℕ) (g : Grid) (ps : List Float) (l : ℕ) (c : Layer) (bs : List ℕ) : Type 0 where
  pub ready : Ready ws g ps
  pub there : l < length ws - 1
  pub stands : Stands g ws l c
  pub sound : all_finite ps ≡ true
  pub room : length bs ≡ file_length ws g l

-- past check 8: 37, and then 10 and 11
abbrev pub from37_to11 : List ℕ → Grid → List Float → ℕ → ℕ → ℕ
from37_to11 ws g ps l n = ltb l (length ws - 1) otherwise 37 then from10_to11 ws g ps l n

pub record WriteDone (ws : List ℕ) (g : Grid) (ps : List Float) (l : ℕ) (bs : List ℕ) (r : Outcome) (bs' : List ℕ)
    : Type 0 where
  pub answer : r ≡ outcome_of (from37_to11 ws g ps l (length bs)) 0
  pub file : bs' ≡ past (from37_to11 ws g ps l (length bs)) (file_of ws g ps l) bs
