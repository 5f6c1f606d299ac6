-- R17.1, R17.2: what demand 3 and the start of `dot` conclude: two calls answer alike and leave the same in all that
-- they were lent; of two models, training leaves all other parameters equal, and each silent coefficient as its own
-- model had it. Definitions only.
use Rattle.std.specs.Prelude.{ℕ, ◌≡◌, true, false, List, length, Float}
use Rattle.std.specs.declared.result.Result.{Result}
use Rattle.floats.specs.Sums.{at}
use Rattle.refusals.specs.declared.Refusal.{Refusal}
use Rattle.refusals.specs.Refusals.{Outcome}
use Rattle.spline.specs.declared.Grid.{Grid}
use Rattle.layers.specs.Net.{Net}
use Rattle.forward.specs.Forward.{forward_refusal, forward_part, forward_first, forward_second}
use Rattle.prediction.specs.Predict.{Predicted}
use Rattle.loss.specs.Loss.{Lost}
use Rattle.visit_map.specs.Visits.{Visited}
use Rattle.training.specs.declared.calls.Stop.{Stop}
use Rattle.training.specs.Train.{Stepped, Trained}
use Rattle.demands.specs.Silent.{Places}

-- R17.1: what training makes of the models ps and qs, ps' and qs', bit for bit
pub record LeftAlike (D : Places) (ps qs ps' qs' : List Float) : Type 0 where
  pub sizes : (length ps' ≡ length ps) × (length qs' ≡ length qs)
  pub others : (p : ℕ) → D p ≡ false → at ps' p ≡ at qs' p
  pub kept : (p : ℕ) → D p ≡ true → (at ps' p ≡ at ps p) × (at qs' p ≡ at qs p)

-- ---- R17.1, R17.2: the same call on the network N with the model ps, and on M with qs
module _ (N M : Net) (ws : List ℕ) (g : Grid) (ps qs xs : List Float) where
  -- R8.9: a single `forward`: the lent number, the part handed back and both work slices
  abbrev pub SameForward : List Float → List Float → Type 0
  SameForward a b =
      (forward_refusal N ws g ps xs a b ≡ forward_refusal M ws g qs xs a b)
      × (forward_part N ws g ps xs a b ≡ forward_part M ws g qs xs a b)
      × (forward_first N ws g ps xs a b ≡ forward_first M ws g qs xs a b)
      × (forward_second N ws g ps xs a b ≡ forward_second M ws g qs xs a b)

  -- R8.10: `predict_batch`: the answer with what it carries, the outputs and both work slices
  abbrev pub SamePredict : List Float → List Float → List Float → Type 0
  SamePredict a b ys =
      (r s : Outcome) (a' b' ys' a'' b'' ys'' : List Float) → Predicted N ws g ps xs a b ys r a' b' ys'
      → Predicted M ws g qs xs a b ys s a'' b'' ys'' → (r ≡ s) × (ys' ≡ ys'') × (a' ≡ a'') × (b' ≡ b'')

  -- R12.1: the visit map: the answer with what it carries, the map and both work slices
  abbrev pub SameVisit : List Float → List Float → List ℕ → Type 0
  SameVisit a b ms =
      (r s : Outcome) (a' b' : List Float) (ms' : List ℕ) (a'' b'' : List Float) (ms'' : List ℕ)
      → Visited N ws g ps xs a b ms r a' b' ms' → Visited M ws g qs xs a b ms s a'' b'' ms''
      → (r ≡ s) × (ms' ≡ ms'') × (a' ≡ a'') × (b' ≡ b'')

  -- R9.1: `mse_loss`: the mean or the refusal, and both work slices
  abbrev pub SameLoss : List Float → List Float → List Float → Type 0
  SameLoss ts a b =
      (r s : Result Float Refusal) (a' b' a'' b'' : List Float) → Lost N ws g ps xs ts a b r a' b'
      → Lost M ws g qs xs ts a b s a'' b'' → (r ≡ s) × (a' ≡ a'') × (b' ≡ b'')

  -- R10.9: training: the answer with the steps done, both work slices, and the models left as `Left` says
  module _ (Left : List Float → List Float → Type 0) (ts : List Float) (rate : Float) (gs W : List Float) where
    abbrev pub SameStep : Type 0
    SameStep =
        (r s : Outcome) (ps' gs' W' qs' gs'' W'' : List Float) → Stepped N ws g ps xs ts rate gs W r ps' gs' W'
        → Stepped M ws g qs xs ts rate gs W s qs' gs'' W'' → (r ≡ s) × Left ps' qs' × (gs' ≡ gs'') × (W' ≡ W'')

    abbrev pub SameTraining : ℕ → Type 0
    SameTraining steps =
        (r s : Result ℕ Stop) (ps' gs' W' qs' gs'' W'' : List Float) → Trained N ws g ps xs ts rate gs W steps r ps' gs' W'
        → Trained M ws g qs xs ts rate gs W steps s qs' gs'' W'' → (r ≡ s) × Left ps' qs' × (gs' ≡ gs'') × (W' ≡ W'')
