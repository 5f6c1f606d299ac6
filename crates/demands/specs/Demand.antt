-- R17.1: demand 3 of all calls, with all their checks: the same call answers both models alike, with the same refusal
-- and the same steps done, and training leaves them alike. Definitions only.
use Rattle.std.specs.Prelude.{ℕ, ◌-◌, ◌≤◌, ◌≡◌, List, length, Float}
use Rattle.spline.specs.declared.Grid.{Grid}
use Rattle.layers.specs.Net.{Net, net_of}
use Rattle.layers.specs.Widths.{input_width}
use Rattle.passes.specs.Pass.{nodes_of}
use Rattle.admission.specs.Admission.{up_to9}
use Rattle.prediction.specs.Predict.{up_to11}
use Rattle.loss.specs.Loss.{up_to18}
use Rattle.training.specs.Train.{up_to19}
use Rattle.demands.specs.Silent.{Places, Reaches, RowSilent}
use Rattle.demands.specs.Readings.{RowReads, PredictReads, LossReads, TrainReads}
use Rattle.demands.specs.Alike.{LeftAlike, SameForward, SamePredict, SameLoss, SameStep, SameTraining}

-- R17.1: the models ps and qs are answered alike, whatever else a call is given, if the coefficients of the set are
-- silent at all that it reads on ps past its checks
pub record DemandIn (N : Net) (ws : List ℕ) (g : Grid) (D : Places) (ps qs : List Float) : Type 0 where
  -- the edges of both read the same numbers of a row, so the premise says the same of either model
  pub readings : (xs : List Float) → length xs ≡ input_width ws → RowSilent N ws D ps xs → (l : ℕ) → l ≤ length ws - 1
      → Reaches N ps ws xs l → Reaches N qs ws xs l × (nodes_of N ps ws xs l ≡ nodes_of N qs ws xs l)
  pub forward : (xs a b : List Float) → (up_to9 ws g (length ps) (length a) (length b) ≡ 0 → RowReads N ws D ps xs)
      → SameForward N N ws g ps qs xs a b
  pub predict : (xs a b ys : List Float) → (up_to11 N ws g ps xs a b ys ≡ 0 → PredictReads N ws D ps xs)
      → SamePredict N N ws g ps qs xs a b ys
  pub loss : (xs ts a b : List Float) → (up_to18 N ws g ps xs ts a b ≡ 0 → LossReads N ws D ps xs ts)
      → SameLoss N N ws g ps qs xs ts a b
  pub step : (xs ts : List Float) (rate : Float) (gs W : List Float)
      → (up_to19 N ws g ps xs ts rate gs W ≡ 0 → TrainReads N ws D ps xs ts rate 1)
      → SameStep N N ws g ps qs xs (LeftAlike D ps qs) ts rate gs W
  pub train : (xs ts : List Float) (rate : Float) (gs W : List Float) (steps : ℕ)
      → (up_to19 N ws g ps xs ts rate gs W ≡ 0 → TrainReads N ws D ps xs ts rate steps)
      → SameTraining N N ws g ps qs xs (LeftAlike D ps qs) ts rate gs W steps

-- R17.1: of the network that every call has: one grid for all layers (R2.1)
abbrev pub Demand : List ℕ → Grid → Places → List Float → List Float → Type 0
Demand ws g D ps qs = DemandIn (net_of g) ws g D ps qs
