-- R17.1, R17.2, R17.4: demand 3, the start of `dot` and what a visit map shows, of the C functions, in the words of their contracts: the number,
-- `carried`, and all that was lent. Definitions only.
use Rattle.std.specs.Prelude.{ℕ, ◌+◌, ◌≡◌, List, Float}
use Rattle.refusals.specs.declared.Refusal.{Refusal}
use Rattle.refusals.specs.Refusals.{refusal_of}
use Rattle.spline.specs.declared.Grid.{Grid}
use Rattle.layers.specs.Net.{Net, net_of}
use Rattle.prediction.specs.Predict.{up_to11, Predicted}
use Rattle.loss.specs.Loss.{up_to18, Lost}
use Rattle.visit_map.specs.Visits.{Visited}
use Rattle.training.specs.Train.{up_to19, training_refusal, steps_done, Stepped, Trained}
use Rattle.demands.specs.Silent.{Places, Differ}
use Rattle.demands.specs.Readings.{PredictReads, LossReads, TrainReads}
use Rattle.demands.specs.Alike.{LeftAlike}
use Rattle.demands.specs.Start.{from_minus_zero}
use Rattle.demands.specs.Unmarked.{unmarked}
use Rattle.estimator.specs.Linkage.{Linked, mean_or}

-- two C functions that did what P and Q say answer the same number, carry the same, and leave memory as Rest says
abbrev pub SameLinked : {A : Type 0} → (A → Refusal) → (A → Type 0) → (A → Type 0) → Type 0 → Type 0
SameLinked refusal P Q Rest = (r s c d : ℕ) → Linked refusal r c P → Linked refusal s d Q → (r ≡ s) × (c ≡ d) × Rest

-- ---- the same call on the network N with the model ps, and on M with qs
module _ (N M : Net) (ws : List ℕ) (g : Grid) (ps qs xs : List Float) where
  abbrev pub SameKanPredict : List Float → List Float → List Float → Type 0
  SameKanPredict a b ys =
      (a' b' ys' a'' b'' ys'' : List Float)
      → SameLinked refusal_of (λ o. Predicted N ws g ps xs a b ys o a' b' ys') (λ o. Predicted M ws g qs xs a b ys o a'' b'' ys'')
      ((ys' ≡ ys'') × (a' ≡ a'') × (b' ≡ b''))

  abbrev pub SameKanLoss : List Float → List Float → List Float → Float → Type 0
  SameKanLoss ts a b lent =
      (a' b' a'' b'' : List Float) (l' l'' : Float)
      → SameLinked refusal_of (λ o. Lost N ws g ps xs ts a b o a' b' × (l' ≡ mean_or o lent))
      (λ o. Lost M ws g qs xs ts a b o a'' b'' × (l'' ≡ mean_or o lent)) ((l' ≡ l'') × (a' ≡ a'') × (b' ≡ b''))

  module _ (Left : List Float → List Float → Type 0) (ts : List Float) (rate : Float) (gs W : List Float) where
    abbrev pub SameKanStep : Type 0
    SameKanStep =
        (ps' gs' W' qs' gs'' W'' : List Float)
        → SameLinked refusal_of (λ o. Stepped N ws g ps xs ts rate gs W o ps' gs' W')
        (λ o. Stepped M ws g qs xs ts rate gs W o qs' gs'' W'') (Left ps' qs' × (gs' ≡ gs'') × (W' ≡ W''))

    abbrev pub SameKanTrain : ℕ → Type 0
    SameKanTrain steps =
        (ps' gs' W' qs' gs'' W'' : List Float) (n' n'' : ℕ)
        → SameLinked training_refusal (λ o. Trained N ws g ps xs ts rate gs W steps o ps' gs' W' × (n' ≡ steps_done o))
        (λ o. Trained M ws g qs xs ts rate gs W steps o qs' gs'' W'' × (n'' ≡ steps_done o))
        ((n' ≡ n'') × Left ps' qs' × (gs' ≡ gs'') × (W' ≡ W''))

-- R17.1: two models that differ in coefficients of the set alone, silent at all that the call reads on ps past its checks
pub record LinkedDemand (N : Net) (ws : List ℕ) (g : Grid) (D : Places) (ps qs : List Float) : Type 0 where
  pub predict : (xs a b ys : List Float) → (up_to11 N ws g ps xs a b ys ≡ 0 → PredictReads N ws D ps xs)
      → SameKanPredict N N ws g ps qs xs a b ys
  pub loss : (xs ts a b : List Float) (lent : Float) → (up_to18 N ws g ps xs ts a b ≡ 0 → LossReads N ws D ps xs ts)
      → SameKanLoss N N ws g ps qs xs ts a b lent
  pub step : (xs ts : List Float) (rate : Float) (gs W : List Float)
      → (up_to19 N ws g ps xs ts rate gs W ≡ 0 → TrainReads N ws D ps xs ts rate 1)
      → SameKanStep N N ws g ps qs xs (LeftAlike D ps qs) ts rate gs W
  pub train : (xs ts : List Float) (rate : Float) (gs W : List Float) (steps : ℕ)
      → (up_to19 N ws g ps xs ts rate gs W ≡ 0 → TrainReads N ws D ps xs ts rate steps)
      → SameKanTrain N N ws g ps qs xs (LeftAlike D ps qs) ts rate gs W steps

-- R17.2: any model, on the network and on the one that starts at -0.0
pub record LinkedHidden (N M : Net) (ws : List ℕ) (g : Grid) (ps xs : List Float) : Type 0 where
  pub predict : (a b ys : List Float) → SameKanPredict N M ws g ps ps xs a b ys
  pub loss : (ts a b : List Float) (lent : Float) → SameKanLoss N M ws g ps ps xs ts a b lent
  pub step : (ts : List Float) (rate : Float) (gs W : List Float) → SameKanStep N M ws g ps ps xs ◌≡◌ ts rate gs W
  pub train : (ts : List Float) (rate : Float) (gs W : List Float) (steps : ℕ)
      → SameKanTrain N M ws g ps ps xs ◌≡◌ ts rate gs W steps

-- R17.4: any model that differs from ps only in coefficients that a map marks 0
pub record LinkedUnmarked (N : Net) (ws : List ℕ) (g : Grid) (ps xs : List Float) (map : List ℕ) (qs : List Float) : Type 0 where
  pub predict : (a b ys : List Float) → SameKanPredict N N ws g ps qs xs a b ys
  pub loss : (ts a b : List Float) (lent : Float) → SameKanLoss N N ws g ps qs xs ts a b lent
  pub step : (ts : List Float) (rate : Float) (gs W : List Float)
      → SameKanStep N N ws g ps qs xs (LeftAlike (unmarked N.stride map) ps qs) ts rate gs W

-- all of them, of the network that every call has
pub record LinkedDemands : Type 0 where
  pub demand : (ws : List ℕ) (g : Grid) (D : Places) (ps qs : List Float) → Differ (g.intervals + 5) D ps qs
      → LinkedDemand (net_of g) ws g D ps qs
  pub start : (ws : List ℕ) (g : Grid) (ps xs : List Float) → LinkedHidden (net_of g) (from_minus_zero g) ws g ps xs
  -- after a `kan_visits` that answered 0
  pub map : (ws : List ℕ) (g : Grid) (ps xs a b : List Float) (ms : List ℕ) (a' b' : List Float) (ms' : List ℕ) (c : ℕ)
      → Linked refusal_of 0 c (λ o. Visited (net_of g) ws g ps xs a b ms o a' b' ms')
      → (qs : List Float) → Differ (g.intervals + 5) (unmarked (g.intervals + 5) ms') ps qs
      → LinkedUnmarked (net_of g) ws g ps xs ms' qs
