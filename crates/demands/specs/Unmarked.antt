-- R17.4: what an accepted visit map says of demand 3: the coefficients that it marks 0 are silent at all that a prediction, a
-- loss or a single step of training reads on the same model and inputs. Nothing is said of longer training, which moves what
-- hidden nodes read. Definitions only.
use Rattle.std.specs.Prelude.{ℕ, ◌%◌, ◌<◌, ◌&&◌, Ok, List, eqb, leb, get_or, Float}
use Rattle.spline.specs.declared.Grid.{Grid}
use Rattle.layers.specs.Net.{Net, net_of}
use Rattle.layers.specs.Widths.{input_width}
use Rattle.batches.specs.Batch.{row_at}
use Rattle.passes.specs.Pass.{rows_of}
use Rattle.visit_map.specs.Visits.{Visited}
use Rattle.demands.specs.Silent.{Places, Differ}
use Rattle.demands.specs.Readings.{RowReads, PredictReads, LossReads, TrainReads}
use Rattle.demands.specs.Alike.{LeftAlike, SameForward, SamePredict, SameVisit, SameLoss, SameStep}

-- R17.4, R2.6: the coefficients, behind the two weights of each edge of `per` parameters, that a map marks 0
abbrev pub unmarked : ℕ → List ℕ → Places
unmarked per map p = leb 2 (p % per) && eqb (get_or map p 1) 0

-- R17.4: the premise of demand 3 (R17.1) for each call on the rows xs, whatever else the call is given
pub record SilentIn (N : Net) (ws : List ℕ) (D : Places) (ps xs : List Float) : Type 0 where
  -- all of xs as one row, and each row of xs by itself
  pub forward : RowReads N ws D ps xs
  pub forward_row : (r : ℕ) → r < rows_of ws xs → RowReads N ws D ps (row_at xs (input_width ws) r)
  pub predict : PredictReads N ws D ps xs
  pub loss : (ts : List Float) → LossReads N ws D ps xs ts
  pub step : (ts : List Float) (rate : Float) → TrainReads N ws D ps xs ts rate 1

-- R17.4: the same call answers the models ps and qs alike
pub record AnsweredAlike (N : Net) (ws : List ℕ) (g : Grid) (D : Places) (ps qs xs : List Float) : Type 0 where
  pub forward : (a b : List Float) → SameForward N N ws g ps qs xs a b
  pub forward_row : (r : ℕ) → r < rows_of ws xs → (a b : List Float) → SameForward N N ws g ps qs (row_at xs (input_width ws) r) a b
  pub predict : (a b ys : List Float) → SamePredict N N ws g ps qs xs a b ys
  -- the map too: that of the second model marks the same
  pub visit : (a b : List Float) (ms : List ℕ) → SameVisit N N ws g ps qs xs a b ms
  pub loss : (ts a b : List Float) → SameLoss N N ws g ps qs xs ts a b
  pub step : (ts : List Float) (rate : Float) (gs W : List Float) → SameStep N N ws g ps qs xs (LeftAlike D ps qs) ts rate gs W

-- R17.4: after a map call on the model ps and the rows xs that was accepted and left `map`
pub record MapShows (N : Net) (ws : List ℕ) (g : Grid) (ps xs : List Float) (map : List ℕ) : Type 0 where
  pub silent : SilentIn N ws (unmarked N.stride map) ps xs
  -- joined with demand 3, of any model that differs from ps only in coefficients that the map marks 0
  pub alike : (qs : List Float) → Differ N.stride (unmarked N.stride map) ps qs
      → AnsweredAlike N ws g (unmarked N.stride map) ps qs xs

abbrev pub Unmarked : List ℕ → Grid → List Float → List Float → Type 0
Unmarked ws g ps xs =
    (a b : List Float) (ms : List ℕ) (a' b' : List Float) (ms' : List ℕ) → Visited (net_of g) ws g ps xs a b ms (Ok tt) a' b' ms'
    → MapShows (net_of g) ws g ps xs ms'
