-- R17.6: demand 3 over a chain: accumulate, .., accumulate, apply, the gradients all +0.0 at the start in both runs.
-- Definitions only.
use Rattle.std.specs.Prelude.{ℕ, ◌≡◌, List, [], ◌∷◌, length, Float}
use Rattle.floats.specs.Sums.{zeros}
use Rattle.refusals.specs.Refusals.{Outcome}
use Rattle.spline.specs.declared.Grid.{Grid}
use Rattle.layers.specs.Net.{Net}
use Rattle.demands.specs.Silent.{Places, Differ}
use Rattle.demands.specs.Readings.{StepReads}
use Rattle.demands.specs.Alike.{LeftAlike}
use Rattle.split_training.specs.Accumulating.{up_to28, Accumulated}
use Rattle.split_training.specs.Applying.{Applied}
use Rattle.split_demands.specs.Chains.{Part, Chain}

-- R17.1: the coefficients of the set are silent at all that the calls read on ps past their checks
unfoldable pub ChainReads : Net → List ℕ → Grid → Places → List Float → List Part → Type 0
ChainReads N ws g D ps [] = Unit {0}
ChainReads N ws g D ps (part ∷ parts) =
    (up_to28 N ws g ps part.inputs part.targets part.total (zeros (length ps)) part.work ≡ 0
    → StepReads N ws D ps part.inputs)
    × ChainReads N ws g D ps parts

-- R17.6: the models ps and qs, which differ in coefficients of the set alone
pub record ChainDemand (N : Net) (ws : List ℕ) (g : Grid) (D : Places) (ps qs : List Float) : Type 0 where
  -- one call from the same gradients, whatever they are: the same answer, gradients and work
  pub accumulate : (xs ts : List Float) (total : ℕ) (gs W : List Float)
      → (up_to28 N ws g ps xs ts total gs W ≡ 0 → StepReads N ws D ps xs)
      → (r s : Outcome) (gs' W' gs'' W'' : List Float) → Accumulated N ws g ps xs ts total gs W r gs' W'
      → Accumulated N ws g qs xs ts total gs W s gs'' W'' → (r ≡ s) × (gs' ≡ gs'') × (W' ≡ W'')
  -- the chain: the same answers of all calls, the same gradients at every place, and models left as training leaves them;
  -- these are again two models of the kind, so that a chain may follow
  pub chain : (parts : List Part) → ChainReads N ws g D ps parts
      → (rs ss : List Outcome) (gs' gs'' : List Float) → Chain N ws g ps parts (zeros (length ps)) rs gs'
      → Chain N ws g qs parts (zeros (length qs)) ss gs''
      → (rate : Float) (r s : Outcome) (ps' qs' : List Float) → Applied ws g ps gs' rate r ps'
      → Applied ws g qs gs'' rate s qs'
      → (rs ≡ ss) × (gs' ≡ gs'') × (r ≡ s) × LeftAlike D ps qs ps' qs' × Differ N.stride D ps' qs'
