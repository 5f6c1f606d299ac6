-- R17.5, R17.6: a chain of calls: batches accumulated one after the other, on one unchanged model and one lent slice.
-- Definitions only.
use Rattle.std.specs.Prelude.{ℕ, ◌≡◌, List, [], ◌∷◌, Float}
use Rattle.refusals.specs.Refusals.{Outcome}
use Rattle.spline.specs.declared.Grid.{Grid}
use Rattle.layers.specs.Net.{Net}
use Rattle.split_training.specs.Accumulating.{Accumulated}

-- what one `accumulate` is given beside the model and the gradients
pub record Part : Type 0 where
  pub inputs : List Float
  pub targets : List Float
  pub total : ℕ
  pub work : List Float

module _ (N : Net) (ws : List ℕ) (g : Grid) (ps : List Float) where
  -- one call from the gradients gs, answered by r, and what follows on the gradients that it leaves
  pub record Call (part : Part) (gs : List Float) (r : Outcome) (Rest : List Float → Type 0) : Type 0 where
    pub left : List Float
    pub work : List Float
    pub made : Accumulated N ws g ps part.inputs part.targets part.total gs part.work r left work
    pub rest : Rest left

  -- the calls in order, from the gradients gs to gs', with their answers: a refused call leaves them, and the chain goes on
  unfoldable pub Chain : List Part → List Float → List Outcome → List Float → Type 0
  Chain [] gs [] gs' = gs' ≡ gs
  Chain [] gs (r ∷ rs) gs' = ⊥
  Chain (part ∷ parts) gs [] gs' = ⊥
  Chain (part ∷ parts) gs (r ∷ rs) gs' = Call part gs r (λ (left : List Float). Chain parts left rs gs')
