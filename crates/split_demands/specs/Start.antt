-- R17.7: the start of `dot` (R17.2) where gradients are lent: a `dot` from -0.0 is hidden where no lent gradient is -0.0,
-- and shows where one is. `apply` has no `dot`. Definitions only.
use Rattle.std.specs.Prelude.{ℕ, ◌<◌, ◌≡◌, not, Ok, List, [], ◌∷◌, T, length, Float}
use Rattle.std.specs.Float.{binary32}
use Rattle.std.specs.Float.Ieee.{fits}
use Rattle.floats.specs.Binary32.{zero32, one32, minus_zero32}
use Rattle.floats.specs.Sums.{at, tabulate, zeros}
use Rattle.floats.specs.Zeros.{is_minus_zero}
use Rattle.refusals.specs.Refusals.{Outcome}
use Rattle.spline.specs.declared.Grid.{Grid}
use Rattle.layers.specs.Net.{Net, net_of}
use Rattle.config.specs.Config.{unit_grid}
use Rattle.demands.specs.Start.{from_minus_zero}
use Rattle.examples.specs.Starred.{bits, one_to_one, weighted}
use Rattle.split_training.specs.Accumulating.{Accumulated}

-- R1.5: every number is an f32 other than -0.0
abbrev pub NoMinusZero : List Float → Type 0
NoMinusZero gs = (k : ℕ) → k < length gs → T (fits binary32 (at gs k)) × T (not (is_minus_zero (at gs k)))

-- R17.7: `accumulate` on the network N, and on M, which starts at -0.0: the answer and the work are the same, and so are
-- the gradients where none of those lent is -0.0
pub record StartAccumulating (N M : Net) (ws : List ℕ) (g : Grid) (ps xs ts : List Float) (total : ℕ) (gs W : List Float) :
    Type 0 where
  pub answer : (r s : Outcome) (gs' W' gs'' W'' : List Float) → Accumulated N ws g ps xs ts total gs W r gs' W'
      → Accumulated M ws g ps xs ts total gs W s gs'' W'' → (r ≡ s) × (W' ≡ W'')
  pub hidden : NoMinusZero gs
      → (r s : Outcome) (gs' W' gs'' W'' : List Float) → Accumulated N ws g ps xs ts total gs W r gs' W'
      → Accumulated M ws g ps xs ts total gs W s gs'' W'' → gs' ≡ gs''

-- ---- R17.7: the smallest call that shows it: Z of R16.3 with -0.0 for every coefficient, lent seven gradients -0.0, the
-- input 0, the target 1, the total 1. Only the gradient of the spline weight, `slot`, is not the same.
abbrev pub Shown : Net → Float → Type 0
Shown N slot =
    Accumulated N one_to_one (unit_grid 2) (weighted (tabulate (λ (k : ℕ). minus_zero32) 5)) (zero32 ∷ []) (one32 ∷ []) 1
    (tabulate (λ (k : ℕ). minus_zero32) 7) (zeros 4) (Ok tt)
    (minus_zero32 ∷ slot ∷ minus_zero32 ∷ bits 0xbeaa_aaab ∷ bits 0xbfaa_aaab ∷ bits 0xbeaa_aaab ∷ minus_zero32 ∷ []) (zeros 4)

pub record StartShown : Type 0 where
  pub here : Shown (net_of (unit_grid 2)) minus_zero32
  pub from_minus_zero : Shown (from_minus_zero (unit_grid 2)) zero32
