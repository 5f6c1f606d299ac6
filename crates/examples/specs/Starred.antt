-- R16.1 to R16.3: the settled examples marked *, in one statement about the definitions. Definitions only.
use Rattle.std.specs.Prelude.{ℕ, ◌+◌, ◌-◌, ◌^◌, ◌≡◌, Ok, Err, List, [], ◌∷◌, Float}
use Rattle.std.specs.declared.result.Result.{Result}
use Rattle.std.specs.Float.{binary32}
use Rattle.std.specs.Float.Ieee.{of_bits}
use Rattle.floats.specs.Binary32.{zero32, one32}
use Rattle.floats.specs.Sums.{tabulate, zeros}
use Rattle.refusals.specs.declared.Refusal.{Refusal}
use Rattle.exponential.specs.Exponential.{exp_of}
use Rattle.spline.specs.declared.Grid.{Grid}
use Rattle.spline.specs.Spline.{value_of, slope_of}
use Rattle.spline.specs.Activation.{silu_derivative_of}
use Rattle.layers.specs.Net.{net_of}
use Rattle.config.specs.declared.Sizes.{Sizes}
use Rattle.config.specs.Config.{unit_grid, check_of}
use Rattle.loss.specs.Loss.{loss_answer}
use Rattle.training.specs.Train.{model_after, train_fault, train_done}

-- R1.1: an f32 by its bits; R2.1: the widths [1, 1]
abbrev pub bits : ℕ → Float
bits n = of_bits binary32 n

abbrev pub one_to_one : List ℕ
one_to_one = 1 ∷ 1 ∷ []

-- R6.7: the g + 3 basis values and slopes at x
abbrev pub values_at : Grid → Float → List Float
values_at g x = tabulate (λ (i : ℕ). value_of g 3 i x) (g.intervals + 3)

abbrev pub slopes_at : Grid → Float → List Float
slopes_at g x = tabulate (λ (i : ℕ). slope_of g i x) (g.intervals + 3)

-- R16.3: a model of [1, 1], g 2: base weight 0, spline weight 1, and its coefficients
abbrev pub weighted : List Float → List Float
weighted coefficients = zero32 ∷ one32 ∷ coefficients

-- R3.2: a refused configuration: the number, and what it carries
abbrev pub refuse : ℕ → ℕ → Result Sizes Refusal
refuse n c = Err (record { number = n; carried = c })

-- R16.3: `train_step` on a model of [1, 1], g 2, x 0, target 1, rate 0.5, lent just what is needed: the step's refusal,
-- and the model after it
abbrev pub step_refusal : List Float → ℕ
step_refusal ms =
    train_fault (net_of (unit_grid 2)) one_to_one (unit_grid 2) ms (zero32 ∷ []) (one32 ∷ []) (bits 0x3f00_0000) (zeros 7) (zeros 4) 1

abbrev pub after_step : List Float → List Float
after_step ms =
    model_after (net_of (unit_grid 2)) ms one_to_one (zero32 ∷ []) (one32 ∷ []) (bits 0x3f00_0000)
    (train_done (net_of (unit_grid 2)) one_to_one (unit_grid 2) ms (zero32 ∷ []) (one32 ∷ []) (bits 0x3f00_0000) (zeros 7) (zeros 4) 1)

-- R16.1 to R16.3: all of them
pub record Starred : Type 0 where
  -- R16.1: [1, 1], g 249,995: accepted
  pub largest : check_of one_to_one (unit_grid 249995) ≡ Ok (record { parameters = 250000; widest = 1; nodes = 2 })
  -- R16.1: g 249,996: 7 carrying 250,001, also with the domain [1, 1]
  pub too_large : check_of one_to_one (unit_grid 249996) ≡ refuse 7 250001
  pub size_first : check_of one_to_one (record { intervals = 249996; lo = one32; hi = one32 }) ≡ refuse 7 250001
  -- R16.1: [1, 1], g 67,108,861: 7; g 67,108,862: 4, for 2/g no longer moves -1
  pub moves : check_of one_to_one (unit_grid 67108861) ≡ refuse 7 67108866
  pub stuck : check_of one_to_one (unit_grid 67108862) ≡ refuse 4 0
  -- R16.1: [2^32, 2^32], g 1: 2; [2^31, 2^31], g 1: 5; [0], g 0: 1
  pub edges : check_of (2 ^ 32 ∷ 2 ^ 32 ∷ []) (unit_grid 1) ≡ refuse 2 0
  pub layer : check_of (2 ^ 31 ∷ 2 ^ 31 ∷ []) (unit_grid 1) ≡ refuse 5 0
  pub widths : check_of (0 ∷ []) (unit_grid 0) ≡ refuse 1 0
  -- R16.1: g 2^63 - 8: 4; g 2^63 - 7: 3
  pub last_grid : check_of one_to_one (unit_grid (2 ^ 63 - 8)) ≡ refuse 4 0
  pub no_grid : check_of one_to_one (unit_grid (2 ^ 63 - 7)) ≡ refuse 3 0
  -- R16.2: g 2, [-1, 1], x 0: the basis values, and the slopes 0, -0.5, 0, 0.5, 0
  pub values : values_at (unit_grid 2) zero32 ≡ zero32 ∷ bits 0x3e2a_aaab ∷ bits 0x3f2a_aaab ∷ bits 0x3e2a_aaab ∷ zero32 ∷ []
  pub slopes : slopes_at (unit_grid 2) zero32 ≡ zero32 ∷ bits 0xbf00_0000 ∷ zero32 ∷ bits 0x3f00_0000 ∷ zero32 ∷ []
  -- R16.2: x 4 and x -4: all zero
  pub above : (values_at (unit_grid 2) (bits 0x4080_0000) ≡ zeros 5) × (slopes_at (unit_grid 2) (bits 0x4080_0000) ≡ zeros 5)
  pub below : (values_at (unit_grid 2) (bits 0xc080_0000) ≡ zeros 5) × (slopes_at (unit_grid 2) (bits 0xc080_0000) ≡ zeros 5)
  -- R16.2: E(0) = 1; the derivative of SiLU at 0 is 0.5
  pub exponential : exp_of zero32 ≡ one32
  pub derivative : silu_derivative_of zero32 ≡ bits 0x3f00_0000
  -- R16.3: Z, x 0, target 1: the loss is 1, with just the work that is needed
  pub loss : loss_answer (net_of (unit_grid 2)) one_to_one (unit_grid 2) (weighted (zeros 5)) (zero32 ∷ []) (one32 ∷ []) (zeros 1) (zeros 1)
      ≡ Ok one32
  -- R16.3: a step at rate 0.5 on Z is accepted, the weights stay, and the coefficients are the basis values
  pub accepted : step_refusal (weighted (zeros 5)) ≡ 0
  pub stepped : after_step (weighted (zeros 5))
      ≡ weighted (zero32 ∷ bits 0x3e2a_aaab ∷ bits 0x3f2a_aaab ∷ bits 0x3e2a_aaab ∷ zero32 ∷ [])
