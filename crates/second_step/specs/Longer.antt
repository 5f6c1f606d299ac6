-- Why R17.4 stops at one step: two models, and two steps of training. The map of the first model marks its last coefficient 0,
-- for the hidden node reads 0, where that coefficient is silent, and the second model differs in it alone. One step leaves both
-- alike. It also moves what the hidden node reads to 9/16, where the coefficient is not silent: the second step moves the
-- coefficient itself, and leaves different whatever else it moves. Definitions only.
use Rattle.std.specs.Prelude.{ℕ, ◌≡◌, Ok, List, [], ◌∷◌, ◌++◌, Float}
use Rattle.floats.specs.Binary32.{zero32, one32}
use Rattle.floats.specs.Sums.{zeros}
use Rattle.spline.specs.Spline.{value_of}
use Rattle.layers.specs.Net.{Net, net_of}
use Rattle.config.specs.Config.{unit_grid}
use Rattle.passes.specs.Pass.{nodes_of}
use Rattle.touched_layer.specs.Touched.{blank}
use Rattle.visit_map.specs.Visits.{Visited}
use Rattle.training.specs.Train.{Trained}
use Rattle.demands.specs.Silent.{Differ}
use Rattle.demands.specs.Readings.{TrainReads}
use Rattle.demands.specs.Alike.{LeftAlike, SameTraining}
use Rattle.demands.specs.Unmarked.{unmarked}
use Rattle.examples.specs.Starred.{bits, weighted}

-- R2.1: the widths [1, 1, 1], one hidden node, and the network with g 2
abbrev pub deep : List ℕ
deep = 1 ∷ 1 ∷ 1 ∷ []

abbrev pub deep_net : Net
deep_net = net_of (unit_grid 2)

-- R2.6: its 14 parameters, of both edges the coefficients given: below, the weights 0 and 1 of Z (R16.3); above, 1 and 1
abbrev pub layered : List Float → List Float → List Float
layered below above = weighted below ++ (one32 ∷ one32 ∷ above)

-- R17.4: all coefficients 0 but the last, at place 13: `ending zero32` is the first model, `ending one32` the second
abbrev pub ending : Float → List Float
ending last = layered (zeros 5) (zero32 ∷ zero32 ∷ zero32 ∷ zero32 ∷ last ∷ [])

-- R10.9: `train` of n steps on one of them, x 0, target 1, rate 1.125, lent just what is needed, is accepted and leaves ms
abbrev pub rate : Float
rate = bits 0x3f90_0000

abbrev pub Trains : Float → ℕ → List Float → Type 0
Trains last n ms =
    Trained deep_net deep (unit_grid 2) (ending last) (zero32 ∷ []) (one32 ∷ []) rate (zeros 14) (zeros 6) n (Ok n) ms (zeros 14) (zeros 6)

-- R12.2, R12.3: the map of the first model at x 0: of both edges all but the outer two coefficients
abbrev pub marked : List ℕ
marked = 1 ∷ 1 ∷ 0 ∷ 1 ∷ 1 ∷ 1 ∷ 0 ∷ 1 ∷ 1 ∷ 0 ∷ 1 ∷ 1 ∷ 1 ∷ 0 ∷ []

-- R10.7: what one step leaves: the inner coefficients 3/16, 3/4, 3/16 below and 3/8, 3/2, 3/8 above
abbrev pub after_one : Float → List Float
after_one last =
    layered (zero32 ∷ bits 0x3e40_0000 ∷ bits 0x3f40_0000 ∷ bits 0x3e40_0000 ∷ zero32 ∷ [])
    (zero32 ∷ bits 0x3ec0_0000 ∷ bits 0x3fc0_0000 ∷ bits 0x3ec0_0000 ∷ last ∷ [])

-- R10.7: what two steps leave of the first and of the second: the same only where both have 0
abbrev pub first_after_two : List Float
first_after_two =
    zero32 ∷ bits 0x3f80_d6a7 ∷ zero32 ∷ bits 0x3e41_fcce ∷ bits 0x3f41_fcce ∷ bits 0x3e41_fcce ∷ zero32
    ∷ bits 0x3f53_57e4 ∷ bits 0x3f15_1172 ∷ zero32 ∷ bits 0x3ebc_8574 ∷ bits 0x3fa4_a11e ∷ bits 0x3dfc_6c44 ∷ bits 0xbc6c_9783 ∷ []

abbrev pub second_after_two : List Float
second_after_two =
    zero32 ∷ bits 0x3f75_4bd2 ∷ zero32 ∷ bits 0x3e33_5062 ∷ bits 0x3f33_5062 ∷ bits 0x3e33_5062 ∷ zero32
    ∷ bits 0x3f4d_388e ∷ bits 0x3f02_344c ∷ zero32 ∷ bits 0x3ebc_0b5c ∷ bits 0x3fa0_e07a ∷ bits 0x3db5_bcd8 ∷ bits 0x3f7b_cbe3 ∷ []

-- R17.1: demand 3 of n steps on both models, for the coefficients that the map marks 0: its premise, and its conclusion
abbrev pub SilentFor : ℕ → Type 0
SilentFor n = TrainReads deep_net deep (unmarked 7 marked) (ending zero32) (zero32 ∷ []) (one32 ∷ []) rate n

abbrev pub AlikeAfter : ℕ → Type 0
AlikeAfter n =
    SameTraining deep_net deep_net deep (unit_grid 2) (ending zero32) (ending one32) (zero32 ∷ [])
    (LeftAlike (unmarked 7 marked) (ending zero32) (ending one32)) (one32 ∷ []) rate (zeros 14) (zeros 6) n

pub record Longer : Type 0 where
  -- R12.1: the map is accepted, lent just what is needed
  pub visited : Visited deep_net deep (unit_grid 2) (ending zero32) (zero32 ∷ []) (zeros 1) (zeros 1) (blank 14) (Ok tt) (zeros 1) (zeros 1) marked
  -- R17.4: the models differ only in coefficients that it marks 0, so one step leaves them alike
  pub differ : Differ 7 (unmarked 7 marked) (ending zero32) (ending one32)
  pub one : SilentFor 1 × AlikeAfter 1
  pub once : Trains zero32 1 (after_one zero32) × Trains one32 1 (after_one one32)
  -- R8.6: the hidden node reads 0 in the first step, and 9/16 in the second
  pub hidden : (nodes_of deep_net (ending zero32) deep (zero32 ∷ []) 1 ≡ zero32 ∷ [])
      × (nodes_of deep_net (after_one zero32) deep (zero32 ∷ []) 1 ≡ bits 0x3f10_0000 ∷ [])
  -- R6.7: and there the basis value of the last coefficient is 243/8192
  pub not_silent : value_of (unit_grid 2) 3 4 (bits 0x3f10_0000) ≡ bits 0x3cf3_0000
  -- R17.1: so of two steps the premise fails, and the conclusion too
  pub twice : Trains zero32 2 first_after_two × Trains one32 2 second_after_two
  pub two : (SilentFor 2 → ⊥) × (AlikeAfter 2 → ⊥)
