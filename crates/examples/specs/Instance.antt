-- R17.1 (demand 3) is about something: two models that do differ, and a step of training that meets its premise. The
-- model Z of R16.3, and the same but for its outer two coefficients, which are silent at 0. Definitions only.
use Rattle.std.specs.Prelude.{◌≡◌, false, ◌||◌, List, [], ◌∷◌, eqb, Float}
use Rattle.std.specs.Float.Ieee.{eq}
use Rattle.floats.specs.Binary32.{zero32, minus_zero32, one32}
use Rattle.floats.specs.Sums.{at, zeros}
use Rattle.layers.specs.Net.{net_of}
use Rattle.config.specs.Config.{unit_grid}
use Rattle.demands.specs.Silent.{Places, Differ}
use Rattle.demands.specs.Readings.{TrainReads}
use Rattle.examples.specs.Starred.{bits, one_to_one, weighted, step_refusal, after_step}

-- R2.6: the places of the first and the last coefficient
abbrev pub outer : Places
outer p = eqb p 2 || eqb p 6

-- R16.3: Z with -7.5 and -0.0 in their places
abbrev pub changed : List Float
changed = weighted (bits 0xc0f0_0000 ∷ zero32 ∷ zero32 ∷ zero32 ∷ minus_zero32 ∷ [])

-- R17.1: the models differ, the step meets the premise, and what it leaves
pub record Instance : Type 0 where
  pub apart : eq (at (weighted (zeros 5)) 2) (at changed 2) ≡ false
  pub differ : Differ 7 outer (weighted (zeros 5)) changed
  pub reads : TrainReads (net_of (unit_grid 2)) one_to_one outer (weighted (zeros 5)) (zero32 ∷ []) (one32 ∷ []) (bits 0x3f00_0000) 1
  -- so the settled example is the changed model's too: the step is taken, the inner coefficients move alike, and -7.5 and -0.0 stay
  pub taken : step_refusal changed ≡ 0
  pub left : after_step changed
      ≡ weighted (bits 0xc0f0_0000 ∷ bits 0x3e2a_aaab ∷ bits 0x3f2a_aaab ∷ bits 0x3e2a_aaab ∷ minus_zero32 ∷ [])
