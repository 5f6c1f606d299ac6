-- R10.8: one step of training past the checks. Definitions only.
use Rattle.std.specs.Prelude.{ℕ, ◌*◌, List, length, Float}
use Rattle.floats.specs.Sums.{zeros, all_to, all_finite}
use Rattle.refusals.specs.Refusals.{◌otherwise◌, ◌then◌}
use Rattle.layers.specs.Net.{Net}
use Rattle.layers.specs.Widths.{output_width}
use Rattle.passes.specs.Pass.{rows_of, finite_row}
use Rattle.batch_gradients.specs.Accumulate.{scale_of, gathered}
use Rattle.update.specs.Update.{moved_of}

-- R10.6: the batch's gradients: each cell the sum over the rows, in order, from +0.0
unfoldable pub gradient_of : Net → List Float → List ℕ → List Float → List Float → List Float
gradient_of N ps ws xs ts =
    gathered N ps ws xs ts (output_width ws) (scale_of (rows_of ws xs * output_width ws)) (zeros (length ps)) (rows_of ws xs)

-- R10.7: the model after a step: every parameter less rate · gradient
unfoldable pub stepped : Net → List Float → List ℕ → List Float → List Float → Float → List Float
stepped N ps ws xs ts rate = moved_of ps (gradient_of N ps ws xs ts) rate

-- R10.8: a step's refusal: 20 in any row, then 23, an updated parameter not finite (R10.7)
unfoldable pub step_fault : Net → List Float → List ℕ → List Float → List Float → Float → ℕ
step_fault N ps ws xs ts rate =
    all_to (finite_row N ps ws xs) (rows_of ws xs) otherwise 20 then all_finite (stepped N ps ws xs ts rate) otherwise 23
