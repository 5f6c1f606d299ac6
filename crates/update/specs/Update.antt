-- R10.2, R10.7: the learning rate, and the update of a model by its gradients. Definitions only.
use Rattle.std.specs.Prelude.{ℕ, Bool, not, ◌&&◌, List, length, Float}
use Rattle.std.specs.Float.Ieee.{le}
use Rattle.std.specs.Float.Ieee.Scale.{finite}
use Rattle.floats.specs.Binary32.{◌⊖◌, ◌⊗◌, zero32}
use Rattle.floats.specs.Sums.{tabulate, at}

-- R10.2: 19, the rate is not finite or not above 0
unfoldable pub rate_sound : Float → Bool
rate_sound rate = finite rate && not (le rate zero32)

-- R10.7: parameter less rate · gradient
unfoldable pub moved_of : List Float → List Float → Float → List Float
moved_of ps gs rate = tabulate (λ (i : ℕ). at ps i ⊖ (rate ⊗ at gs i)) (length ps)
