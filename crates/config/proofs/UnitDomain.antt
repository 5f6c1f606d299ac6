-- Of intervals that pass check 3, the test of the domain [-1, 1] is one comparison. Assumes nothing.
use Prim.Native.Nat.{ℕ}
use mathlib.Core.Path.{◌≡◌}
use mathlib.Core.Bool.{true}
use lib.Dec.{ltb}
use Rattle.config.specs.Config.{intervals_sound, domain_sound, unit_grid}
use Rattle.config.proofs.Tests.{intervals_between}
use Rattle.config.proofs.Threshold.{threshold}

pub unit_domain : (g : ℕ) → intervals_sound g ≡ true → domain_sound (unit_grid g) ≡ ltb g 67108862
unit_domain g e = let some = intervals_between g e in threshold g some.0 some.1
