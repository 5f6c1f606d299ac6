-- `or_zero` at each outcome of the two tests. Assumes nothing.
use Prim.Native.Nat.{ℕ, ◌+◌, ◌≤◌, ◌<◌}
use mathlib.Core.Path.{◌≡◌, sym}
use lib.Ieee.{Float}
use borrow.Author.Tests.{le-leb, lt-leb, lt-ltb, le-ltb}
use Rattle.floats.specs.Binary32.{zero32}
use Rattle.leaves.specs.Leaves.{or_zero}

pub within : (n i : ℕ) (v : Float) → n ≤ 250000 → i < n + 3 → v ≡ or_zero n i v
unfolding or_zero
within n i v h k = sym (rw (le-leb n 250000 h, lt-ltb i (n + 3) k))

pub no_index : (n i : ℕ) (v : Float) → n ≤ 250000 → n + 3 ≤ i → zero32 ≡ or_zero n i v
unfolding or_zero
no_index n i v h k = sym (rw (le-leb n 250000 h, le-ltb i (n + 3) k))

pub too_fine : (n i : ℕ) (v : Float) → 250000 < n → zero32 ≡ or_zero n i v
unfolding or_zero
too_fine n i v h = sym (rw (lt-leb n 250000 h))
