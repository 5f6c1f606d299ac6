-- Sums and products that stay below 2^64, and those that do not. Assumes nothing.
use Rattle.std.specs.Prelude.{None, Some}
use Prim.Native.Nat.{ℕ, ◌*◌, ◌^◌, ◌≤◌, ◌<◌}
use native.Mathlib.Nat.{zero-mul}
use native.Mathlib.Omega.{arith}
use mathlib.Core.Path.{◌≡◌}
use borrow.Author.Tests.{lt-ltb, le-ltb}
use Rattle.config.specs.Fold.{whole_of}

pub below : (n : ℕ) → n < 2 ^ 64 → Some n ≡ whole_of n
unfolding whole_of
below n h = rw (lt-ltb n (2 ^ 64) h)

pub too_large : (n : ℕ) → 2 ^ 64 ≤ n → None ≡ whole_of n
unfolding whole_of
too_large n h = rw (le-ltb n (2 ^ 64) h)

pub none : (a b : ℕ) → a ≡ 0 → Some 0 ≡ whole_of (a * b)
none a b e = rw (e, zero-mul) (below 0 (omega arith))
