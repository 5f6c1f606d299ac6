-- R11.3: the root of a whole n from 1 to 41,666 is the f32 nearest to the exact root, which is never a midpoint; any
-- other n gives +0.0. `root_of` is how it is worked out, and `NearestRoot` what R11.3 says of it. Definitions only.
use Rattle.std.specs.Prelude.{ℕ, zero, suc, ◌+◌, ◌*◌, ◌^◌, ◌<◌, false, cond, ◌&&◌, T, nat_le, Float}
use Rattle.std.specs.Float.{binary32}
use Rattle.std.specs.Float.Ieee.{of_bits, round, fits}
use Rattle.floats.specs.Binary32.{zero32}
use Rattle.std.specs.Float.Ieee.Exact.{HasValue}

-- R11.3: the binary digits of a root, the highest first: digit j is 1 where the square stays at most n
unfoldable pub root_digits : ℕ → ℕ → ℕ → ℕ
root_digits zero n t = t
root_digits (suc j) n t = root_digits j n (cond (nat_le ((t + 2 ^ j) * (t + 2 ^ j)) n) (t + 2 ^ j) t)

-- R11.3: the whole part of the root of an n below 2 ^ 64
unfoldable pub whole_root : ℕ → ℕ
unfolding root_digits
whole_root n = root_digits 32 n 0

-- R11.3: in units of 2 ^ -24 the root lies from s = whole_root (n * 2 ^ 48) and below s + 1. From 1 on each midpoint of
-- two neighbouring f32 is a whole number of these units, and the root is none of them: being whole in these units it
-- would be a whole number, which is an f32. So s + 1/2 lies between the same two midpoints as the root, and is rounded
-- to the same f32.
unfoldable pub root_of : ℕ → Float
unfolding whole_root of_bits
root_of n = cond (nat_le 1 n && nat_le n 41666) (round binary32 false (2 * whole_root (n * 2 ^ 48) + 1) (2 ^ 25)) zero32

-- R11.3: every finite f32 is a whole number of units of 2 ^ -149, and twice the root of n is the root of n * 2 ^ 300 in
-- these units. For two sizes in units: the root of n lies on a's side of the midpoint of a and b, and not at the
-- midpoint.
abbrev pub Nearer : ℕ → ℕ → ℕ → Type 0
Nearer n a b = (b < a → (a + b) * (a + b) < n * 2 ^ 300) × (a < b → n * 2 ^ 300 < (a + b) * (a + b))

-- R11.3: r is an f32, and nearer to the root of n than any other f32. (A negative one is further off than +0.0, which
-- is among them.)
pub record NearestRoot (n : ℕ) (r : Float) : Type 0 where
  pub held : T (fits binary32 r)
  pub size : ℕ
  pub value : HasValue r false size (2 ^ 149)
  pub nearest : (y : Float) (b : ℕ) → T (fits binary32 y) → HasValue y false b (2 ^ 149) → Nearer n size b
