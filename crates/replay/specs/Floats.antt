-- Words of a list as f32 numbers. Definitions only.
use Rattle.std.specs.Prelude.{ℕ, ◌^◌, Bool, cond, ltb, eqb, Float}
use Rattle.std.specs.Float.{nan, binary32}
use Rattle.std.specs.Float.Ieee.{of_bits, to_bits}

-- the number that a pattern of 32 bits stands for; a NaN's pattern, and what is no pattern, stand for the one NaN
unfoldable pub float_of : ℕ → Float
float_of bits = cond (ltb bits (2 ^ 32)) (of_bits binary32 bits) nan

-- R7.1: x is written as this pattern, a NaN as 7FC00000
unfoldable pub same_bits : Float → ℕ → Bool
same_bits x bits = eqb bits (to_bits binary32 x)
