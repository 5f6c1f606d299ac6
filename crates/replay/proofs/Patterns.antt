-- Patterns of 32 bits and NaN. Assumes nothing.
use mathlib.Core.Path.{◌≡◌, refl}
use lib.Ieee.{nan, binary32, of_bits}

-- the one NaN, as the code has it
pub nan_read : of_bits binary32 0x7fc0_0000 ≡ nan
unfolding of_bits
nan_read = refl
