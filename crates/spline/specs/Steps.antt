-- The steps of Cox and de Boor on knots at hand, as the code takes them. No part of the meaning: `indicator_of` and `blend_of`
-- say which knots, `cox_of` which steps. Definitions only.
use Rattle.std.specs.Prelude.{cond, Float}
use Rattle.std.specs.Float.Ieee.{lt, le}
use Rattle.floats.specs.Binary32.{◌⊕◌, ◌⊖◌, zero32, one32}
use Rattle.spline.specs.Spline.{portion_of}

-- 1 from one knot up to but not at the next
abbrev pub indicator_by : Float → Float → Float → Float
indicator_by from to x = cond (le from x) (cond (lt x to) one32 zero32) zero32

-- a value's part in the next degree: over its own knots, from the first or to the last
abbrev pub rising_of : Float → Float → Float → Float → Float
rising_of from to x value = portion_of (x ⊖ from) value (to ⊖ from)

abbrev pub falling_of : Float → Float → Float → Float → Float
falling_of from to x value = portion_of (to ⊖ x) value (to ⊖ from)

-- from a value on the knots a to c and its neighbour on the knots b to e
abbrev pub blend_by : Float → Float → Float → Float → Float → Float → Float → Float
blend_by a b c e x this next = rising_of a c x this ⊕ falling_of b e x next
