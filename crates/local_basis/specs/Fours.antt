-- The four cubic basis values, or slopes, in whose support an input lies: what they are by the triangle on six knots,
-- at which indices they stand, and how they stand for all. No part of the meaning: `value_of` and `slope_of` are.
-- Definitions only.
use Rattle.std.specs.Prelude.{ℕ, zero, suc, ◌+◌, ◌-◌, ◌≤◌, ◌<◌, ◌≡◌, true, List, T, Float}
use Rattle.std.specs.Float.Ieee.Scale.{finite}
use Rattle.floats.specs.Binary32.{◌⊕◌, ◌⊖◌, ◌⊗◌, zero32, one32, three32}
use Rattle.floats.specs.Sums.{at}
use Rattle.floats.specs.Zeros.{is_zero, Alike}
use Rattle.spline.specs.declared.Grid.{Grid}
use Rattle.spline.specs.Spline.{knot_of, portion_of, value_of, slope_of}
use Rattle.spline.specs.Steps.{rising_of, falling_of, blend_by}
use Rattle.local_basis.specs.declared.Eight.{Eight}
use Rattle.local_basis.specs.declared.Four.{Four}
use Rattle.local_basis.specs.declared.triangle.Squares.{Squares}

-- ---- the triangle for an x from knot a up to knot a + 1: two values of degree 1, three of degree 2, four of degree 3.
-- Near the first knot some of them belong to no basis function; what they are then is of no use and does no harm.
abbrev pub linear_low : Grid → ℕ → Float → Float
linear_low g a x = falling_of (knot_of g a) (knot_of g (a + 1)) x one32

abbrev pub linear_high : Grid → ℕ → Float → Float
linear_high g a x = rising_of (knot_of g a) (knot_of g (a + 1)) x one32

unfoldable pub square_low : Grid → ℕ → Float → Float
square_low g a x = falling_of (knot_of g (a - 1)) (knot_of g (a + 1)) x (linear_low g a x)

unfoldable pub square_middle : Grid → ℕ → Float → Float
square_middle g a x =
    blend_by (knot_of g (a - 1)) (knot_of g a) (knot_of g (a + 1)) (knot_of g (a + 2)) x (linear_low g a x) (linear_high g a x)

unfoldable pub square_high : Grid → ℕ → Float → Float
square_high g a x = rising_of (knot_of g a) (knot_of g (a + 2)) x (linear_high g a x)

unfoldable pub cube_first : Grid → ℕ → Float → Float
cube_first g a x = falling_of (knot_of g (a - 2)) (knot_of g (a + 1)) x (square_low g a x)

unfoldable pub cube_second : Grid → ℕ → Float → Float
cube_second g a x =
    blend_by (knot_of g (a - 2)) (knot_of g (a - 1)) (knot_of g (a + 1)) (knot_of g (a + 2)) x (square_low g a x) (square_middle g a x)

unfoldable pub cube_third : Grid → ℕ → Float → Float
cube_third g a x =
    blend_by (knot_of g (a - 1)) (knot_of g a) (knot_of g (a + 2)) (knot_of g (a + 3)) x (square_middle g a x) (square_high g a x)

unfoldable pub cube_fourth : Grid → ℕ → Float → Float
cube_fourth g a x = rising_of (knot_of g a) (knot_of g (a + 3)) x (square_high g a x)

-- the six knots about x, and the three values of degree 2
pub record SquaresAt (g : Grid) (x : Float) (a : ℕ) (r : Squares) : Type 0 where
  pub k1 : r.k1 ≡ knot_of g (a - 2)
  pub k2 : r.k2 ≡ knot_of g (a - 1)
  pub k3 : r.k3 ≡ knot_of g a
  pub k4 : r.k4 ≡ knot_of g (a + 1)
  pub k5 : r.k5 ≡ knot_of g (a + 2)
  pub k6 : r.k6 ≡ knot_of g (a + 3)
  pub low : r.low ≡ square_low g a x
  pub middle : r.middle ≡ square_middle g a x
  pub high : r.high ≡ square_high g a x

-- the three quotients of which the four slopes are differences
abbrev pub rise_low : Grid → ℕ → Float → Float
rise_low g a x = portion_of three32 (square_low g a x) (knot_of g (a + 1) ⊖ knot_of g (a - 2))

abbrev pub rise_middle : Grid → ℕ → Float → Float
rise_middle g a x = portion_of three32 (square_middle g a x) (knot_of g (a + 2) ⊖ knot_of g (a - 1))

abbrev pub rise_high : Grid → ℕ → Float → Float
rise_high g a x = portion_of three32 (square_high g a x) (knot_of g (a + 3) ⊖ knot_of g a)

-- ---- four neighbouring numbers, from index f on
pub record Neighbours (f : ℕ) (a b c d : Float) (r : Four) : Type 0 where
  pub start : r.start ≡ f
  pub first : r.first ≡ a
  pub second : r.second ≡ b
  pub third : r.third ≡ c
  pub fourth : r.fourth ≡ d

abbrev pub CubesAt : Grid → Float → ℕ → Four → Type 0
CubesAt g x a r = Neighbours (a - 3) (cube_first g a x) (cube_second g a x) (cube_third g a x) (cube_fourth g a x) r

abbrev pub RisesAt : Grid → Float → ℕ → Four → Type 0
RisesAt g x a r =
    Neighbours (a - 3) (zero32 ⊖ rise_low g a x) (rise_low g a x ⊖ rise_middle g a x) (rise_middle g a x ⊖ rise_high g a x)
    (rise_high g a x ⊖ zero32) r

-- the same from the squares at hand
unfoldable pub cubes_of : Squares → Float → ℕ → Four
cubes_of s x a = record {
  start = a - 3;
  first = falling_of s.k1 s.k4 x s.low;
  second = blend_by s.k1 s.k2 s.k4 s.k5 x s.low s.middle;
  third = blend_by s.k2 s.k3 s.k5 s.k6 x s.middle s.high;
  fourth = rising_of s.k3 s.k6 x s.high;
}

unfoldable pub rises_of : Squares → ℕ → Four
rises_of s a =
    let low = portion_of three32 s.low (s.k4 ⊖ s.k1) in
    let middle = portion_of three32 s.middle (s.k5 ⊖ s.k2) in
    let high = portion_of three32 s.high (s.k6 ⊖ s.k3) in
    record {
      start = a - 3;
      first = zero32 ⊖ low;
      second = low ⊖ middle;
      third = middle ⊖ high;
      fourth = high ⊖ zero32;
    }

-- near the ends of the knots fewer than four have a basis function: these are moved n places down, or up, and zeros
-- follow
unfoldable pub down_by : ℕ → Four → Four
down_by zero r = r
down_by (suc n) r =
    down_by n (record { start = r.start; first = r.second; second = r.third; third = r.fourth; fourth = zero32 })

unfoldable pub up_by : ℕ → Four → Four
up_by zero r = r
up_by (suc n) r =
    up_by n (record { start = r.start - 1; first = zero32; second = r.first; third = r.second; fourth = r.third })

-- the four for an x from knot a up to knot a + 1, at indices that the grid has
abbrev pub placed_of : ℕ → ℕ → Four → Four
placed_of g a r = up_by (a - (g + 2)) (down_by (3 - a) r)

-- for an x that no interval holds
abbrev pub no_four : Four
no_four = record { start = 0; first = zero32; second = zero32; third = zero32; fourth = zero32 }

-- they stand for F's numbers below n: the four, a zero's sign left open, and zeros at every other index
pub record Covers (n : ℕ) (F : ℕ → Float) (r : Four) : Type 0 where
  pub fit : r.start + 4 ≤ n
  pub first : Alike r.first (F r.start)
  pub second : Alike r.second (F (r.start + 1))
  pub third : Alike r.third (F (r.start + 2))
  pub fourth : Alike r.fourth (F (r.start + 3))
  pub below : (k : ℕ) → k < r.start → T (is_zero (F k))
  pub above : (k : ℕ) → r.start + 4 ≤ k → k < n → T (is_zero (F k))

abbrev pub Values : Grid → Float → Four → Type 0
Values g x r = Covers (g.intervals + 3) (λ (k : ℕ). value_of g 3 k x) r

abbrev pub Slopes : Grid → Float → Four → Type 0
Slopes g x r = Covers (g.intervals + 3) (λ (k : ℕ). slope_of g k x) r

-- both, from the same index on
pub record Both (g : Grid) (x : Float) (r : Eight) : Type 0 where
  pub start : r.slopes.start ≡ r.values.start
  pub values : Values g x r.values
  pub slopes : Slopes g x r.slopes

-- ---- the coefficients times the four, where those begin at place p
abbrev pub four_dot : List Float → ℕ → Four → Float
four_dot ps p r =
    (((zero32 ⊕ at ps p ⊗ r.first) ⊕ at ps (p + 1) ⊗ r.second) ⊕ at ps (p + 2) ⊗ r.third) ⊕ at ps (p + 3) ⊗ r.fourth

-- each of the first n numbers is finite
abbrev pub Finite : ℕ → List Float → Type 0
Finite n ps = (k : ℕ) → k < n → finite (at ps k) ≡ true
