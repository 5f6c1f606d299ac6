-- Check 4 with the domain [-1, 1] is a comparison of g: 67,108,862 is the first g that `usize as f32` rounds to 2^26,
-- and a step of 2/2^26 no longer moves -1. Rounding is monotone, so four computed widths speak for all. Assumes nothing.
use Prim.Native.Nat.{ℕ, ◌-◌, ◌^◌, ◌≤◌, ◌<◌}
use native.Mathlib.Nat.{zero-lt-suc, mul-le-mul_right}
use native.Mathlib.Omega.{arith}
use mathlib.Core.Path.{◌≡◌, refl, subst}
use mathlib.Core.Bool.{Bool, true, false, not, ◌&&◌}
use lib.IntN.{pos, negsuc}
use lib.Dec.{T, ltb, ltb→lt, nltb→le}
use lib.Ieee.{Float, fin, binary32, add, sub, mul, div, le, of_int, of_bits, round}
use lib.Ieee.Bits.{is_true}
use lib.Ieee.Order.{round_mono}
use lib.Ieee.Positive.{positive, mul_mono}
use lib.Ieee.Positive.{between as between-positive}
use lib.Ieee.Scale.{finite}
use Rattle.floats.specs.Binary32.{◌⊕◌, ◌⊖◌, ◌⊗◌, zero32, one32, three32, whole32}
use Rattle.floats.proofs.Order.{between, le_chain, add_mono, sub_mono, div_anti}
use Rattle.floats.proofs.Finite.{refute}
use Rattle.spline.specs.Spline.{width_of}
use Rattle.config.specs.Config.{ends_sound, steps_sound, domain_sound, unit_grid}

-- ---- the width falls as g grows
whole_mono : (g h : ℕ) → g ≤ h → T (le (whole32 g) (whole32 h))
unfolding of_int
whole_mono g h l = round_mono binary32 g 1 h 1 (zero-lt-suc 0) (zero-lt-suc 0) (mul-le-mul_right 1 l)

whole_positive : (g : ℕ) → 1 ≤ g → g ≤ 2 ^ 63 - 8 → T (positive (whole32 g))
unfolding of_int round
whole_positive g some few =
    let most = 2 ^ 63 - 8 in
    between-positive (whole32 1) (whole32 g) (whole32 most) tt tt (whole_mono 1 g some) (whole_mono g most few)

abbrev minus_one : Float
minus_one = of_bits binary32 0xbf80_0000

width_falls : (g h : ℕ) → 1 ≤ g → g ≤ h → h ≤ 2 ^ 63 - 8 → T (le (width_of (unit_grid h)) (width_of (unit_grid g)))
unfolding width_of sub of_bits
width_falls g h some l few =
    div_anti binary32 (one32 ⊖ minus_one) (whole32 g) (whole32 h) tt (whole_positive g some (omega arith))
    (whole_positive h (omega arith) few) (whole_mono g h l)

-- ---- four widths: of one interval 2, of the last g that moves -1 just above 2^-25, of the next 2^-25, of the most 2^-62
abbrev widest : Float
widest = fin false 1 (pos 1)

abbrev last_moving : Float
last_moving = fin false 8388609 (negsuc 47)

abbrev first_stuck : Float
first_stuck = fin false 1 (negsuc 24)

abbrev narrowest : Float
narrowest = fin false 1 (negsuc 61)

record Widths : Type 0 where
  one : width_of (unit_grid 1) ≡ widest
  last : width_of (unit_grid 67108861) ≡ last_moving
  next : width_of (unit_grid 67108862) ≡ first_stuck
  most : width_of (unit_grid (2 ^ 63 - 8)) ≡ narrowest

widths : Widths
unfolding width_of sub div of_int of_bits
widths = record { one = refl; last = refl; next = refl; most = refl }

-- ---- what lies between two finite values, and where a sum or a difference takes it
record Lies (a b x : Float) : Type 0 where
  low : T (finite a)
  high : T (finite b)
  from : T (le a x)
  to : T (le x b)

inside : {a b x : Float} → Lies a b x → T (finite x)
inside {a} {b} {x} l = between a x b l.low l.high l.from l.to

inside_is : {a b x : Float} → Lies a b x → finite x ≡ true
inside_is {a} {b} {x} l = is_true (finite x) (inside l)

module _ {a b x : Float} (c : Float) (p : T (finite c)) (l : Lies a b x) where
  plus_lies : T (finite (c ⊕ a)) → T (finite (c ⊕ b)) → Lies (c ⊕ a) (c ⊕ b) (c ⊕ x)
  plus_lies q r =
      record {
        low = q;
        high = r;
        from = add_mono c a x p l.low (inside l) l.from;
        to = add_mono c x b p (inside l) l.high l.to;
      }

  less_lies : T (le c c) → T (finite (c ⊖ b)) → T (finite (c ⊖ a)) → Lies (c ⊖ b) (c ⊖ a) (c ⊖ x)
  less_lies e q r =
      record {
        low = q;
        high = r;
        from = sub_mono x c c b (inside l) p p l.high l.to e;
        to = sub_mono a c c x l.low p p (inside l) l.from e;
      }

  -- c is below a, and so below x; c is above b, and so above x
  over : le a c ≡ false → le x c ≡ false
  over h = refute (le x c) (λ t. subst T h (le_chain a x c l.low (inside l) p l.from t))

  under : le c b ≡ false → le c x ≡ false
  under h = refute (le c x) (λ t. subst T h (le_chain c x b p (inside l) l.high t l.to))

-- ---- up to the last g that moves -1 every test passes
module _ (w : Float) (l : Lies last_moving widest w) where
  above_zero : le w zero32 ≡ false
  unfolding le of_bits
  above_zero = over zero32 tt l refl

  moves_low : le (minus_one ⊕ w) minus_one ≡ false
  unfolding add le of_bits
  moves_low = over minus_one tt (plus_lies minus_one tt l tt tt) refl

  moves_high : le one32 (one32 ⊖ w) ≡ false
  unfolding sub le of_bits
  moves_high = under one32 tt (less_lies one32 tt l tt tt tt) refl

  thrice : Lies (three32 ⊗ last_moving) (three32 ⊗ widest) (three32 ⊗ w)
  unfolding mul le of_bits
  thrice =
      let p = between-positive last_moving w widest tt tt l.from l.to in
      record {
        low = tt;
        high = tt;
        from = mul_mono binary32 three32 three32 last_moving w tt tt tt p tt l.from;
        to = mul_mono binary32 three32 three32 w widest tt tt p tt tt l.to;
      }

  outer_low : Lies (minus_one ⊖ (three32 ⊗ widest)) (minus_one ⊖ (three32 ⊗ last_moving)) (minus_one ⊖ (three32 ⊗ w))
  unfolding sub mul le of_bits
  outer_low = less_lies minus_one tt thrice tt tt tt

  outer_high : Lies (one32 ⊕ (three32 ⊗ last_moving)) (one32 ⊕ (three32 ⊗ widest)) (one32 ⊕ (three32 ⊗ w))
  unfolding add mul of_bits
  outer_high = plus_lies one32 tt thrice tt tt

  below_low : le minus_one (minus_one ⊖ (three32 ⊗ w)) ≡ false
  unfolding sub mul le of_bits
  below_low = under minus_one tt outer_low refl

  above_high : le (one32 ⊕ (three32 ⊗ w)) one32 ≡ false
  unfolding add mul le of_bits
  above_high = over one32 tt outer_high refl

steps_move : (g : ℕ) → Lies last_moving widest (width_of (unit_grid g)) → steps_sound (unit_grid g) ≡ true
unfolding steps_sound
steps_move g l =
    let w = width_of (unit_grid g) in
    rw (
      inside_is l,
      above_zero w l,
      inside_is (outer_low w l),
      inside_is (outer_high w l),
      moves_low w l,
      moves_high w l,
      below_low w l,
      above_high w l,
    )

-- ---- from the next g on a step leaves -1 where it is: -1 + 2^-25 is a tie, which goes to -1
unmoved : (w : Float) → Lies narrowest first_stuck w → le (minus_one ⊕ w) minus_one ≡ true
unfolding add of_bits
unmoved w l = is_true (le (minus_one ⊕ w) minus_one) (plus_lies minus_one tt l tt tt).to

and_false : (b : Bool) → b && false ≡ false
and_false true = refl
and_false false = refl

steps_stick : (g : ℕ) → Lies narrowest first_stuck (width_of (unit_grid g)) → steps_sound (unit_grid g) ≡ false
unfolding steps_sound
steps_stick g l = rw (unmoved (width_of (unit_grid g)) l, and_false)

-- ---- the threshold
ends_sound_lem : (g : ℕ) → ends_sound (unit_grid g) ≡ true
unfolding ends_sound le of_bits
ends_sound_lem g = refl

pub threshold : (g : ℕ) → 1 ≤ g → g ≤ 2 ^ 63 - 8 → domain_sound (unit_grid g) ≡ ltb g 67108862
unfolding domain_sound
threshold g some few = rw (ends_sound_lem g) (by (ltb g 67108862) (ltb→lt g 67108862) (nltb→le g 67108862))
  where
    by : (b : Bool) → (T b → g < 67108862) → (T (not b) → 67108862 ≤ g) → steps_sound (unit_grid g) ≡ b
    by true below above =
        let h = below tt in
        steps_move g
        (record {
          low = tt;
          high = tt;
          from = rw widths.last at (width_falls g 67108861 some (omega arith) (omega arith));
          to = rw widths.one at (width_falls 1 g (omega arith) some few);
        })
    by false below above =
        let h = above tt in
        steps_stick g
        (record {
          low = tt;
          high = tt;
          from = rw widths.most at (width_falls g (2 ^ 63 - 8) some few (omega arith));
          to = rw widths.next at (width_falls 67108862 g (omega arith) h few);
        })
