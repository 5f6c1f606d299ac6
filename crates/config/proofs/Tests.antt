-- What the tests of the checks say once they pass. Assumes nothing.
use Prim.Native.Nat.{ℕ, ◌-◌, ◌^◌, ◌≤◌}
use mathlib.Core.Path.{◌≡◌, refl, sym, subst}
use mathlib.Core.Bool.{Bool, true, false, not, ◌&&◌, ◌||◌}
use lib.Dec.{T}
use lib.Ieee.Scale.{finite}
use borrow.Author.Tests.{leb-true}
use Rattle.spline.specs.declared.Grid.{Grid}
use Rattle.config.specs.Config.{intervals_sound, ends_sound}

-- ---- truth values
pub never : {A : Type 0} → false ≡ true → A
never e = absurd (subst T (sym e) tt)

pub both_true : (a b : Bool) → a && b ≡ true → (a ≡ true) × (b ≡ true)
both_true true b h = (refl, h)
both_true false b h = never h

pub holds : (b : Bool) → b ≡ true → T b
holds b e = subst T (sym e) tt

pub neither : (a b : Bool) → not (a || b) ≡ not a && not b
neither true b = refl
neither false b = refl

-- ---- check 3
pub intervals_between : (g : ℕ) → intervals_sound g ≡ true → (1 ≤ g) × (g ≤ 2 ^ 63 - 8)
unfolding intervals_sound
intervals_between g h = let b = both_true _ _ h in (leb-true 1 g b.0, leb-true g (2 ^ 63 - 8) b.1)

-- ---- check 4
pub ends_finite : (g : Grid) → ends_sound g ≡ true → T (finite g.lo) × T (finite g.hi)
unfolding ends_sound
ends_finite g h =
    let both = both_true (finite g.lo) (finite g.hi) (both_true (finite g.lo && finite g.hi) _ h).0 in
    (holds _ both.0, holds _ both.1)
