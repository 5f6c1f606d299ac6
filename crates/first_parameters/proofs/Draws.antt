-- Draws follow one another: those of a later generator are later draws of the first. Assumes nothing.
use mathlib.Core.Path.{◌≡◌, refl, ap, ◌∙◌}
use Prim.Native.Nat.{ℕ, zero, suc, ◌+◌}
use native.Mathlib.Nat.{add_comm, add-suc, add-zero}
use native.Mathlib.Numerals.{add-one}
use Rattle.generator.specs.declared.SplitMix64.{SplitMix64}
use Rattle.generator.specs.declared.Uniform.{Uniform}
use Rattle.generator.specs.Generator.{uniform_of}
use Rattle.first_parameters.specs.Initial.{advanced_by, draw_at}

pub advanced_none : (G : SplitMix64) → G ≡ advanced_by 0 G
unfolding advanced_by
advanced_none G = refl

-- one draw more
pub advanced_more : (n : ℕ) (G H : SplitMix64) (u : Uniform) → H ≡ advanced_by n G → u ≡ uniform_of H
    → u.next ≡ advanced_by (n + 1) G
unfolding advanced_by
advanced_more n G H u p q = rw (q, p, add-one n)

-- the draw that the code takes is the n-th
pub drawn : (n : ℕ) (G H : SplitMix64) (u : Uniform) → H ≡ advanced_by n G → u ≡ uniform_of H → u.value ≡ draw_at G n
unfolding draw_at
drawn n G H u p q = rw (q, p)

pub advanced_on : (n m : ℕ) (G : SplitMix64) → advanced_by m (advanced_by n G) ≡ advanced_by (n + m) G
unfolding advanced_by
advanced_on n zero G = rw (add-zero n)
advanced_on n (suc m) G = rw (add-suc n m) (ap (λ (H : SplitMix64). (uniform_of H).next) (advanced_on n m G))

-- a draw after the first, whose generator H is
pub draw_after : (k : ℕ) (G H : SplitMix64) → H ≡ advanced_by 1 G → draw_at H k ≡ draw_at G (k + 1)
unfolding draw_at
draw_after k G H p =
    ap (λ (F : SplitMix64). (uniform_of F).value) (ap (advanced_by k) p ∙ advanced_on 1 k G ∙ ap (λ (n : ℕ). advanced_by n G) (add_comm 1 k))
