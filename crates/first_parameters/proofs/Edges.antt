-- One edge's two weights and its coefficients. Assumes nothing.
use mathlib.Core.Path.{◌≡◌, refl, sym, ap, ◌∙◌}
use mathlib.Core.List.{List, [], ◌∷◌, ◌++◌, append-nil}
use Prim.Native.Nat.{ℕ, ◌+◌, ◌-◌, ◌≤◌, ◌<◌}
use native.Mathlib.Nat.{le_of_eq}
use native.Mathlib.Omega.{arith}
use lib.ListN.{length, take, drop, set, length-set, length-drop}
use lib.Seq.{drop-drop}
use lib.Ieee.{Float}
use borrow.Rule.Slice.PartMut.{put_mid, Post-is}
use Rattle.std.proofs.lemmas.List.{drop_all, length-take-le}
use Rattle.floats.specs.Binary32.{◌⊗◌, ◌⊘◌, one32}
use Rattle.floats.specs.Sums.{tabulate}
use Rattle.floats.proofs.Loops.{tab_none, tab_more, tab_ext}
use Rattle.generator.specs.declared.SplitMix64.{SplitMix64}
use Rattle.generator.specs.declared.Uniform.{Uniform}
use Rattle.generator.specs.Generator.{uniform_of}
use Rattle.first_parameters.specs.Initial.{advanced_by, draw_at, hundredth32, edge_initial}
use Rattle.first_parameters.specs.Filled.{Filled}
use Rattle.first_parameters.proofs.Draws.{advanced_none, advanced_more, drawn, advanced_on, draw_after}

-- a coefficient by its own number, where H is the generator after the base weight's draw
abbrev pub coefficient_from : SplitMix64 → ℕ → Float
coefficient_from H k = hundredth32 ⊗ draw_at H k

-- after k coefficients, from the generator H, where d held the coefficients before
pub record Drawn (H : SplitMix64) (d : List Float) (k : ℕ) (e : List Float) (G : SplitMix64) : Type 0 where
  pub next : G ≡ advanced_by k H
  pub coefficients : e ≡ tabulate (coefficient_from H) k ++ drop k d

pub drawn_none : (H : SplitMix64) (d : List Float) → Drawn H d 0 d H
drawn_none H d = record { next = advanced_none H; coefficients = tab_none _ _ }

pub drawn_more : (H G : SplitMix64) (d e : List Float) (k : ℕ) (u : Uniform) → k < length d → Drawn H d k e G → u ≡ uniform_of G
    → Drawn H d (k + 1) (set e k (hundredth32 ⊗ u.value)) u.next
drawn_more H G d e k u h w p = record {
  next = advanced_more k H G u w.next p;
  coefficients = tab_more (coefficient_from H) k _ d e w.coefficients
      (ap (λ (x : Float). hundredth32 ⊗ x) (drawn k H G u w.next p)) h;
}

-- two stores at the front
front_two : (d : List Float) (a b : Float) → 2 ≤ length d → take 2 (set (set d 0 a) 1 b) ≡ a ∷ b ∷ []
front_two [] a b h = absurd (omega arith)
front_two (x ∷ []) a b h = absurd (omega arith)
front_two (x ∷ y ∷ d) a b h = refl

past_two : (d : List Float) (a b : Float) → drop 2 (set (set d 0 a) 1 b) ≡ drop 2 d
past_two [] a b = refl
past_two (x ∷ []) a b = refl
past_two (x ∷ y ∷ d) a b = refl

-- what the two stores leave
abbrev pub weighted : List Float → Float → List Float
weighted d a = set (set d 0 a) 1 one32

pub places : (g : ℕ) (d : List Float) (a : Float) → g + 5 ≤ length d → length (take (g + 5 - 2) (drop 2 (weighted d a))) ≡ g + 3
places g d a h =
    let m : g + 5 - 2 ≡ g + 3 = omega arith in
    length-take-le (g + 5 - 2) (drop 2 (weighted d a)) (simp (length-drop, length-set) (omega arith)) ∙ m

-- the edge is whole, where u is its first draw, and y the coefficients after k draws more
pub edge_filled : (g k : ℕ) (root : Float) (G r : SplitMix64) (u : Uniform) (d y : List Float) → g + 5 ≤ length d → k ≡ g + 3
    → u ≡ uniform_of G → Drawn u.next (take (g + 5 - 2) (drop 2 (weighted d (u.value ⊘ root)))) k y r
    → Filled (edge_initial g root G) (g + 5) (g + 4) G d (put_mid 2 (g + 5 - 2) (weighted d (u.value ⊘ root)) y) r
unfolding edge_initial
edge_filled g k root G r u d y h q p w =
    let after : u.next ≡ advanced_by 1 G = advanced_more 0 G G u (advanced_none G) p in
    let a = u.value ⊘ root in
    let e = weighted d a in
    let base : a ≡ draw_at G 0 ⊘ root = ap (λ (x : Float). x ⊘ root) (drawn 0 G G u (advanced_none G) p) in
    let coefficients : tabulate (coefficient_from u.next) k ≡ drop 2 (edge_initial g root G) =
    ap (tabulate (coefficient_from u.next)) q
    ∙ tab_ext _ _ (g + 3) (λ j l. ap (λ (x : Float). hundredth32 ⊗ x) (draw_after j G u.next after)) in
    let none : drop k (take (g + 5 - 2) (drop 2 e)) ≡ [] =
    drop_all k _ (le_of_eq (places g d a h ∙ sym q)) in
    let size : 2 + (g + 3) ≡ g + 5 = omega arith in
    let behind : drop (g + 5) e ≡ drop (g + 5) d =
    ap (λ (n : ℕ). drop n e) (sym size) ∙ sym (drop-drop (g + 3) 2 e) ∙ ap (drop (g + 3)) (past_two d a one32)
    ∙ drop-drop (g + 3) 2 d ∙ ap (λ (n : ℕ). drop n d) size in
    let draws : 1 + k ≡ g + 4 = omega arith in
    let two : 2 ≤ g + 5 = omega arith in
    let wide : 2 ≤ length d = omega arith in
    record {
      params = rw (Post-is 2 (g + 5) e two, w.coefficients, none, append-nil, front_two d a one32 wide, behind, base, coefficients);
      next = w.next ∙ rw (after, advanced_on, draws);
    }
