-- Where a layer's parameters stand in the flat model, and what two models that differ in silent coefficients have there. Assumes
-- nothing.
use Prim.Native.Nat.{ℕ, zero, suc, ◌+◌, ◌*◌, ◌%◌, ◌≤◌, ◌<◌}
use native.Mathlib.Nat.{mul_assoc, add-mul, add_assoc, zero-mul, mul-add-mod_self_right, mod-eq_of_lt}
use native.Mathlib.Omega.{arith}
use mathlib.Core.Path.{◌≡◌, refl, sym, ap, ◌∙◌, subst}
use mathlib.Core.Logic.{inl, inr}
use mathlib.Core.Bool.{Bool, true, false}
use mathlib.Core.List.{List}
use lib.Dec.{T}
use lib.ListN.{length, drop}
use lib.Seq.{get_or-drop}
use lib.Ieee.{Float, nan}
use lib.Ieee.Scale.{finite}
use Rattle.floats.specs.Sums.{at, all_finite}
use Rattle.floats.specs.Zeros.{is_zero}
use Rattle.floats.proofs.Loops.{all_each}
use Rattle.floats.proofs.Sums.{Plain, Swap}
use Rattle.layers.specs.Net.{Net, basis_at}
use Rattle.layers.specs.Widths.{width_at, layer_size, params_to}
use Rattle.passes.specs.Pass.{nodes_of}
use Rattle.demands.specs.Silent.{Places, place_of, Differ, Reaches, RowSilent}
use Rattle.demands.proofs.Layers.{LayerAlike}

-- ---- a layer's first parameter is an edge's first
edges : (per : ℕ) (ws : List ℕ) (l : ℕ) → (e : ℕ) × (params_to per ws l ≡ e * per)
unfolding params_to
edges per ws zero = (0, sym (zero-mul per))
edges per ws (suc l) =
    let before = edges per ws l in
    let here = width_at ws (l + 1) * width_at ws l in (
      before.0 + here,
      ap (λ (n : ℕ). n + layer_size per ws l) before.1
          ∙ ap (λ (n : ℕ). before.0 * per + n) (sym (mul_assoc (width_at ws (l + 1)) (width_at ws l) per))
          ∙ sym (add-mul before.0 here per),
    )

-- so a place's slot in its edge is its rest by the edge's size
pub slot_of : (per : ℕ) (ws : List ℕ) (l o i s : ℕ) → s < per → place_of per ws l o i s % per ≡ s
slot_of per ws l o i s h =
    let e = edges per ws l in
    ap (λ (n : ℕ). n % per) (join e.0 e.1) ∙ mul-add-mod_self_right (e.0 + (o * width_at ws l + i)) per s ∙ mod-eq_of_lt h
  where
    join : (e : ℕ) → params_to per ws l ≡ e * per → place_of per ws l o i s ≡ (e + (o * width_at ws l + i)) * per + s
    join e p =
        let split : (e + (o * width_at ws l + i)) * per ≡ e * per + (o * (width_at ws l * per) + i * per) =
        add-mul e (o * width_at ws l + i) per ∙ ap (λ (n : ℕ). e * per + n) (add-mul (o * width_at ws l) i per
        ∙ ap (λ (n : ℕ). n + i * per) (mul_assoc o (width_at ws l) per)) in
        rw split (ap (λ (n : ℕ). n + (o * (width_at ws l * per) + (i * per + s))) p
        ∙ ap (λ (n : ℕ). e * per + n) (sym (add_assoc (o * (width_at ws l * per)) (i * per) s))
        ∙ sym (add_assoc (e * per) (o * (width_at ws l * per) + i * per) s))

-- ---- the part of the model that begins at layer l's first edge
abbrev pub part_of : Net → List ℕ → List Float → ℕ → List Float
part_of N ws ps l = drop (params_to N.stride ws l) ps

-- an edge's parameter s, as the layer has it, is the model's at its place
pub at_place : (per : ℕ) (ws : List ℕ) (l o i s w : ℕ) (ps : List Float) → w ≡ width_at ws l
    → at (drop (i * per) (drop (o * (w * per)) (drop (params_to per ws l) ps))) s ≡ at ps (place_of per ws l o i s)
at_place per ws l o i s w ps e =
    let one = drop (params_to per ws l) ps in
    get_or-drop (i * per) (drop (o * (w * per)) one) s nan ∙ get_or-drop (o * (w * per)) one (i * per + s) nan
    ∙ get_or-drop (params_to per ws l) ps (o * (w * per) + (i * per + s)) nan
    ∙ ap (λ (n : ℕ). at ps (params_to per ws l + (o * (n * per) + (i * per + s)))) e

pub at_coefficient : (per : ℕ) (ws : List ℕ) (l o i k w : ℕ) (ps : List Float) → w ≡ width_at ws l
    → at (drop 2 (drop (i * per) (drop (o * (w * per)) (drop (params_to per ws l) ps)))) k ≡ at ps (place_of per ws l o i (2 + k))
at_coefficient per ws l o i k w ps e =
    get_or-drop 2 (drop (i * per) (drop (o * (w * per)) (drop (params_to per ws l) ps))) k nan ∙ at_place per ws l o i (2 + k) w ps e

-- ---- two models
pub finite_at : (ps : List Float) (p : ℕ) → all_finite ps ≡ true → p < length ps → T (finite (at ps p))
unfolding all_finite
finite_at ps p h l = subst T (sym (all_each _ (length ps) h p l)) tt

module _ {per : ℕ} {D : Places} {ps qs : List Float} (differ : Differ per D ps qs) where
  pub within_second_lem : (p : ℕ) → D p ≡ true → p < length qs
  within_second_lem p d = subst (λ (n : ℕ). p < n) differ.size (differ.within p d)

  pub finite_both : (p : ℕ) → D p ≡ true → T (finite (at ps p)) × T (finite (at qs p))
  finite_both p d =
      (finite_at ps p differ.finite.0 (differ.within p d), finite_at qs p differ.finite.1 (within_second_lem p d))

  -- a coefficient whose basis value, or slope, is zero if it is of the set
  swap_at : (p : ℕ) (b : Float) → (D p ≡ true → T (is_zero b)) → Swap b (at ps p) (at qs p)
  swap_at p b h = go (D p) refl
    where
      go : (d : Bool) → D p ≡ d → Swap b (at ps p) (at qs p)
      go false d = inl (differ.others p d)
      go true d = inr (h d, (finite_both p d).0, (finite_both p d).1)

-- over a network whose `dot` does not start at -0.0 and whose edges are two weights and the coefficients
pub record Siblings (N : Net) (ws : List ℕ) (D : Places) (ps qs : List Float) : Type 0 where
  pub begins : Plain N.start
  pub edge : N.stride ≡ 2 + N.coefficients
  pub differ : Differ N.stride D ps qs

module _ {N : Net} {ws : List ℕ} {D : Places} {ps qs : List Float} (two : Siblings N ws D ps qs) where
  -- the weights are no coefficients
  pub no_weight : (l o i s : ℕ) → s < 2 → D (place_of N.stride ws l o i s) ≡ true → ⊥
  no_weight l o i s h d =
      clash (slot_of N.stride ws l o i s (small two.edge)) (two.differ.coefficient (place_of N.stride ws l o i s) d)
    where
      small : {n : ℕ} → n ≡ 2 + N.coefficients → s < n
      small e = omega arith

      clash : {n : ℕ} → n ≡ s → 2 ≤ n → ⊥
      clash e k = omega arith

  weight_same : (l o i s : ℕ) → s < 2 → at ps (place_of N.stride ws l o i s) ≡ at qs (place_of N.stride ws l o i s)
  weight_same l o i s h = go (D (place_of N.stride ws l o i s)) refl
    where
      go : (b : Bool) → D (place_of N.stride ws l o i s) ≡ b
          → at ps (place_of N.stride ws l o i s) ≡ at qs (place_of N.stride ws l o i s)
      go false d = two.differ.others (place_of N.stride ws l o i s) d
      go true d = absurd (no_weight l o i s h d)

  -- layer l, at the row's numbers there
  pub layer_alike : (xs : List Float) (l : ℕ) → RowSilent N ws D ps xs → suc l < length ws → Reaches N ps ws xs l
      → length (nodes_of N ps ws xs l) ≡ width_at ws l
      → LayerAlike (basis_at N l) (nodes_of N ps ws xs l) (width_at ws (suc l)) (part_of N ws ps l) (part_of N ws qs l)
  layer_alike xs l silent inside reached wide o i ol il =
      let read = nodes_of N ps ws xs l in
      let narrow : i < width_at ws l = subst (λ (n : ℕ). i < n) wide il in
      let place = place_of N.stride ws l o i in
      let weight : (s : ℕ) (ms : List Float) → _ = λ s ms. at_place N.stride ws l o i s (length read) ms wide in
      let coefficient : (k : ℕ) (ms : List Float) → _ = λ k ms. at_coefficient N.stride ws l o i k (length read) ms wide in
      let zeros : (k : ℕ) → k < N.coefficients → D (place (2 + k)) ≡ true → _ = λ k kl d. silent l o i k inside ol narrow kl d reached in
      record {
        base = weight 0 ps ∙ weight_same l o i 0 (omega arith) ∙ sym (weight 0 qs);
        weight = weight 1 ps ∙ weight_same l o i 1 (omega arith) ∙ sym (weight 1 qs);
        values = λ k kl.
            rw (coefficient k ps, coefficient k qs) (swap_at two.differ (place (2 + k)) ((N.curve l).value k (at read i)) (λ d. (zeros k kl d).0));
        slopes = λ k kl.
            rw (coefficient k ps, coefficient k qs) (swap_at two.differ (place (2 + k)) ((N.curve l).slope k (at read i)) (λ d. (zeros k kl d).1));
      }
