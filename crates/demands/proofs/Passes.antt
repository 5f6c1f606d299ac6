-- A row through the layers of two models that differ in silent coefficients: the same values, the same refusal. Assumes nothing.
use Prim.Native.Nat.{ℕ, zero, suc, ◌-◌, ◌≤◌, ◌<◌}
use native.Mathlib.Nat.{le_refl, eq-or-lt_of_le, le_of_suc-le-suc}
use native.Mathlib.Omega.{arith}
use mathlib.Core.Path.{◌≡◌, refl, sym, ap, ◌∙◌, subst}
use mathlib.Core.Logic.{inl, inr}
use mathlib.Core.Bool.{Bool, true, false, ◌&&◌}
use mathlib.Core.List.{List}
use lib.ListN.{length}
use lib.Ieee.{Float}
use Rattle.floats.specs.Sums.{all_to, all_finite}
use Rattle.layers.specs.Net.{Net, basis_at}
use Rattle.layers.specs.Widths.{width_at}
use Rattle.layers.specs.Layer.{layer_of}
use Rattle.passes.specs.Pass.{nodes_of, outputs_of, finite_after, nodes_finite, row_refusal}
use Rattle.batches.specs.Batch.{row_fault}
use Rattle.refusals.specs.Refusals.{◌otherwise◌, ◌then◌}
use Rattle.refusals.proofs.Firsts.{both_pass, test_passes}
use Rattle.passes.proofs.Passes.{nodes_length}
use Rattle.passes.proofs.Rows.{full}
use Rattle.demands.specs.Silent.{Places, Reaches, RowSilent}
use Rattle.demands.proofs.Tests.{past_checks, all_same}
use Rattle.demands.proofs.Layers.{LayerAlike, layer_same}
use Rattle.demands.proofs.Places.{Siblings, part_of, layer_alike}

-- what all layers pass, those before any one pass
all_less : (p : ℕ → Bool) (n : ℕ) → all_to p (suc n) ≡ true → all_to p n ≡ true
unfolding all_to
all_less p n e = go (all_to p n) e
  where
    go : (b : Bool) → (b && p n) ≡ true → b ≡ true
    go true e = refl
    go false e = e

pub all_before : (p : ℕ → Bool) (m n : ℕ) → m ≤ n → all_to p n ≡ true → all_to p m ≡ true
all_before p m zero h e = subst (λ (k : ℕ). all_to p k ≡ true) (none m h) e
  where
    none : (m : ℕ) → m ≤ 0 → 0 ≡ m
    none m h = omega arith
all_before p m (suc n) h e = elim (eq-or-lt_of_le h) [
  | inl q ↦ subst (λ (k : ℕ). all_to p k ≡ true) (sym q) e
  | inr l ↦ all_before p m n (le_of_suc-le-suc l) (all_less p n e)
]

module _ {N : Net} {ws : List ℕ} {D : Places} {ps qs : List Float} (two : Siblings N ws D ps qs) (xs : List Float) where
  module _ (wide : length xs ≡ width_at ws 0) (silent : RowSilent N ws D ps xs) where
    pub alike_at : (l : ℕ) → suc l < length ws → Reaches N ps ws xs l
        → LayerAlike (basis_at N l) (nodes_of N ps ws xs l) (width_at ws (suc l)) (part_of N ws ps l) (part_of N ws qs l)
    alike_at l inside reached = layer_alike two xs l silent inside reached (nodes_length N ps ws xs wide l)

    one_layer : (l : ℕ) → suc l < length ws → Reaches N ps ws xs l → nodes_of N ps ws xs l ≡ nodes_of N qs ws xs l
        → nodes_of N ps ws xs (suc l) ≡ nodes_of N qs ws xs (suc l)
    unfolding nodes_of
    one_layer l inside reached same =
        layer_same (basis_at N l) two.begins _ _ (nodes_of N ps ws xs l) (width_at ws (suc l)) (alike_at l inside reached)
        ∙ ap (λ (ns : List Float). layer_of (basis_at N l) (part_of N ws qs l) ns (width_at ws (suc l))) same

    -- the values that layer l reads
    pub nodes_same : (l : ℕ) → l ≤ length ws - 1 → Reaches N ps ws xs l → nodes_of N ps ws xs l ≡ nodes_of N qs ws xs l
    unfolding nodes_of
    nodes_same zero inside reached = refl
    nodes_same (suc l) inside reached =
        let before = all_less (finite_after N ps ws xs) l reached in
        one_layer l (omega arith) before (nodes_same l (omega arith) before)

    -- and it reads them in both or in none
    pub reached_same : (l : ℕ) → l ≤ length ws - 1 → all_to (finite_after N ps ws xs) l ≡ all_to (finite_after N qs ws xs) l
    reached_same l h =
        all_same (finite_after N ps ws xs) (finite_after N qs ws xs) l (λ j k reached.
        ap all_finite (one_layer j (omega arith) reached (nodes_same j (omega arith) reached)))

    pub finite_same : nodes_finite N ps ws xs ≡ nodes_finite N qs ws xs
    unfolding nodes_finite
    finite_same = reached_same (length ws - 1) (le_refl (length ws - 1))

    pub outputs_same : nodes_finite N ps ws xs ≡ true → outputs_of N ps ws xs ≡ outputs_of N qs ws xs
    unfolding nodes_finite
    outputs_same passed = nodes_same (length ws - 1) (le_refl (length ws - 1)) passed

  -- ---- the row's refusal, and its outputs where there is none
  module _ (silent : row_fault (width_at ws 0) 14 15 xs ≡ 0 → RowSilent N ws D ps xs) where
    pub refusal_same : row_refusal N ps ws xs ≡ row_refusal N qs ws xs
    unfolding row_refusal
    refusal_same =
        past_checks (row_fault (width_at ws 0) 14 15 xs) (λ n finite. n then finite otherwise 20) (λ m. refl) (λ sound.
        finite_same (full (width_at ws 0) xs sound) (silent sound))

    pub taken_outputs_same : row_refusal N ps ws xs ≡ 0 → outputs_of N ps ws xs ≡ outputs_of N qs ws xs
    unfolding row_refusal
    taken_outputs_same e =
        let both = both_pass (row_fault (width_at ws 0) 14 15 xs) _ e in
        outputs_same (full (width_at ws 0) xs both.0) (silent both.0) (test_passes (nodes_finite N ps ws xs) 19 both.1)
