-- The update of two models that differ in coefficients whose gradients are +0.0 or a NaN: 23 for both or for none, and each keeps its own
-- coefficients. Assumes nothing.
use Prim.Native.Nat.{ℕ, ◌≤◌, ◌<◌}
use mathlib.Core.Path.{◌≡◌, refl, sym, ap, ◌∙◌, subst}
use mathlib.Core.Logic.{◌⊎◌, inl, inr}
use mathlib.Core.Bool.{Bool, true, false, true≢false}
use mathlib.Core.List.{List}
use lib.Dec.{T}
use lib.ListN.{length}
use lib.Ieee.{Float, nan, binary32, fits}
use lib.Ieee.Bits.{is_true}
use lib.Ieee.Scale.{finite}
use lib.Ieee.Positive.{positive}
use Rattle.floats.specs.Binary32.{◌⊖◌, ◌⊗◌, zero32}
use Rattle.floats.specs.Sums.{at, all_to, all_finite}
use Rattle.floats.proofs.Sums.{update_zero, update_nan}
use Rattle.floats.proofs.Loops.{tab_length, all_each, all_table}
use Rattle.update.specs.Update.{moved_of}
use Rattle.update.specs.Calls.{moved_at}
use Rattle.demands.specs.Silent.{Places, Differ}
use Rattle.demands.specs.Alike.{LeftAlike}
use Rattle.demands.proofs.Tests.{all_same}
use Rattle.demands.proofs.Places.{within_second_lem, finite_both}
use Rattle.demands.proofs.Cells.{by_length, table_at, table_past}

-- ---- 23 is a test of each moved parameter
abbrev moved_finite : List Float → List Float → Float → ℕ → Bool
moved_finite ps gs rate i = finite (moved_at ps gs rate i)

each_moved : (ps gs : List Float) (rate : Float) → all_finite (moved_of ps gs rate) ≡ all_to (moved_finite ps gs rate) (length ps)
unfolding moved_of
each_moved ps gs rate = all_table (moved_at ps gs rate) (length ps)

module _ {per : ℕ} {D : Places} {ps qs : List Float} (differ : Differ per D ps qs) (gs : List Float) (rate : Float)
    (rates : T (positive rate)) (dead : (p : ℕ) → D p ≡ true → (at gs p ≡ zero32) ⊎ (at gs p ≡ nan)) where
  -- ---- one parameter
  abbrev Stay : ℕ → Type 0
  Stay p = (moved_at ps gs rate p ≡ at ps p) × (moved_at qs gs rate p ≡ at qs p)

  abbrev Lost : ℕ → Type 0
  Lost p = (moved_at ps gs rate p ≡ nan) × (moved_at qs gs rate p ≡ nan)

  set_moved : (p : ℕ) → D p ≡ true → Stay p ⊎ Lost p
  set_moved p d = elim (dead p d) [
    | inl e ↦ inl (
      update_zero (at ps p) rate (at gs p) (differ.floats p d).0 rates e,
      update_zero (at qs p) rate (at gs p) (differ.floats p d).1 rates e,
    )
    | inr e ↦ inr (update_nan (at ps p) rate (at gs p) e, update_nan (at qs p) rate (at gs p) e)
  ]

  other_moved : (p : ℕ) → D p ≡ false → moved_at ps gs rate p ≡ moved_at qs gs rate p
  other_moved p d = ap (λ (x : Float). x ⊖ (rate ⊗ at gs p)) (differ.others p d)

  -- ---- 23
  pub moves_same : all_finite (moved_of ps gs rate) ≡ all_finite (moved_of qs gs rate)
  moves_same =
      rw (each_moved ps gs rate, each_moved qs gs rate, ← differ.size)
      (all_same (moved_finite ps gs rate) (moved_finite qs gs rate) (length ps) (λ p h before. one p (D p) refl))
    where
      one : (p : ℕ) (b : Bool) → D p ≡ b → moved_finite ps gs rate p ≡ moved_finite qs gs rate p
      one p false d = ap finite (other_moved p d)
      one p true d = elim (set_moved p d) [
        | inl w ↦ ap finite w.0 ∙ is_true (finite (at ps p)) (finite_both differ p d).0
            ∙ sym (is_true (finite (at qs p)) (finite_both differ p d).1) ∙ sym (ap finite w.1)
        | inr w ↦ ap finite w.0 ∙ sym (ap finite w.1)
      ]

  -- ---- the models after an update that is not refused
  module _ (allowed : all_finite (moved_of ps gs rate) ≡ true) where
    stays : (p : ℕ) → D p ≡ true → Stay p
    stays p d = elim (set_moved p d) [
      | inl w ↦ w
      | inr w ↦ absurd (true≢false (sym (all_each _ _ (sym (each_moved ps gs rate) ∙ allowed) p (differ.within p d)) ∙ ap finite w.0))
    ]

    pub moved_left : LeftAlike D ps qs (moved_of ps gs rate) (moved_of qs gs rate)
    unfolding moved_of
    moved_left =
        let first = moved_at ps gs rate in
        let second = moved_at qs gs rate in
        record {
          sizes = (tab_length first (length ps), tab_length second (length qs));
          others = λ p d.
              by_length p (length ps)
              (λ h. table_at first (length ps) p h ∙ other_moved p d
              ∙ sym (table_at second (length qs) p (subst (λ (n : ℕ). p < n) differ.size h)))
              (λ h. table_past first (length ps) p h
              ∙ sym (table_past second (length qs) p (subst (λ (n : ℕ). n ≤ p) differ.size h)));
          kept = λ p d. (
            table_at first (length ps) p (differ.within p d) ∙ (stays p d).0,
            table_at second (length qs) p (within_second_lem differ p d) ∙ (stays p d).1,
          );
        }

    pub moved_differ : Differ per D (moved_of ps gs rate) (moved_of qs gs rate)
    moved_differ =
        record {
          size = moved_left.sizes.0 ∙ differ.size ∙ sym moved_left.sizes.1;
          finite = (allowed, sym moves_same ∙ allowed);
          within = λ p d. subst (λ (n : ℕ). p < n) (sym moved_left.sizes.0) (differ.within p d);
          coefficient = differ.coefficient;
          others = moved_left.others;
          floats = λ p d. (
            subst (λ (x : Float). T (fits binary32 x)) (sym (moved_left.kept p d).0) (differ.floats p d).0,
            subst (λ (x : Float). T (fits binary32 x)) (sym (moved_left.kept p d).1) (differ.floats p d).1,
          );
        }
