-- The instance of demand 3: its premise computed, and its conclusion from demand 3 and the settled example. Assumes nothing.
use Prim.Native.Nat.{ℕ, zero, suc, ◌%◌, ◌≤◌, ◌<◌}
use native.Mathlib.Omega.{arith}
use mathlib.Core.Path.{◌≡◌, refl, sym, ap, ◌∙◌, subst}
use mathlib.Core.Logic.{◌⊎◌, inl, inr}
use mathlib.Core.Bool.{Bool, true, false, ◌||◌, true≢false}
use mathlib.Core.List.{List, [], ◌∷◌}
use lib.Dec.{T, eqb, eqb→eq, lit<, lit≤}
use lib.Seq.{ext_get_or}
use lib.Ieee.{Float, nan, binary32, fits, of_bits, round, add, sub, mul, div, neg, sum, eq, lt, le, of_int}
use Rattle.floats.specs.Binary32.{zero32, minus_zero32, one32}
use Rattle.floats.specs.Sums.{at, tabulate, all_to, all_finite, zeros}
use Rattle.spline.specs.Spline.{width_of, knot_of, portion_of, indicator_of, blend_of, cox_of, outside_of, value_of, rise_of, slope_of}
use Rattle.layers.specs.Net.{net_of}
use Rattle.passes.specs.Pass.{nodes_of}
use Rattle.batches.specs.Batch.{rows_in}
use Rattle.refusals.specs.Refusals.{Outcome, outcome_of}
use Rattle.refusals.proofs.Firsts.{not_refused}
use Rattle.layers.specs.Widths.{widths_to, params_to}
use Rattle.config.specs.Config.{unit_grid, carried_by}
use Rattle.admission.specs.Admission.{up_to9_in_training, swept}
use Rattle.training.specs.Train.{model_after}
use Rattle.demands.specs.Silent.{Differ, RowSilent}
use Rattle.demands.specs.Readings.{TrainReads}
use Rattle.demands.specs.Alike.{LeftAlike}
use Rattle.demands.proofs.Demand.{demand_3}
use Rattle.examples.specs.Starred.{bits, one_to_one, weighted, step_refusal, after_step}
use Rattle.examples.specs.Instance.{outer, changed, Instance}
use Rattle.examples.proofs.Starred.{starred}

-- ---- the two places
two_places : (p : ℕ) → outer p ≡ true → (p ≡ 2) ⊎ (p ≡ 6)
two_places p d = go (eqb p 2) refl (eqb p 6) refl d
  where
    go : (a : Bool) → eqb p 2 ≡ a → (b : Bool) → eqb p 6 ≡ b → (a || b) ≡ true → (p ≡ 2) ⊎ (p ≡ 6)
    go true e b f d = inl (eqb→eq p 2 (subst T (sym e) tt))
    go false e true f d = inr (eqb→eq p 6 (subst T (sym f) tt))
    go false e false f d = absurd (true≢false (sym d))

-- what holds at both holds at every place of the set
of_both : (P : ℕ → Type 0) → P 2 → P 6 → (p : ℕ) → outer p ≡ true → P p
of_both P first last p d = elim (two_places p d) [
  | inl e ↦ subst P (sym e) first
  | inr e ↦ subst P (sym e) last
]

-- two models with the same inner coefficients are the same elsewhere
inner_same : (a e a' e' b c d : Float) (p : ℕ) → outer p ≡ false
    → at (weighted (a ∷ b ∷ c ∷ d ∷ e ∷ [])) p ≡ at (weighted (a' ∷ b ∷ c ∷ d ∷ e' ∷ [])) p
inner_same a e a' e' b c d zero h = refl
inner_same a e a' e' b c d (suc zero) h = refl
inner_same a e a' e' b c d (suc (suc zero)) h = absurd (true≢false h)
inner_same a e a' e' b c d (suc (suc (suc zero))) h = refl
inner_same a e a' e' b c d (suc (suc (suc (suc zero)))) h = refl
inner_same a e a' e' b c d (suc (suc (suc (suc (suc zero))))) h = refl
inner_same a e a' e' b c d (suc (suc (suc (suc (suc (suc zero)))))) h = absurd (true≢false h)
inner_same a e a' e' b c d (suc (suc (suc (suc (suc (suc (suc p))))))) h = refl

differs : Differ 7 outer (weighted (zeros 5)) changed
unfolding tabulate all_finite all_to of_bits fits
differs =
    record {
      size = refl;
      finite = (refl, refl);
      within = of_both (λ p. p < 7) (lit< tt) (lit< tt);
      coefficient = of_both (λ p. 2 ≤ p % 7) (lit≤ tt) (lit≤ tt);
      others = inner_same zero32 zero32 (bits 0xc0f0_0000) minus_zero32 zero32 zero32 zero32;
      floats = of_both (λ p. T (fits binary32 (at (weighted (zeros 5)) p)) × T (fits binary32 (at changed p))) (tt, tt) (tt, tt);
    }

-- ---- what its one row reads
row_silent : RowSilent (net_of (unit_grid 2)) one_to_one outer (weighted (zeros 5)) (zero32 ∷ [])
unfolding params_to nodes_of value_of rise_of slope_of cox_of outside_of blend_of indicator_of portion_of knot_of width_of of_bits add sub mul div neg round sum
    of_int eq lt le
row_silent zero zero zero zero inside ol il kl d reached = (tt, tt)
row_silent zero zero zero (suc zero) inside ol il kl d reached = absurd (true≢false (sym d))
row_silent zero zero zero (suc (suc zero)) inside ol il kl d reached = absurd (true≢false (sym d))
row_silent zero zero zero (suc (suc (suc zero))) inside ol il kl d reached = absurd (true≢false (sym d))
row_silent zero zero zero (suc (suc (suc (suc zero)))) inside ol il kl d reached = (tt, tt)
row_silent zero zero zero (suc (suc (suc (suc (suc k))))) inside ol il kl d reached = absurd (omega arith)
row_silent zero zero (suc i) k inside ol il kl d reached = absurd (omega arith)
row_silent zero (suc o) i k inside ol il kl d reached = absurd (omega arith)
row_silent (suc l) o i k inside ol il kl d reached = absurd (omega arith)

reads : TrainReads (net_of (unit_grid 2)) one_to_one outer (weighted (zeros 5)) (zero32 ∷ []) (one32 ∷ []) (bits 0x3f00_0000) 1
unfolding model_after rows_in
reads zero h clear zero l before = row_silent
reads zero h clear (suc r) l before = absurd (omega arith)
reads (suc s) h clear r l before = absurd (omega arith)

-- ---- the step on both, lent 7 and 4 numbers
abbrev checks : ℕ
checks = up_to9_in_training one_to_one (unit_grid 2) 7 7 4

abbrev answer_of : List Float → Outcome
answer_of ms = outcome_of (step_refusal ms) (carried_by checks 7)

alike : (answer_of (weighted (zeros 5)) ≡ answer_of changed)
    × LeftAlike outer (weighted (zeros 5)) changed (after_step (weighted (zeros 5))) (after_step changed)
unfolding tabulate params_to widths_to
alike =
    let cleared = swept checks 7 (zeros 7) in
    let bare = swept checks 4 (zeros 4) in
    let both = (demand_3 one_to_one (unit_grid 2) outer (weighted (zeros 5)) changed differs).step (zero32 ∷ []) (one32 ∷ []) (bits 0x3f00_0000)
    (zeros 7) (zeros 4) (λ sound. reads) (answer_of (weighted (zeros 5))) (answer_of changed) (after_step (weighted (zeros 5))) cleared bare
    (after_step changed) cleared bare (record { answer = refl; leaves = record { model = refl; gradients = refl; work = refl } })
    (record { answer = refl; leaves = record { model = refl; gradients = refl; work = refl } }) in
    (both.0, both.1)

abbrev moved : List Float
moved = weighted (bits 0xc0f0_0000 ∷ bits 0x3e2a_aaab ∷ bits 0x3f2a_aaab ∷ bits 0x3e2a_aaab ∷ minus_zero32 ∷ [])

left_at : (p : ℕ) → at (after_step changed) p ≡ at moved p
left_at p = go (outer p) refl
  where
    go : (b : Bool) → outer p ≡ b → at (after_step changed) p ≡ at moved p
    go true d = (alike.1.kept p d).1 ∙ of_both (λ p. at changed p ≡ at moved p) refl refl p d
    go false d =
        sym (alike.1.others p d) ∙ ap (λ (ms : List Float). at ms p) starred.stepped
        ∙ inner_same zero32 zero32 (bits 0xc0f0_0000) minus_zero32 (bits 0x3e2a_aaab) (bits 0x3f2a_aaab) (bits 0x3e2a_aaab) p d

pub met : Instance
unfolding tabulate of_bits eq
met =
    record {
      apart = refl;
      differ = differs;
      reads = reads;
      taken = not_refused _ (carried_by checks 7) (sym alike.0 ∙ ap (λ (n : ℕ). outcome_of n (carried_by checks 7)) starred.accepted);
      left = ext_get_or nan (after_step changed) moved alike.1.sizes.1 (λ p h. left_at p);
    }
