-- One call of `apply` on two models that differ in coefficients whose gradients are +0.0 or a NaN: the same answer, and two such
-- models again. Assumes nothing.
use Prim.Native.Nat.{ℕ, zero, suc, ◌+◌}
use mathlib.Core.Path.{◌≡◌, refl}
use mathlib.Core.Bool.{true}
use mathlib.Core.List.{List}
use lib.Dec.{eqb}
use lib.ListN.{length}
use lib.Ieee.{Float}
use Rattle.floats.specs.Sums.{at, all_finite}
use Rattle.refusals.specs.Refusals.{◌otherwise◌, ◌then◌, past, outcome_of}
use Rattle.refusals.proofs.Firsts.{both_pass, test_passes}
use Rattle.spline.specs.declared.Grid.{Grid}
use Rattle.config.specs.Config.{parameters_for, carried_by}
use Rattle.admission.specs.Admission.{up_to8}
use Rattle.update.specs.Update.{rate_sound, moved_of}
use Rattle.demands.specs.Silent.{Places, Differ}
use Rattle.demands.specs.Alike.{LeftAlike}
use Rattle.demands.proofs.Tests.{past_test}
use Rattle.demands.proofs.Rates.{rate_positive}
use Rattle.demands.proofs.Moves.{moves_same, moved_left, moved_differ}
use Rattle.demands.proofs.Gathered.{Still}
use Rattle.demands.proofs.Training.{left_none}
use Rattle.split_training.specs.Applying.{from10_to23, apply_fault}

-- how the two models stand to each other afterwards
abbrev pub Again : ℕ → Places → List Float → List Float → List Float → List Float → Type 0
Again per D ps qs ps' qs' = LeftAlike D ps qs ps' qs' × Differ per D ps' qs'

module _ (ws : List ℕ) (g : Grid) {D : Places} {ps qs : List Float} (differ : Differ (g.intervals + 5) D ps qs) (gs : List Float)
    (still : (p : ℕ) → D p ≡ true → Still (at gs p)) (rate : Float) where
  abbrev P : ℕ
  P = parameters_for ws g

  apply_same : apply_fault ws g ps gs rate ≡ apply_fault ws g qs gs rate
  unfolding apply_fault from10_to23
  apply_same =
      rw (differ.finite.0, differ.finite.1, ← differ.size) (past_test (rate_sound rate)
      (λ b moves. up_to8 ws g (length ps) then eqb (length gs) P otherwise 10 then b otherwise 19 then moves otherwise 23) refl
      (λ sound. moves_same differ gs rate (rate_positive rate sound) still))

  moved : apply_fault ws g ps gs rate ≡ 0 → (rate_sound rate ≡ true) × (all_finite (moved_of ps gs rate) ≡ true)
  unfolding apply_fault from10_to23
  moved clear =
      let after8 = (both_pass (up_to8 ws g (length ps)) _ clear).1 in
      let after10 = (both_pass (eqb (length gs) P otherwise 10) _ after8).1 in
      let after11 = (both_pass (all_finite ps otherwise 11) _ after10).1 in
      let both = both_pass (rate_sound rate otherwise 19) _ after11 in
      (test_passes _ 18 both.0, test_passes _ 22 both.1)

  pub models_left : Again (g.intervals + 5) D ps qs (past (apply_fault ws g ps gs rate) (moved_of ps gs rate) ps)
      (past (apply_fault ws g qs gs rate) (moved_of qs gs rate) qs)
  models_left = rw (← apply_same) (go (apply_fault ws g ps gs rate) moved)
    where
      go : (n : ℕ) → (n ≡ 0 → (rate_sound rate ≡ true) × (all_finite (moved_of ps gs rate) ≡ true))
          → Again (g.intervals + 5) D ps qs (past n (moved_of ps gs rate) ps) (past n (moved_of qs gs rate) qs)
      go zero z =
          let rates = rate_positive rate (z refl).0 in
          (moved_left differ gs rate rates still (z refl).1, moved_differ differ gs rate rates still (z refl).1)
      go (suc n) z = (left_none differ, differ)

  pub apply_answered : outcome_of (apply_fault ws g ps gs rate) (carried_by (up_to8 ws g (length ps)) P)
      ≡ outcome_of (apply_fault ws g qs gs rate) (carried_by (up_to8 ws g (length qs)) P)
  apply_answered = rw (apply_same, ← differ.size)
