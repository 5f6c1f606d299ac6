-- A call on one layer, by the check that it reaches: its answer, and what it leaves in memory. Assumes nothing.
use Rattle.std.specs.Prelude.{Err, Ok}
use Prim.Native.Nat.{ℕ, zero, suc, ◌-◌}
use mathlib.Core.Path.{◌≡◌, refl, sym, ◌∙◌}
use mathlib.Core.Bool.{Bool, true, false}
use mathlib.Core.List.{List}
use lib.Dec.{ltb}
use lib.ListN.{length}
use Rattle.refusals.specs.Refusals.{Outcome, ◌otherwise◌, ◌then◌, past, outcome_of}
use Rattle.refusals.specs.declared.Refusal.{Refusal}
use Rattle.refusals.proofs.Firsts.{then_first, past_stopped}
use Rattle.spline.specs.declared.Grid.{Grid}
use Rattle.config.specs.Config.{parameters_for, sizes_of, checked_of, carried_by}
use Rattle.config.proofs.Answers.{rejected}
use Rattle.admission.specs.Admission.{up_to8}
use Rattle.layer_coefficients.specs.Coefficients.{up_to37}

-- an outcome, and what is left where `old` was and `new` would be written
pub record Answered {A : Type 0} (fault carried : ℕ) (new old : A) (o : Outcome) (left : A) : Type 0 where
  pub answer : o ≡ outcome_of fault carried
  pub memory : left ≡ past fault new old

-- 37 and what follows it carry nothing
carries_none : (b : Bool) (rest total : ℕ) → ((b otherwise 37 then rest) ≡ 0 → ⊥)
    → Err (record { number = (b otherwise 37 then rest); carried = 0 })
    ≡ outcome_of (b otherwise 37 then rest) (carried_by (b otherwise 37) total)
carries_none true zero total h = absurd (h refl)
carries_none true (suc n) total h = refl
carries_none false rest total h = refl

module _ {A : Type 0} (ws : List ℕ) (g : Grid) (model l rest : ℕ) (new old : A) where
  -- the configuration, 8, 37, and then the rest
  abbrev Told : Outcome → A → Type 0
  Told o left =
      Answered (up_to37 ws g model l then rest) (carried_by (up_to37 ws g model l) (parameters_for ws g)) new old o left

  pub refused_to_8 : (r : Refusal) → checked_of (up_to8 ws g model) (sizes_of ws g) ≡ Err r → Told (Err r) old
  unfolding up_to37
  refused_to_8 r e =
      let j = rejected (up_to8 ws g model) (sizes_of ws g) r e in
      let there = then_first (up_to8 ws g model) (ltb l (length ws - 1) otherwise 37) j.stopped in
      let last = then_first (up_to8 ws g model) rest j.stopped in
      record {
        answer = rw (← there, ← last) j.outcome;
        memory = rw (← there, ← last) (sym (past_stopped _ new old j.stopped));
      }

  module _ (p : up_to8 ws g model ≡ 0) (r : ℕ) (left : A) (e : r ≡ (ltb l (length ws - 1) otherwise 37 then rest))
      (m : left ≡ past r new old) where
    pub done : r ≡ 0 → Told (Ok tt) left
    unfolding up_to37
    done z = record { answer = rw (p, ← e, z); memory = rw (p, ← e) m }

    pub stopped : (r ≡ 0 → ⊥) → Told (Err (record { number = r; carried = 0 })) left
    unfolding up_to37
    stopped h = record {
      answer = rw (p, e) (carries_none (ltb l (length ws - 1)) rest (parameters_for ws g) (λ z. h (e ∙ z)));
      memory = rw (p, ← e) m;
    }
