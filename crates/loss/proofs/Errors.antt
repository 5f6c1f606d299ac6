-- A running sum that stops at the first fault: one term more, a stop and the end; the errors of a row, and of the rows.
-- Assumes nothing.
use Rattle.std.specs.Prelude.{Err, Ok}
use Rattle.std.specs.declared.result.Result.{Result}
use mathlib.Core.Path.{◌≡◌, refl, sym, ap, ◌∙◌}
use mathlib.Core.List.{List}
use Prim.Native.Nat.{ℕ, zero, suc, ◌+◌, ◌-◌, ◌≤◌, ◌<◌}
use native.Mathlib.Numerals.{add-one}
use native.Mathlib.Omega.{arith}
use lib.ListN.{length, take, get_or}
use lib.Ieee.{Float, nan}
use Rattle.floats.specs.Binary32.{zero32}
use Rattle.floats.specs.Sums.{sum_from}
use Rattle.refusals.specs.declared.Refusal.{Refusal}
use Rattle.refusals.specs.Refusals.{◌otherwise◌, ◌then◌, first_to, Outcome, outcome_of}
use Rattle.refusals.proofs.Firsts.{first_none, first_more, first_stop, not_refused}
use Rattle.spline.specs.declared.Grid.{Grid}
use Rattle.layers.specs.Net.{Net}
use Rattle.layers.specs.Widths.{input_width, output_width}
use Rattle.batches.specs.Batch.{row_at}
use Rattle.batches.specs.Sound.{row_fault_at}
use Rattle.passes.specs.Pass.{nodes_finite, row_refusal, rows_of}
use Rattle.passes.specs.Turns.{holder}
use Rattle.passes.proofs.Passes.{Kept}
use Rattle.passes.proofs.EachRow.{AtRow, RanRow}
use Rattle.loss.specs.Loss.{squared, sum_after, loss_row_fault}
use Rattle.loss.specs.Steps.{sum_of, added_to, error_in, error_fault, errors_to, Summable, RowsSummed}

-- ---- what a sum tells that was matched on
pub summed : (n : ℕ) (s z : Float) → sum_of n s ≡ Ok z → (n ≡ 0) × (s ≡ z)
summed zero s z e = (refl, cc)
summed (suc n) s z e = let no : ◌≡◌ {A = ℕ} 0 1 = cc in absurd (omega arith)

pub stopped : (n : ℕ) (s : Float) (r : Refusal) → sum_of n s ≡ Err r → n ≡ 0 → ⊥
stopped zero s r e = let no : ◌≡◌ {A = ℕ} 0 1 = cc in absurd (omega arith)
stopped (suc n) s r e = λ (z : suc n ≡ 0). omega arith

-- whatever the sum would be
pub stops : (n : ℕ) (s z : Float) (r : Refusal) → sum_of n s ≡ Err r → Err r ≡ sum_of n z
stops zero s z r e = cc
stops (suc n) s z r e = sym e

-- a row's own refusal is the first
pub stops_row : (n m : ℕ) (s : Float) (r : Refusal) → outcome_of n 0 ≡ Err r → sum_of (n then m) s ≡ Err r
stops_row zero m s r e = let no : ◌≡◌ {A = ℕ} 0 1 = cc in absurd (omega arith)
stops_row (suc n) m s r e = cc

-- ---- i terms are added, none of which has a fault: f i is the fault of term i, and s i the sum of the terms before it
pub record Running (f : ℕ → ℕ) (s : ℕ → Float) (i : ℕ) (z : Float) : Type 0 where
  pub sound : first_to f i ≡ 0
  pub value : z ≡ s i

module _ {f : ℕ → ℕ} {s : ℕ → Float} where
  pub none_added : (z : Float) → z ≡ s 0 → Running f s 0 z
  none_added z e = record { sound = first_none f; value = e }

  -- term i was added, or it has a fault
  pub one_added : {i : ℕ} {z z' : Float} → Running f s i z → sum_of (f i) (s (suc i)) ≡ Ok z' → Running f s (i + 1) z'
  one_added {i} {z' = z'} t e =
      let k = summed (f i) (s (suc i)) z' e in
      record { sound = first_more f i t.sound k.0; value = sym k.1 ∙ ap s (sym (add-one i)) }

  pub stop_added : {i : ℕ} {z : Float} {e : Refusal} (n : ℕ) → i < n → Running f s i z → sum_of (f i) (s (suc i)) ≡ Err e
      → Err e ≡ sum_of (first_to f n) (s n)
  stop_added {i} {e = e} n h t q =
      let first : first_to f n ≡ f i = first_stop f i n h t.sound (stopped (f i) (s (suc i)) e q) in
      rw first (stops (f i) (s (suc i)) (s n) e q)

  pub all_added_lem : {i : ℕ} {z : Float} (n : ℕ) → i ≡ n → Running f s i z → Ok z ≡ sum_of (first_to f n) (s n)
  all_added_lem n e t =
      let sound : first_to f n ≡ 0 = rw (← e) t.sound in
      ap Ok (t.value ∙ ap s e) ∙ sym (rw sound)

-- ---- output i of a row, from the sum of the outputs before it
abbrev pub after_output : Float → List Float → List Float → ℕ → Result Float Refusal
after_output sum os ts i = sum_of (error_fault sum os ts i) (sum_from sum (error_in os ts) (suc i))

pub output_added : (sum total : Float) (os ts : List Float) (i : ℕ) → total ≡ sum_from sum (error_in os ts) i
    → added_to total (error_in os ts i) ≡ after_output sum os ts i
unfolding sum_from
output_added sum total os ts i e = rw e

-- an output o and its target t, the i-th of each, after i errors
pub pair_added : (sum total o t : Float) (os ts : List Float) (i : ℕ) {r : Result Float Refusal}
    → Running (error_fault sum os ts) (sum_from sum (error_in os ts)) i total
    → ((d : Float) → o ≡ get_or os i d) → ((d : Float) → t ≡ get_or ts i d) → r ≡ added_to total (squared o t)
    → r ≡ after_output sum os ts i
pair_added sum total o t os ts i k p q e =
    e ∙ ap (λ (x : Float). added_to total x) (rw (p nan, q nan)) ∙ output_added sum total os ts i k.value

-- ---- row r of a sound batch, run with the answer k after the sum z: 20, or its outputs
abbrev pub after_row : Net → List Float → List ℕ → List Float → List Float → ℕ → Result Float Refusal
after_row N ps ws xs ts r = sum_of (loss_row_fault N ps ws xs ts r) (sum_after N ps ws xs ts (suc r))

module _ {N : Net} {ps : List Float} {ws : List ℕ} {xs a₀ b₀ : List Float} {r : ℕ} {k : Outcome} {a b : List Float}
    (ts : List Float) (sound : row_fault_at (input_width ws) 14 15 xs r ≡ 0) (ran : RanRow N ps ws xs a₀ b₀ r a b k) where
  only_20 : k ≡ outcome_of (nodes_finite N ps ws (row_at xs (input_width ws) r) otherwise 20) 0
  unfolding row_refusal
  only_20 = rw sound at ran.refusal

  pub row_stops : {e : Refusal} → k ≡ Err e → after_row N ps ws xs ts r ≡ Err e
  row_stops {e} p = stops_row _ _ _ e (sym only_20 ∙ p)

  pub row_added : {z : Float} → z ≡ sum_after N ps ws xs ts r → k ≡ Ok tt
      → errors_to z (take (output_width ws) (holder (length ws - 1) a b)) (row_at ts (output_width ws) r) (output_width ws)
      ≡ after_row N ps ws xs ts r
  unfolding errors_to sum_after
  row_added e p = rw (e, ran.outputs p, not_refused _ 0 (sym only_20 ∙ p))

-- ---- where the rows stand before row r
pub record Adding (N : Net) (ps : List Float) (ws : List ℕ) (xs ts a₀ b₀ : List Float) (rows r : ℕ) (z : Float)
    (a b : List Float) : Type 0 where
  pub bound : r ≤ rows
  pub running : Running (loss_row_fault N ps ws xs ts) (sum_after N ps ws xs ts) r z
  pub kept : Kept ws a₀ b₀ a b

-- what is known before a row that is there
pub before_row : {g : Grid} {N : Net} {ps : List Float} {ws : List ℕ} {xs ts a₀ b₀ : List Float} {rows r : ℕ} {z : Float}
    {a b : List Float} → Summable g ps ws xs ts a₀ b₀ rows → r < rows → Adding N ps ws xs ts a₀ b₀ rows r z a b
    → AtRow g ps ws xs a₀ b₀ r a b
before_row p h k = record { fits = p.fits; finite = p.finite; more = rw p.count at h; kept = k.kept }

pub none_summed : (N : Net) (ps : List Float) (ws : List ℕ) (xs ts : List Float)
    → Running (loss_row_fault N ps ws xs ts) (sum_after N ps ws xs ts) 0 zero32
unfolding sum_after
none_summed N ps ws xs ts = none_added zero32 refl

module _ {N : Net} {ps : List Float} {ws : List ℕ} {xs ts a₀ b₀ a b : List Float} (kept : Kept ws a₀ b₀ a b) where
  pub rows_summed : {r : Result Float Refusal}
      → r ≡ sum_of (first_to (loss_row_fault N ps ws xs ts) (rows_of ws xs)) (sum_after N ps ws xs ts (rows_of ws xs))
      → RowsSummed N ps ws xs ts a₀ b₀ r a b
  rows_summed e = record { answer = e; first = kept.first; second = kept.second }
