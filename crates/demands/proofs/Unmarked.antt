-- What an accepted map shows: the coefficients that it marks 0 meet the premise of demand 3 for a prediction, a loss and a single
-- step of training, and so demand 3's conclusion holds of them. Assumes nothing.
use Rattle.std.specs.Prelude.{Ok}
use Prim.Native.Nat.{ℕ, zero, suc, ◌+◌, ◌*◌, ◌/◌, ◌%◌, ◌<◌}
use native.Mathlib.Nat.{le_of_eq, zero-mul, div-add-mod'}
use native.Mathlib.Omega.{arith}
use mathlib.Core.Path.{◌≡◌, refl, sym, ◌∙◌, subst}
use mathlib.Core.Bool.{Bool, true, false, cond}
use mathlib.Core.List.{List}
use lib.Dec.{eqb}
use lib.ListN.{length}
use lib.Seq.{take_all}
use lib.Ieee.{Float}
use borrow.Author.Tests.{eqb-true}
use Rattle.refusals.proofs.Firsts.{both_pass, first_clear, not_refused}
use Rattle.spline.specs.declared.Grid.{Grid}
use Rattle.layers.specs.Net.{Net, net_of}
use Rattle.layers.specs.Widths.{input_width, parameters_in}
use Rattle.batches.specs.Batch.{rows_in, row_at, row_fault}
use Rattle.passes.specs.Pass.{rows_of, row_refusal, rows_refusal}
use Rattle.passes.proofs.Rows.{full}
use Rattle.passes.proofs.Past9.{fitted}
use Rattle.passes.proofs.EachRow.{wide_rows}
use Rattle.training.specs.Train.{model_after}
use Rattle.visit_map.specs.Visits.{marks_of, map_up_to11, visit_refusal, visit_marks, Visited}
use Rattle.visit_map.proofs.Calls.{past11}
use Rattle.demands.specs.Silent.{Places, Differ, RowSilent}
use Rattle.demands.specs.Readings.{TrainReads}
use Rattle.demands.specs.Unmarked.{unmarked, SilentIn, AnsweredAlike, Unmarked}
use Rattle.demands.proofs.Visiting.{visit_same}
use Rattle.demands.proofs.Marked.{row_silent}
use Rattle.demands.proofs.Demand.{demand_3}

-- ---- a row of all numbers is the first of a batch
some_row : (n w : ℕ) → 0 < n → 0 < rows_in n w
unfolding rows_in
some_row n w h = go (eqb (n % w) 0) refl (n / w) refl
  where
    go : (b : Bool) → eqb (n % w) 0 ≡ b → (q : ℕ) → n / w ≡ q → 0 < q + cond b 0 1
    go false e q p = omega arith
    go true e (suc q) p = omega arith
    go true e zero p =
        let none : n / w * w ≡ 0 = rw p (zero-mul w) in
        absurd (omega (arith, none, eqb-true (n % w) 0 e, div-add-mod' n w))

first_row : (w : ℕ) (xs : List Float) → length xs ≡ w → row_at xs w 0 ≡ xs
first_row w xs e = rw (zero-mul w) (take_all w xs (le_of_eq e))

-- ---- an accepted call: no check refuses it and no row, and it leaves the marks of all rows
module _ (ws : List ℕ) (g : Grid) (ps xs a b : List Float) (ms : List ℕ) (a' b' : List Float) (ms' : List ℕ)
    (v : Visited (net_of g) ws g ps xs a b ms (Ok tt) a' b' ms') where
  abbrev N : Net
  N = net_of g

  abbrev checks : ℕ
  checks = map_up_to11 ws g ps (length a) (length b) (length ms)

  abbrev P : ℕ
  P = parameters_in (g.intervals + 5) ws

  passed : (checks ≡ 0) × (rows_refusal N ps ws xs ≡ 0)
  unfolding visit_refusal
  passed = both_pass checks _ (not_refused (visit_refusal N ws g ps xs a b ms) _ (sym v.answer))

  left : ms' ≡ marks_of N ps ws xs (rows_of ws xs) P
  unfolding visit_marks
  left = v.map ∙ rw (passed.0, passed.1)

  abbrev D : Places
  D = unmarked (g.intervals + 5) ms'

  -- every row of the batch
  each_row : (r : ℕ) → r < rows_of ws xs → RowSilent N ws D ps (row_at xs (input_width ws) r)
  unfolding row_refusal
  each_row r h =
      let row = row_at xs (input_width ws) r in
      let sound = (both_pass (row_fault (input_width ws) 14 15 row) _ (first_clear _ (rows_of ws xs) passed.1 r h)).0 in
      subst (λ (map : List ℕ). RowSilent N ws (unmarked (g.intervals + 5) map) ps row) (sym left)
      (row_silent g ps ws xs (rows_of ws xs) P r h (full (input_width ws) row sound))

  -- all of it as one row: then it is the only one
  whole_row : row_fault (input_width ws) 14 15 xs ≡ 0 → RowSilent N ws D ps xs
  whole_row sound =
      let wide = full (input_width ws) xs sound in
      let some = (wide_rows (fitted ws g ps a b (past11 ws g ps _ _ _ passed.0).work)).0 in
      subst (λ (row : List Float). RowSilent N ws D ps row) (first_row (input_width ws) xs wide)
      (each_row 0 (some_row (length xs) (input_width ws) (rw wide some)))

  -- one step reads the rows on the model as it was
  one_step : (ts : List Float) (rate : Float) → TrainReads N ws D ps xs ts rate 1
  unfolding model_after
  one_step ts rate zero h clear r l before = each_row r l
  one_step ts rate (suc s) h clear r l before = absurd (omega arith)

  silent : SilentIn N ws D ps xs
  silent =
      record {
        forward = whole_row;
        forward_row = λ r h sound. each_row r h;
        predict = λ r h clear sound. each_row r h;
        loss = λ ts r h clear. each_row r h;
        step = one_step;
      }

  alike : (qs : List Float) → Differ (g.intervals + 5) D ps qs → AnsweredAlike N ws g D ps qs xs
  alike qs differ =
      let both = demand_3 ws g D ps qs differ in
      record {
        forward = λ a b. both.forward xs a b (λ z. whole_row);
        forward_row = λ r h a b. both.forward (row_at xs (input_width ws) r) a b (λ z sound. each_row r h);
        predict = λ a b ys. both.predict xs a b ys (λ z. silent.predict);
        visit = visit_same ws g D ps qs differ xs silent.predict;
        loss = λ ts a b. both.loss xs ts a b (λ z. silent.loss ts);
        step = λ ts rate gs W. both.step xs ts rate gs W (λ z. one_step ts rate);
      }

pub map_shows : (ws : List ℕ) (g : Grid) (ps xs : List Float) → Unmarked ws g ps xs
map_shows ws g ps xs a b ms a' b' ms' v =
    record { silent = silent ws g ps xs a b ms a' b' ms' v; alike = alike ws g ps xs a b ms a' b' ms' v }
