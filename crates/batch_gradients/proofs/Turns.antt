-- A batch row by row: what holds after some of its rows, and after one more. Assumes nothing.
use Rattle.std.specs.Prelude.{Ok}
use mathlib.Core.Path.{◌≡◌, refl, sym, ap, ◌∙◌}
use mathlib.Core.Bool.{Bool, true, false, false≢true, cond, ◌||◌}
use mathlib.Core.List.{List}
use Prim.Native.Nat.{ℕ, ◌+◌, ◌-◌, ◌*◌, ◌≤◌, ◌<◌}
use native.Mathlib.Nat.{le_of_lt}
use native.Mathlib.Omega.{arith}
use lib.ListN.{length, drop}
use lib.Ieee.{Float}
use Rattle.floats.specs.Sums.{all_to}
use Rattle.floats.proofs.Loops.{all_none, all_more, all_stop, all_each}
use Rattle.refusals.specs.Refusals.{Outcome}
use Rattle.refusals.proofs.Firsts.{test_passes, not_refused}
use Rattle.spline.specs.declared.Grid.{Grid}
use Rattle.layers.specs.Net.{Net, net_of}
use Rattle.layers.specs.Widths.{input_width, output_width}
use Rattle.layer_cursor.specs.Cursor.{Walkable}
use Rattle.batches.specs.Batch.{rows_in, row_at}
use Rattle.batches.proofs.Rows.{row_begins}
use Rattle.passes.specs.Pass.{rows_of, finite_row, nodes_finite}
use Rattle.fast_gradients.specs.Adding.{Clean}
use Rattle.gradients.specs.Steps.{plus_of}
use Rattle.row_gradients.specs.Backward.{row_gradient}
use Rattle.row_gradients.specs.Calls.{two_n, WorkFits, RowTaken}
use Rattle.row_gradients.proofs.Spans.{refit}
use Rattle.row_gradients.proofs.Rows.{row_length, row_clean}
use Rattle.batch_gradients.specs.Accumulate.{gathered}
use Rattle.batch_gradients.specs.Calls.{FullRows, RowsTaken}
use Rattle.batch_gradients.proofs.Gathered.{gathered_none, gathered_more}

-- ---- rows of a width that is not zero
pub first_some : {g : Grid} {ws : List ℕ} → Walkable g ws → 0 < input_width ws
first_some a = a.positive 0 (omega (arith, a.some))

pub last_some : {g : Grid} {ws : List ℕ} → Walkable g ws → 0 < output_width ws
last_some {g} {ws} a = a.positive (length ws - 1) (omega (arith, a.some))

-- row r begins within the batch, where there are `count` rows
pub row_starts : (n w r count : ℕ) → 0 < w → count ≡ rows_in n w → r < count → r * w ≤ n
row_starts n w r count some e h = le_of_lt (row_begins n w r some (rw e at h))

-- a row and its targets by other names
pub same_row : {N : Net} {ps : List Float} {ws : List ℕ} {xs xs' ts ts' : List Float} {scale : Float} {add : Bool}
    {gs W gs' W' : List Float} {b : Outcome} → xs ≡ xs' → ts ≡ ts' → RowTaken N ps ws xs ts scale add gs W gs' W' b
    → RowTaken N ps ws xs' ts' scale add gs W gs' W' b
same_row e f y = rw (← e, ← f) y

-- all rows pass only where this one does: the search takes it where a row is refused
pub one_of_all : (N : Net) (ps : List Float) (ws : List ℕ) (xs : List Float) (r : ℕ) → r < rows_of ws xs
    → nodes_finite N ps ws (row_at xs (input_width ws) r)
    ≡ (nodes_finite N ps ws (row_at xs (input_width ws) r) || all_to (finite_row N ps ws xs) (rows_of ws xs))
one_of_all N ps ws xs r h = by (finite_row N ps ws xs r) refl
  where
    by : (b : Bool) → finite_row N ps ws xs r ≡ b → b ≡ (b || all_to (finite_row N ps ws xs) (rows_of ws xs))
    by true e = refl
    by false e = sym (all_stop _ r _ h e)

-- ---- after r rows, from the gradients gs₀, which may have been `known` to be free of -0.0, and the work W₀: all of them
-- have passed, and are added where `add` says so
pub record Taken (N : Net) (ps : List Float) (ws : List ℕ) (xs ts : List Float) (scale : Float) (add known : Bool)
    (gs₀ W₀ : List Float) (r : ℕ) (gs W : List Float) : Type 0 where
  pub passed : all_to (finite_row N ps ws xs) r ≡ true
  pub sum : add ≡ true → gs ≡ gathered N ps ws xs ts (output_width ws) scale gs₀ r
  pub same : add ≡ false → gs ≡ gs₀
  pub kept : finite_row N ps ws xs 0 ≡ false → gs ≡ gs₀
  pub clean : known ≡ true → Clean (length gs₀) gs
  pub size_g : length gs ≡ length gs₀
  pub size_w : length W ≡ length W₀
  pub rest : drop (two_n ws) W ≡ drop (two_n ws) W₀

module _ {N : Net} {ps : List Float} {ws : List ℕ} {xs ts : List Float} {scale : Float} {add known : Bool}
    {gs₀ W₀ : List Float} where
  pub none_taken : (known ≡ true → Clean (length gs₀) gs₀) → Taken N ps ws xs ts scale add known gs₀ W₀ 0 gs₀ W₀
  none_taken c = record {
    passed = all_none _;
    sum = λ _. gathered_none _ _ _ _ _ _ _ _;
    same = λ _. refl;
    kept = λ _. refl;
    clean = c;
    size_g = refl;
    size_w = refl;
    rest = refl;
  }

  pub all_taken : {r : ℕ} {gs W : List Float} → r ≡ rows_of ws xs → Taken N ps ws xs ts scale add known gs₀ W₀ r gs W
      → RowsTaken N ps ws xs ts scale add gs₀ W₀ gs W (Ok tt)
  all_taken {r} e t =
      let all : all_to (finite_row N ps ws xs) (rows_of ws xs) ≡ true = rw e at t.passed in
      record {
        answer = rw all;
        added = λ _ a. t.sum a ∙ ap (gathered N ps ws xs ts (output_width ws) scale gs₀) e;
        untold = t.same;
        kept = t.kept;
        rest = t.rest;
      }

-- ---- in a turn at row r of a batch whose rows are full, with a model, a work and gradients that fit
pub record TakingRow (g : Grid) (ps : List Float) (ws : List ℕ) (xs ts : List Float) (scale : Float) (add known : Bool)
    (gs₀ W₀ : List Float) (r : ℕ) (gs W : List Float) : Type 0 where
  pub fits : WorkFits g ps ws W₀
  pub full : FullRows ws xs ts
  pub same : length gs₀ ≡ length ps
  pub more : r < rows_of ws xs
  pub taken : Taken (net_of g) ps ws xs ts scale add known gs₀ W₀ r gs W

pub taking : {g : Grid} {ps : List Float} {ws : List ℕ} {xs ts : List Float} {scale : Float} {add known : Bool}
    {gs₀ W₀ : List Float} {r count : ℕ} {gs W : List Float} → WorkFits g ps ws W₀ → FullRows ws xs ts
    → length gs₀ ≡ length ps → count ≡ rows_of ws xs → r < count
    → Taken (net_of g) ps ws xs ts scale add known gs₀ W₀ r gs W
    → TakingRow g ps ws xs ts scale add known gs₀ W₀ r gs W
taking f full same count more t =
    record { fits = f; full = full; same = same; more = rw count at more; taken = t }

module _ {g : Grid} {ps : List Float} {ws : List ℕ} {xs ts : List Float} {scale : Float} {add known : Bool}
    {gs₀ W₀ : List Float} {r : ℕ} {gs W : List Float} (t : TakingRow g ps ws xs ts scale add known gs₀ W₀ r gs W) where
  -- what the row asks
  pub still_fits : WorkFits g ps ws W
  still_fits = refit t.fits t.taken.size_w

  pub still_same : length gs ≡ length ps
  still_same = t.taken.size_g ∙ t.same

  pub still_clean : known ≡ true → Clean (length gs) gs
  still_clean e = rw t.taken.size_g (t.taken.clean e)

  -- and what it leaves, where it answers b
  module _ {gs' W' : List Float} {b : Outcome} (size_g : length gs' ≡ length gs) (size_w : length W' ≡ length W)
      (y : RowTaken (net_of g) ps ws (row_at xs (input_width ws) r) (row_at ts (output_width ws) r) scale add gs W gs' W' b) where
    abbrev adds : List Float
    adds = row_gradient (net_of g) ps ws (row_at xs (input_width ws) r) (row_at ts (output_width ws) r) scale

    passes_20 : b ≡ Ok tt → finite_row (net_of g) ps ws xs r ≡ true
    passes_20 e = test_passes _ 19 (not_refused _ 0 (sym y.answer ∙ e))

    pub one_row : b ≡ Ok tt → Taken (net_of g) ps ws xs ts scale add known gs₀ W₀ (r + 1) gs' W'
    one_row e = record {
      passed = all;
      sum = λ a. gathered_more _ _ _ _ _ _ _ _ r _ _ (t.taken.sum a) long (moved true a);
      same = λ a. moved false a ∙ t.taken.same a;
      kept = λ z. absurd (false≢true (sym z ∙ all_each _ (r + 1) all 0 (omega arith)));
      clean = λ k. cleanly k add refl;
      size_g = size_g ∙ t.taken.size_g;
      size_w = size_w ∙ t.taken.size_w;
      rest = y.rest ∙ t.taken.rest;
    }
      where
        all : all_to (finite_row (net_of g) ps ws xs) (r + 1) ≡ true
        all = all_more _ r t.taken.passed (passes_20 e)

        long : length adds ≡ length gs₀
        long = row_length (net_of g) ps ws _ _ scale (t.full.inputs r t.more) ∙ t.fits.params ∙ sym t.same

        moved : (c : Bool) → add ≡ c → gs' ≡ cond c (plus_of gs adds) gs
        moved c z = rw (passes_20 e, z) at y.gradients

        cleanly : known ≡ true → (c : Bool) → add ≡ c → Clean (length gs₀) gs'
        cleanly k true z = row_clean _ _ _ _ _ _ _ _ _ (moved true z) (t.taken.clean k)
        cleanly k false z = rw (moved false z) (t.taken.clean k)
