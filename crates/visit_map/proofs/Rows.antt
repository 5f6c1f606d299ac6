-- The map row by row: where it stands before row r, a row more, a row that is refused, and the end. Assumes nothing.
use Rattle.std.specs.Prelude.{Ok, Err}
use mathlib.Core.Path.{◌≡◌, refl, sym, ap, ◌∙◌}
use mathlib.Core.Bool.{Bool, true, false, cond, ◌||◌}
use mathlib.Core.List.{List, ◌++◌}
use Prim.Native.Nat.{ℕ, ◌+◌, ◌<◌}
use native.Mathlib.Nat.{le_of_eq}
use native.Mathlib.Numerals.{add-one}
use lib.ListN.{length, drop, get_or}
use lib.Seq.{ext_get_or}
use lib.Ieee.{Float}
use Rattle.floats.proofs.Loops.{tab_length, tab_whole, table_get}
use Rattle.spline.specs.declared.Grid.{Grid}
use Rattle.layers.specs.Net.{Net, net_of}
use Rattle.layers.specs.Widths.{input_width, parameters_in}
use Rattle.refusals.specs.declared.Refusal.{Refusal}
use Rattle.refusals.specs.Refusals.{first_to, Outcome}
use Rattle.refusals.proofs.Firsts.{first_none, first_more, not_refused}
use Rattle.batches.specs.Batch.{row_at}
use Rattle.passes.specs.Pass.{rows_of, refusal_at}
use Rattle.passes.proofs.Passes.{Kept, kept_all}
use Rattle.passes.proofs.Past9.{fitted}
use Rattle.passes.proofs.EachRow.{AtRow, RanRow, fits_now, finite_all, ran}
use Rattle.touched_layer.specs.Touched.{blank}
use Rattle.touched_layer.specs.Marks.{marked_by}
use Rattle.touched_layer.proofs.Marking.{marked_length, marked_get}
use Rattle.touched_row.specs.Touched.{row_touched}
use Rattle.touched_row.specs.RowMarks.{Markable, RowMarked}
use Rattle.visit_map.specs.Visits.{any_to, touched_in, byte_of, byte_at, marks_of, map_up_to11}
use Rattle.visit_map.specs.Steps.{Unswept}
use Rattle.visit_map.proofs.Calls.{past11, row_refused, all_rows}

-- a mark more is an "or"
either : (a b : Bool) → cond b 1 (byte_of a) ≡ byte_of (a || b)
either true true = refl
either true false = refl
either false true = refl
either false false = refl

-- all k bytes of a map of n were cleared
cleared : (n k : ℕ) (d ms : List ℕ) → k ≡ length d → length d ≡ n → ms ≡ blank k ++ drop k d → ms ≡ blank n
cleared n k d ms l e p = tab_whole _ k d ms p l ∙ ap blank e

module _ (N : Net) (ps : List Float) (ws : List ℕ) (xs : List Float) (n : ℕ) where
  pub marks_length : (r : ℕ) (ms : List ℕ) → ms ≡ marks_of N ps ws xs r n → length ms ≡ n
  unfolding marks_of
  marks_length r ms p = ap length p ∙ tab_length _ n

  -- a blank map is that of no rows
  marks_none : blank n ≡ marks_of N ps ws xs 0 n
  unfolding marks_of any_to
  marks_none = refl

  marks_more : (r : ℕ) (ms ms' : List ℕ) → ms ≡ marks_of N ps ws xs r n
      → ms' ≡ marked_by (row_touched N ps ws (row_at xs (input_width ws) r)) ms → ms' ≡ marks_of N ps ws xs (r + 1) n
  unfolding marks_of any_to
  marks_more r ms ms' p q =
      let bs = row_touched N ps ws (row_at xs (input_width ws) r) in
      let size : length ms ≡ n = marks_length r ms p in
      let same : length ms' ≡ length ms = ap length q ∙ marked_length bs ms in
      ext_get_or 0 ms' (marks_of N ps ws xs (r + 1) n) (same ∙ size ∙ sym (tab_length _ n))
      (λ k h.
      let l : k < length ms = rw same at h in
      let i : k < n = rw size at l in
      ap (λ (l : List ℕ). get_or l k 0) q ∙ marked_get bs ms k l
      ∙ ap (λ (m : ℕ). cond (touched_in N ps ws xs k r) 1 m) (ap (λ (l : List ℕ). get_or l k 0) p ∙ table_get _ n k 0 i)
      ∙ either (any_to (touched_in N ps ws xs k) r) (touched_in N ps ws xs k r)
      ∙ ap (λ (m : ℕ). byte_of (any_to (touched_in N ps ws xs k) m)) (sym (add-one r))
      ∙ sym (table_get (byte_at N ps ws xs (r + 1)) n k 0 i))

-- ---- before row r, from the slices a₀ and b₀: no row so far is refused, and the map has their marks
pub record Visiting (N : Net) (ps : List Float) (ws : List ℕ) (xs : List Float) (n : ℕ) (a₀ b₀ : List Float) (r : ℕ)
    (a b : List Float) (ms : List ℕ) : Type 0 where
  pub sound : first_to (refusal_at N ps ws xs) r ≡ 0
  pub bytes : ms ≡ marks_of N ps ws xs r n
  pub kept : Kept ws a₀ b₀ a b

-- the map was cleared
pub before_first : {N : Net} {ps : List Float} {ws : List ℕ} {xs : List Float} {n : ℕ} {a b : List Float}
    (d ms : List ℕ) → length d ≡ n → ms ≡ blank (length d) ++ drop (length d) d → Visiting N ps ws xs n a b 0 a b ms
before_first {N} {ps} {ws} {xs} {n} {a} {b} d ms e p = record {
  sound = first_none _;
  bytes = cleared n (length d) d ms refl e p ∙ marks_none N ps ws xs n;
  kept = kept_all ws a b;
}

-- a map of P bytes is as long as the one that was lent
pub as_long : (ws : List ℕ) (g : Grid) (ps : List Float) (first second map : ℕ) {n : ℕ}
    → map_up_to11 ws g ps first second map ≡ 0 → n ≡ parameters_in (g.intervals + 5) ws → n ≡ map
as_long ws g ps first second map c e = e ∙ sym (past11 ws g ps first second map c).bytes

-- ---- row r of a call that is past check 11
pub record RowTurn (g : Grid) (ps : List Float) (ws : List ℕ) (xs a₀ b₀ : List Float) (ms₀ : List ℕ) (r : ℕ)
    (a b : List Float) (ms : List ℕ) : Type 0 where
  pub checks : map_up_to11 ws g ps (length a₀) (length b₀) (length ms₀) ≡ 0
  pub more : r < rows_of ws xs
  pub visiting : Visiting (net_of g) ps ws xs (parameters_in (g.intervals + 5) ws) a₀ b₀ r a b ms

-- ---- and after it was marked, which answered k
pub record RowLeft (g : Grid) (ps : List Float) (ws : List ℕ) (xs a₀ b₀ : List Float) (ms₀ : List ℕ) (r : ℕ)
    (k : Outcome) (a b : List Float) (ms : List ℕ) : Type 0 where
  pub checks : map_up_to11 ws g ps (length a₀) (length b₀) (length ms₀) ≡ 0
  pub more : r < rows_of ws xs
  pub sound : first_to (refusal_at (net_of g) ps ws xs) r ≡ 0
  pub ran_row : RanRow (net_of g) ps ws xs a₀ b₀ r a b k
  pub size : length ms ≡ parameters_in (g.intervals + 5) ws
  pub bytes : k ≡ Ok tt → ms ≡ marks_of (net_of g) ps ws xs (r + 1) (parameters_in (g.intervals + 5) ws)

pub in_row_turn : {g : Grid} {ps : List Float} {ws : List ℕ} {xs a₀ b₀ : List Float} {ms₀ : List ℕ} {r : ℕ}
    {a b : List Float} {ms : List ℕ} → map_up_to11 ws g ps (length a₀) (length b₀) (length ms₀) ≡ 0
    → r < rows_of ws xs → Visiting (net_of g) ps ws xs (parameters_in (g.intervals + 5) ws) a₀ b₀ r a b ms
    → RowTurn g ps ws xs a₀ b₀ ms₀ r a b ms
in_row_turn e h v = record { checks = e; more = h; visiting = v }

module _ {g : Grid} {ps : List Float} {ws : List ℕ} {xs a₀ b₀ : List Float} {ms₀ : List ℕ} {r : ℕ} {a b : List Float}
    {ms : List ℕ} (t : RowTurn g ps ws xs a₀ b₀ ms₀ r a b ms) where
  pub at_row : AtRow g ps ws xs a₀ b₀ r a b
  at_row =
      let k = past11 ws g ps _ _ _ t.checks in
      record { fits = fitted _ _ _ _ _ k.work; finite = k.finite; more = t.more; kept = t.visiting.kept }

  -- what marking the row asks
  pub may_mark_row : Markable g ps ws a b ms
  may_mark_row = record {
    fits = fits_now at_row;
    finite = finite_all at_row;
    bytes = le_of_eq (sym (marks_length _ _ _ _ _ r ms t.visiting.bytes));
  }

  -- and what it leaves
  pub row_left : {k : Outcome} {row a' b' : List Float} {ms' : List ℕ} → row ≡ row_at xs (input_width ws) r
      → RowMarked (net_of g) ps ws row a b ms k a' b' ms' → length a' ≡ length a → length b' ≡ length b
      → length ms' ≡ length ms → RowLeft g ps ws xs a₀ b₀ ms₀ r k a' b' ms'
  row_left {k} {row} {a'} {b'} {ms'} e y la lb lm =
      let v = t.visiting in
      let z : RowMarked (net_of g) ps ws (row_at xs (input_width ws) r) a b ms k a' b' ms' = rw e at y in
      record {
        checks = t.checks;
        more = t.more;
        sound = v.sound;
        ran_row = ran at_row e la lb y.ran;
        size = lm ∙ marks_length _ _ _ _ _ r ms v.bytes;
        bytes = λ p. marks_more _ _ _ _ _ r ms ms' v.bytes (z.bytes p);
      }

module _ {g : Grid} {ps : List Float} {ws : List ℕ} {xs a₀ b₀ : List Float} {ms₀ : List ℕ} {r : ℕ} {k : Outcome} {a b : List Float}
    {ms : List ℕ} (t : RowLeft g ps ws xs a₀ b₀ ms₀ r k a b ms) where
  -- a row more
  pub one_row : k ≡ Ok tt → Visiting (net_of g) ps ws xs (parameters_in (g.intervals + 5) ws) a₀ b₀ (r + 1) a b ms
  one_row e = record {
    sound = first_more _ r t.sound (not_refused _ 0 (sym t.ran_row.refusal ∙ e));
    bytes = t.bytes e;
    kept = t.ran_row.kept;
  }

  -- it was refused, and the map cleared
  pub stopped_at : {e : Refusal} {n : ℕ} {ms' : List ℕ} → k ≡ Err e → n ≡ length ms → ms' ≡ blank n ++ drop n ms
      → Unswept (net_of g) ws g ps xs a₀ b₀ ms₀ (Err (record { number = e.number; carried = r })) a b ms'
  stopped_at {e} {n} {ms'} h l p =
      let y = t.ran_row in
      row_refused (net_of g) ws g ps xs a₀ b₀ ms₀ t.checks y.kept.first y.kept.second r e t.more t.sound
      (sym h ∙ y.refusal) (cleared _ n ms ms' l t.size p)

-- ---- the end
pub visited_all : {g : Grid} {ps : List Float} {ws : List ℕ} {xs a₀ b₀ : List Float} {ms₀ : List ℕ} {r : ℕ}
    {a b : List Float} {ms : List ℕ} → map_up_to11 ws g ps (length a₀) (length b₀) (length ms₀) ≡ 0 → r ≡ rows_of ws xs
    → Visiting (net_of g) ps ws xs (parameters_in (g.intervals + 5) ws) a₀ b₀ r a b ms
    → Unswept (net_of g) ws g ps xs a₀ b₀ ms₀ (Ok tt) a b ms
visited_all {g} {ps} {ws} {xs} {a₀} {b₀} {ms₀} {r} c e v =
    all_rows (net_of g) ws g ps xs a₀ b₀ ms₀ c v.kept.first v.kept.second (rw (← e) v.sound)
    (v.bytes ∙ ap (λ (k : ℕ). marks_of (net_of g) ps ws xs k (parameters_in (g.intervals + 5) ws)) e)
