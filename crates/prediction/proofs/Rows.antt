-- Prediction row by row: what is written before row r, a row more, a stop, and the end. Assumes nothing.
use Rattle.std.specs.Prelude.{Err, Ok}
use Rattle.std.specs.Result.{MatchResult, IsErrAnd, is_ok}
use mathlib.Core.Bool.{false≢true}
use mathlib.Core.Path.{◌≡◌, refl, sym, ap, ◌∙◌}
use mathlib.Core.List.{List, ◌++◌}
use Prim.Native.Nat.{ℕ, zero, suc, ◌+◌, ◌-◌, ◌*◌, ◌≤◌, ◌<◌}
use lib.ListN.{length, take, drop}
use lib.Ieee.{Float}
use borrow.Rule.Slice.PartMut.{put_mid}
use Rattle.floats.specs.Sums.{flat_to}
use Rattle.floats.proofs.Loops.{flat_none, part_more, rest, room}
use Rattle.refusals.specs.declared.Refusal.{Refusal}
use Rattle.refusals.specs.Refusals.{first_to, done_to, Outcome, outcome_of}
use Rattle.refusals.proofs.Firsts.{first_none, first_more, first_stop, done_all, done_stop, not_refused, refused}
use Rattle.spline.specs.declared.Grid.{Grid}
use Rattle.layers.specs.Net.{Net}
use Rattle.layers.specs.Widths.{input_width, output_width}
use Rattle.batches.specs.Batch.{row_at}
use Rattle.passes.specs.Pass.{rows_of, refusal_at, outputs_at}
use Rattle.passes.specs.Turns.{holder}
use Rattle.passes.proofs.Passes.{Kept, outputs_length}
use Rattle.passes.proofs.EachRow.{AtRow, RanRow}
use Rattle.prediction.specs.Predict.{outputs_over}
use Rattle.prediction.specs.Steps.{Predictable, RowsPredicted}

-- no row before row r is refused, and their outputs stand over the front of ys₀
pub record Written (N : Net) (ps : List Float) (ws : List ℕ) (xs ys₀ : List Float) (r : ℕ) (ys : List Float)
    : Type 0 where
  pub sound : first_to (refusal_at N ps ws xs) r ≡ 0
  pub outputs : ys ≡ flat_to (outputs_at N ps ws xs) r ++ drop (r * output_width ws) ys₀
  pub size : length ys ≡ length ys₀

-- and the slices that the rows went through are kept
pub record Going (N : Net) (ps : List Float) (ws : List ℕ) (xs a₀ b₀ ys₀ : List Float) (rows r : ℕ)
    (a b ys : List Float) : Type 0 where
  pub bound : r ≤ rows
  pub written : Written N ps ws xs ys₀ r ys
  pub kept : Kept ws a₀ b₀ a b

-- ---- what the answer of a row is, where `map_err` made an answer s of it
pub mapped_ok : (r s : Outcome) → is_ok s ≡ is_ok r → s ≡ Ok tt → r ≡ Ok tt
mapped_ok (Ok x) s v e = refl
mapped_ok (Err d) s v e = absurd (false≢true (rw e at (sym v)))

pub mapped_err : (P : Refusal → Refusal → Type 0) (r s : Outcome) (e : Refusal)
    → MatchResult r (λ x. s ≡ Ok x) (λ d. IsErrAnd s (P d)) → s ≡ Err e → (d : Refusal) × (r ≡ Err d) × P d e
mapped_err P (Ok x) s e p q = absurd (not_ok (sym q ∙ p))
  where
    not_ok : Err e ≡ Ok x → ⊥
    not_ok z = cc
mapped_err P (Err d) s e p q = (d, refl, rw q at p)

-- what is known before a row that is there
pub before_row : {N : Net} {g : Grid} {ps : List Float} {ws : List ℕ} {xs a₀ b₀ ys₀ : List Float} {rows r : ℕ} {a b ys : List Float}
    → Predictable g ps ws xs a₀ b₀ ys₀ rows → r < rows → Going N ps ws xs a₀ b₀ ys₀ rows r a b ys
    → AtRow g ps ws xs a₀ b₀ r a b
before_row p h k = record { fits = p.fits; finite = p.finite; more = rw p.count at h; kept = k.kept }

-- and its place among the outputs
pub place : {N : Net} {g : Grid} {ps : List Float} {ws : List ℕ} {xs a₀ b₀ ys₀ : List Float} {rows r : ℕ} {a b ys : List Float}
    → Predictable g ps ws xs a₀ b₀ ys₀ rows → r < rows → Going N ps ws xs a₀ b₀ ys₀ rows r a b ys
    → r * output_width ws + output_width ws ≤ length ys
place p h k = rw k.written.size (room _ _ _ _ h p.room)

-- a refusal with its row
refused_at : (n row : ℕ) (e : Refusal) → outcome_of n 0 ≡ Err e
    → Err (record { number = e.number; carried = row }) ≡ outcome_of n row
refused_at zero row e p = cc
refused_at (suc n) row e p = let q : e.number ≡ suc n = cc in rw q

module _ {N : Net} {ps : List Float} {ws : List ℕ} {xs ys₀ : List Float} where
  pub none_written : Written N ps ws xs ys₀ 0 ys₀
  none_written = record { sound = first_none _; outputs = flat_none _ (output_width ws) ys₀; size = refl }

  -- row r was run, and its outputs were copied to their place: y is what the copy left from there on
  pub row_written : {a₀ b₀ a b : List Float} {r : ℕ} {k : Outcome} {ys : List Float} (y : List Float) → 2 ≤ length ws
      → r * output_width ws ≤ length ys
      → length (put_mid (r * output_width ws) (length ys - r * output_width ws) ys y) ≡ length ys
      → Written N ps ws xs ys₀ r ys → RanRow N ps ws xs a₀ b₀ r a b k → k ≡ Ok tt
      → y ≡ take (output_width ws) (holder (length ws - 1) a b)
      ++ drop (output_width ws) (take (length ys - r * output_width ws) (drop (r * output_width ws) ys))
      → Written N ps ws xs ys₀ (r + 1) (put_mid (r * output_width ws) (length ys - r * output_width ws) ys y)
  row_written {r = r} {ys = ys} y some h long w t e q =
      let v = output_width ws in
      record {
        sound = first_more _ r w.sound (not_refused _ 0 (sym t.refusal ∙ e));
        outputs =
            part_more (outputs_at N ps ws xs) v (λ j. outputs_length N ps ws (row_at xs (input_width ws) j) some) r
            ys₀ ys y w.outputs h (λ d. q
            ∙ ap (λ (l : List Float). l ++ drop v (take (length ys - r * v) (drop (r * v) ys))) (t.outputs e)
            ∙ ap (λ (l : List Float). outputs_at N ps ws xs r ++ drop v l) (rest (r * v) ys ∙ d));
        size = long ∙ w.size;
      }

  pub row_refused : {a₀ b₀ a b : List Float} {r : ℕ} {k : Outcome} {e : Refusal} {ys : List Float} → r < rows_of ws xs
      → Written N ps ws xs ys₀ r ys → RanRow N ps ws xs a₀ b₀ r a b k → k ≡ Err e
      → RowsPredicted N ps ws xs 0 0 a₀ b₀ ys₀ (Err (record { number = e.number; carried = r })) a b ys
  unfolding outputs_over
  row_refused {r = r} {e = e} h w t p =
      let f = refusal_at N ps ws xs in
      let here : outcome_of (f r) 0 ≡ Err e = sym t.refusal ∙ p in
      let stops : (f r ≡ 0 → ⊥) = refused (f r) 0 e here in
      let first : first_to f (rows_of ws xs) ≡ f r = first_stop f r (rows_of ws xs) h w.sound stops in
      let done : done_to f (rows_of ws xs) ≡ r = done_stop f r (rows_of ws xs) h w.sound stops in
      record {
        answer = refused_at (f r) r e here ∙ sym (rw (first, done));
        outputs = w.outputs ∙ sym (rw done);
        first = t.kept.first;
        second = t.kept.second;
      }

  pub all_written : {a₀ b₀ a b : List Float} {r : ℕ} {ys : List Float} → r ≡ rows_of ws xs → Written N ps ws xs ys₀ r ys
      → Kept ws a₀ b₀ a b → RowsPredicted N ps ws xs 0 0 a₀ b₀ ys₀ (Ok tt) a b ys
  unfolding outputs_over
  all_written {r = r} e w k =
      let f = refusal_at N ps ws xs in
      let first : first_to f (rows_of ws xs) ≡ 0 = rw (← e) w.sound in
      let done : done_to f (rows_of ws xs) ≡ r = done_all f (rows_of ws xs) first ∙ sym e in
      record { answer = sym (rw first); outputs = w.outputs ∙ sym (rw done); first = k.first; second = k.second }
