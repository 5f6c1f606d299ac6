-- The rows of a batch, one after the other through the same two slices. Assumes nothing.
use Rattle.std.specs.Prelude.{Ok}
use mathlib.Core.Path.{◌≡◌, ◌∙◌}
use mathlib.Core.Bool.{true}
use mathlib.Core.List.{List}
use Prim.Native.Nat.{ℕ, ◌-◌, ◌*◌, ◌≤◌, ◌<◌}
use native.Mathlib.Nat.{le_of_lt}
use native.Mathlib.Omega.{arith}
use lib.ListN.{length, take}
use lib.Ieee.{Float}
use Rattle.floats.specs.Sums.{all_finite}
use Rattle.refusals.specs.Refusals.{Outcome, outcome_of}
use Rattle.spline.specs.declared.Grid.{Grid}
use Rattle.local_basis.specs.Fours.{Finite}
use Rattle.layers.specs.Net.{Net}
use Rattle.layers.specs.Widths.{input_width, output_width}
use Rattle.batches.specs.Batch.{row_at}
use Rattle.batches.proofs.Rows.{row_begins}
use Rattle.passes.specs.Pass.{rows_of, refusal_at, outputs_at}
use Rattle.passes.specs.Turns.{holder, Fits, Ran}
use Rattle.passes.proofs.Passes.{Kept, finite_model}

-- a model and slices that fit do so with slices as long
pub fits_kept : {g : Grid} {ps : List Float} {ws : List ℕ} {a₀ b₀ a b : List Float} → Fits g ps ws a₀ b₀
    → Kept ws a₀ b₀ a b → Fits g ps ws a b
fits_kept f k = record {
  walkable = f.walkable;
  first = λ j h. rw k.size_a (f.first j h);
  second = λ j h. rw k.size_b (f.second j h);
  params = f.params;
}

-- ---- the first and the last width: no row and no output is empty, and a row's outputs have room in both slices
pub wide_rows : {g : Grid} {ps : List Float} {ws : List ℕ} {a b : List Float} → Fits g ps ws a b
    → (0 < input_width ws) × (0 < output_width ws)
wide_rows {ws = ws} f =
    let w = f.walkable in
    (w.positive 0 (omega (arith, w.some)), w.positive (length ws - 1) (omega (arith, w.some)))

pub outputs_room : {g : Grid} {ps : List Float} {ws : List ℕ} {a b : List Float} → Fits g ps ws a b
    → (output_width ws ≤ length a) × (output_width ws ≤ length b)
outputs_room {ws = ws} f =
    let last : length ws - 1 < length ws = omega (arith, f.walkable.some) in
    (f.first (length ws - 1) last, f.second (length ws - 1) last)

-- ---- before row r: the slices were a₀ and b₀ before the first row, and are a and b now
pub record AtRow (g : Grid) (ps : List Float) (ws : List ℕ) (xs a₀ b₀ : List Float) (r : ℕ) (a b : List Float)
    : Type 0 where
  pub fits : Fits g ps ws a₀ b₀
  pub finite : all_finite ps ≡ true
  pub more : r < rows_of ws xs
  pub kept : Kept ws a₀ b₀ a b

-- ---- after its run with the answer k
pub record RanRow (N : Net) (ps : List Float) (ws : List ℕ) (xs a₀ b₀ : List Float) (r : ℕ) (a b : List Float)
    (k : Outcome) : Type 0 where
  pub refusal : k ≡ outcome_of (refusal_at N ps ws xs r) 0
  pub outputs : k ≡ Ok tt → take (output_width ws) (holder (length ws - 1) a b) ≡ outputs_at N ps ws xs r
  pub kept : Kept ws a₀ b₀ a b

module _ {g : Grid} {ps : List Float} {ws : List ℕ} {xs a₀ b₀ : List Float} {r : ℕ} {a b : List Float}
    (t : AtRow g ps ws xs a₀ b₀ r a b) where
  -- the row begins within the batch, and may be run
  pub row_in : r * input_width ws ≤ length xs
  row_in = le_of_lt (row_begins _ _ r (wide_rows t.fits).0 t.more)

  pub fits_now : Fits g ps ws a b
  fits_now = fits_kept t.fits t.kept

  pub finite_all : Finite (length ps) ps
  finite_all = finite_model ps t.finite

  pub ran : {N : Net} {row a' b' : List Float} {k : Outcome} → row ≡ row_at xs (input_width ws) r → length a' ≡ length a
      → length b' ≡ length b → Ran N ps ws row a b a' b' k → RanRow N ps ws xs a₀ b₀ r a' b' k
  ran {N} {row} {a'} {b'} {k} e la lb y =
      let z : Ran N ps ws (row_at xs (input_width ws) r) a b a' b' k = rw e at y in
      record {
        refusal = z.refusal;
        outputs = z.outputs;
        kept = record {
          size_a = la ∙ t.kept.size_a;
          size_b = lb ∙ t.kept.size_b;
          first = λ m h. z.first m h ∙ t.kept.first m h;
          second = λ m h. z.second m h ∙ t.kept.second m h;
        };
      }
