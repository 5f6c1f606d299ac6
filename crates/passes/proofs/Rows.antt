-- A row's whole pass, from its checks to its refusal. Assumes nothing.
use Rattle.std.specs.Prelude.{Ok, Err}
use mathlib.Core.Path.{◌≡◌, refl, sym, ap, ◌∙◌}
use mathlib.Core.List.{List, ◌++◌}
use Prim.Native.Nat.{ℕ, ◌≤◌, ◌<◌}
use native.Mathlib.Nat.{le_trans, le_of_eq}
use native.Mathlib.Omega.{arith}
use lib.ListN.{length, take, drop}
use lib.Ieee.{Float}
use lib.Seq.{take_at}
use Rattle.layers.specs.Widths.{width_at}
use Rattle.spline.specs.declared.Grid.{Grid}
use Rattle.layers.specs.Net.{Net}
use Rattle.refusals.specs.declared.Refusal.{Refusal}
use Rattle.refusals.specs.Refusals.{◌otherwise◌, Outcome, outcome_of}
use Rattle.refusals.proofs.Firsts.{then_first, not_refused, refused}
use Rattle.batches.specs.Batch.{row_fault}
use Rattle.batches.proofs.Rows.{wide_row}
use Rattle.passes.specs.Pass.{nodes_finite, row_refusal}
use Rattle.passes.specs.Turns.{Fits, Layered, Ran}
use Rattle.passes.proofs.Passes.{past, same_size}

-- a row with no fault is as wide as it must be
pub full : (w : ℕ) (xs : List Float) → row_fault w 14 15 xs ≡ 0 → length xs ≡ w
full w xs e = wide_row w 13 15 xs e

-- it was copied to the front of a slice
pub copied_row : (w : ℕ) (xs b c : List Float) → row_fault w 14 15 xs ≡ 0 → c ≡ xs ++ drop (length xs) b → take w c ≡ xs
copied_row w xs b c f p = ap (take w) p ∙ take_at xs (drop (length xs) b) w (full w xs f)

pub at_fault : (N : Net) (ps : List Float) (ws : List ℕ) (xs a b : List Float) (r : Refusal)
    → Err r ≡ outcome_of (row_fault (width_at ws 0) 14 15 xs) 0 → Ran N ps ws xs a b a b (Err r)
unfolding row_refusal
at_fault N ps ws xs a b r p =
    let n = row_fault (width_at ws 0) 14 15 xs in
    record {
      refusal = rw (← then_first n (nodes_finite N ps ws xs otherwise 20) (refused n 0 r (sym p))) p;
      outputs = λ q. cc;
      first = λ m h. refl;
      second = λ m h. refl;
    }

-- a row with no fault, with a model and slices that fit
pub record Faultless (g : Grid) (ps : List Float) (ws : List ℕ) (xs a b : List Float) : Type 0 where
  pub fits : Fits g ps ws a b
  pub fault : row_fault (width_at ws 0) 14 15 xs ≡ 0

-- its own checks let it pass
pub faultless : {g : Grid} {ps : List Float} {ws : List ℕ} {xs a b : List Float} {r : Outcome} → Fits g ps ws a b
    → r ≡ outcome_of (row_fault (width_at ws 0) 14 15 xs) 0 → r ≡ Ok tt → Faultless g ps ws xs a b
faultless f p e = record { fits = f; fault = not_refused _ 0 (sym p ∙ e) }

module _ {g : Grid} {ps : List Float} {ws : List ℕ} {xs a b : List Float} (s : Faultless g ps ws xs a b) where
  wide : length xs ≡ width_at ws 0
  wide = full (width_at ws 0) xs s.fault

  some : 0 < length ws
  some = omega (arith, s.fits.walkable.some)

  -- it has room at the front of the second slice, and the model and the slices fit with it there
  pub room : length xs ≤ length b
  room = le_trans (le_of_eq wide) (s.fits.second 0 some)

  -- it went through the layers from there
  pub through : {N : Net} {c a' b' : List Float} {r : Outcome} → c ≡ xs ++ drop (length xs) b
      → Layered N ps ws (take (width_at ws 0) c) a c a' b' r → Ran N ps ws xs a b a' b' r
  unfolding row_refusal
  through {N} {c} {a'} {b'} {r} p y =
      let z : Layered N ps ws xs a c a' b' r = rw (copied_row (width_at ws 0) xs b c s.fault p) at y in
      record {
        refusal = rw s.fault z.finite;
        outputs = z.outputs;
        first = z.first;
        second = λ m h. z.second m h ∙ past xs (length xs) m b c refl (le_trans (le_of_eq wide) (h 0 some)) p;
      }
