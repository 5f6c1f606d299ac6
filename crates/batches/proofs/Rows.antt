-- Rows of a flat batch, and what a batch with no fault has. Assumes nothing.
use mathlib.Core.Path.{◌≡◌, refl, sym, ap, ◌∙◌}
use mathlib.Core.Bool.{Bool, true, false, cond, not}
use mathlib.Core.List.{List}
use Prim.Native.Nat.{ℕ, zero, suc, ◌+◌, ◌-◌, ◌*◌, ◌/◌, ◌%◌, ◌≤◌, ◌<◌, min}
use native.Mathlib.Nat.{le_trans, le_of_eq, le_of_lt, mul-le-mul_right, suc-mul, div-add-mod', mod-lt}
use native.Mathlib.Omega.{arith}
use lib.Dec.{eqb}
use lib.ListN.{length, take, drop, length-drop, length-take}
use lib.Seq.{take_all}
use lib.Ieee.{Float}
use borrow.Author.Tests.{eq-eqb, ne_eqb, eqb-true, eqb-false, leb-true, not-true}
use Rattle.std.specs.Int.{div_ceil}
use Rattle.refusals.specs.Refusals.{◌otherwise◌}
use Rattle.refusals.proofs.Firsts.{both_pass, test_passes, first_clear}
use Rattle.batches.specs.Batch.{rows_in, row_at, row_fault, rows_fault, batch_fault}
use Rattle.batches.specs.Sound.{row_fault_at, SoundBatch}

-- ---- how many rows
pub rows_whole : (n w : ℕ) → n % w ≡ 0 → n / w ≡ rows_in n w
unfolding rows_in
rows_whole n w e = sym (rw (eq-eqb (n % w) 0 e) (omega arith))

pub rows_rounded_up : (n w : ℕ) → div_ceil n w ≡ rows_in n w
unfolding rows_in
rows_rounded_up n w = by (n % w)
  where
    by : (m : ℕ) → n / w + min 1 m ≡ n / w + cond (eqb m 0) 0 1
    by zero = refl
    by (suc m) = rw (ne_eqb (suc m) 0 (λ e. omega (arith, e))) (omega arith)

-- row r begins within the batch
pub row_begins : (n w r : ℕ) → 0 < w → r < rows_in n w → r * w < n
unfolding rows_in
row_begins n w r W h = go (eqb (n % w) 0) refl
  where
    whole : n % w ≡ 0 → r < n / w + 0 → r * w < n
    whole e k =
        let a : suc r * w ≤ n / w * w = mul-le-mul_right w (omega arith) in
        omega (arith, a, suc-mul r w, div-add-mod' n w)

    short : (n % w ≡ 0 → ⊥) → r < n / w + 1 → r * w < n
    short e k =
        let a : r * w ≤ n / w * w = mul-le-mul_right w (omega arith) in
        omega (arith, a, div-add-mod' n w)

    go : (b : Bool) → eqb (n % w) 0 ≡ b → r * w < n
    go true e = whole (eqb-true (n % w) 0 e) (rw e at h)
    go false e = short (eqb-false (n % w) 0 e) (rw e at h)

-- ---- a row as a part
-- ---- a batch with no fault
-- a row that is as wide as it must be
pub wide_row : (w a b : ℕ) (xs : List Float) → row_fault w (suc a) b xs ≡ 0 → length xs ≡ w
unfolding row_fault
wide_row w a b xs e = eqb-true (length xs) w (test_passes (eqb (length xs) w) a (both_pass _ _ e).0)

-- the last row is whole, and so is the batch
pub whole_rows : (w a b : ℕ) (xs : List Float) → 0 < w → ((r : ℕ) → r < rows_in (length xs) w → row_fault_at w (suc a) b xs r ≡ 0)
    → length xs ≡ rows_in (length xs) w * w
unfolding rows_in
whole_rows w a b xs W f = go (eqb (length xs % w) 0) refl
  where
    n : ℕ
    n = length xs

    short : (n % w ≡ 0 → ⊥) → length (row_at xs w (n / w)) ≡ w → ⊥
    short e h =
        let l : length (drop (n / w * w) xs) ≡ n - n / w * w = length-drop (n / w * w) xs in
        let k : length (take w (drop (n / w * w) xs)) ≡ min w (length (drop (n / w * w) xs)) = length-take w (drop (n / w * w) xs) in
        omega (arith, div-add-mod' n w, mod-lt n W)

    go : (t : Bool) → eqb (n % w) 0 ≡ t → n ≡ (n / w + cond (eqb (n % w) 0) 0 1) * w
    go true e =
        let z : n % w ≡ 0 = eqb-true (n % w) 0 e in
        let q : n / w + 0 ≡ n / w = omega arith in
        rw (e, q) (omega (arith, div-add-mod' n w))
    go false e =
        let z : (n % w ≡ 0 → ⊥) = eqb-false (n % w) 0 e in
        absurd (short z (wide_row w a b (row_at xs w (n / w)) (f (n / w) (rw e (omega arith)))))

pub batch_sound : (w v : ℕ) (xs ts : List Float) → 0 < w → 0 < v → batch_fault w v xs ts ≡ 0 → SoundBatch w v xs ts
unfolding batch_fault rows_fault
batch_sound w v xs ts W U e =
    let n : ℕ = rows_in (length xs) w in
    let after12 = both_pass (eqb n (rows_in (length ts) v) otherwise 12) _ e in
    let after13 = both_pass (not (eqb n 0) otherwise 13) _ after12.1 in
    let after15 = both_pass (rows_fault w 14 15 xs) _ after13.1 in
    let after17 = both_pass (rows_fault v 16 17 ts) _ after15.1 in
    let some : (n ≡ 0 → ⊥) = eqb-false n 0 (not-true _ (test_passes (not (eqb n 0)) 12 after13.0)) in
    let inputs = first_clear (row_fault_at w 14 15 xs) n after15.0 in
    let targets = first_clear (row_fault_at v 16 17 ts) (rows_in (length ts) v) after17.0 in
    record {
      same_rows = eqb-true n (rows_in (length ts) v) (test_passes _ 11 after12.0);
      some = omega arith;
      inputs = inputs;
      targets = targets;
      whole_inputs = whole_rows w 13 15 xs W inputs;
      whole_targets = whole_rows v 15 17 ts U targets;
      few = leb-true (length ts) 16777216 (test_passes _ 17 after17.1);
    }
