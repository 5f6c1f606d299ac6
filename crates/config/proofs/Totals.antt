-- What the running sums of a list of widths are bounded by. Assumes nothing.
use Prim.Native.Nat.{ℕ, zero, suc, ◌+◌, ◌-◌, ◌*◌, ◌≤◌, ◌<◌}
use native.Mathlib.Nat.{le_refl, le_trans, le_of_eq, le_step, le-max_left, le-max_right, le-add_left, add-le-add}
use native.Mathlib.Nat.{mul-pos, mul_comm, mul_assoc, mul-le-mul_left, le-mul_of_pos_right}
use native.Mathlib.Numerals.{add-one, sub-one}
use native.Mathlib.Decide.{le_ind}
use native.Mathlib.Omega.{arith}
use mathlib.Core.Path.{◌≡◌}
use mathlib.Core.Bool.{Bool, true, not}
use mathlib.Core.List.{List}
use lib.Dec.{eqb}
use borrow.Author.Tests.{not-true, eqb-false}
use Rattle.floats.specs.Sums.{all_to}
use Rattle.floats.proofs.Loops.{all_each}
use Rattle.layers.specs.Widths.{width_at, params_to, widest_to, widths_to}
use Rattle.layers.proofs.Widths.{params_room}

-- ---- the test of a width
abbrev pub some_wide : List ℕ → ℕ → Bool
some_wide ws i = not (eqb (width_at ws i) 0)

pub positive_at : (ws : List ℕ) (n : ℕ) → all_to (some_wide ws) n ≡ true → (j : ℕ) → j < n → 0 < width_at ws j
positive_at ws n h j l =
    let w = eqb-false (width_at ws j) 0 (not-true _ (all_each (some_wide ws) n h j l)) in omega (arith, w)

-- ---- what does not fall from one number to the next does not fall
rising : (s : ℕ → ℕ) → ((n : ℕ) → s n ≤ s (suc n)) → (m n : ℕ) → m ≤ n → s m ≤ s n
rising s up m n h = le_ind (λ k. s m ≤ s k) (le_refl (s m)) (λ k _ ih. le_trans ih (up k)) n h

-- no width is above the widest
pub widest_at : (ws : List ℕ) (j n : ℕ) → j < n → width_at ws j ≤ widest_to ws n
unfolding widest_to
widest_at ws j n h =
    le_trans (le-max_right (widest_to ws j) (width_at ws j))
    (rising (widest_to ws) (λ k. le-max_left (widest_to ws k) (width_at ws k)) (suc j) n h)

pub widest_within : (ws : List ℕ) (n : ℕ) → widest_to ws n ≤ widths_to ws n
unfolding widest_to widths_to
widest_within ws zero = le_refl 0
widest_within ws (suc n) = let ih = widest_within ws n in omega arith

-- ---- widths that are not 0 have at least as many parameters as an edge has, and as there are nodes
times_more : (m n : ℕ) → 0 < m → n ≤ m * n
times_more m n h = le_trans (le-mul_of_pos_right n h) (le_of_eq (mul_comm n m))

pub edge_within : (per : ℕ) (ws : List ℕ) (n : ℕ) → 0 < width_at ws 0 → 0 < width_at ws 1 → per ≤ params_to per ws (suc n)
edge_within per ws n a b =
    le_trans (le_trans (times_more (width_at ws 0) per a) (times_more (width_at ws 1) (width_at ws 0 * per) b))
    (le_trans (le-add_left _ (params_to per ws 0)) (params_room per ws 0 (suc n) (omega arith)))

-- two neighbours, and then each further width
pair_within : (per a b : ℕ) → 2 ≤ per → 0 < a → 0 < b → a + b ≤ b * (a * per)
pair_within per a b p x y =
    let twice : a * 2 ≤ a * per = mul-le-mul_left a p in
    omega (arith, times_more b a y, le-mul_of_pos_right b x, mul_assoc b a 2, mul-le-mul_left b twice)

pub nodes_within : (per : ℕ) (ws : List ℕ) → 2 ≤ per → (n : ℕ) → ((j : ℕ) → j < suc (suc n) → 0 < width_at ws j)
    → widths_to ws (suc (suc n)) ≤ params_to per ws (suc n)
unfolding widths_to params_to
nodes_within per ws p zero h = omega (arith, pair_within per (width_at ws 0) (width_at ws 1) p (h 0 (omega arith)) (h 1 (omega arith)))
nodes_within per ws p (suc n) h =
    let edges : 0 < width_at ws (suc n) * per = mul-pos (h (suc n) (omega arith)) (omega arith) in
    add-le-add (nodes_within per ws p n (λ j l. h j (le_step l)))
    (rw (add-one (suc n)) (le-mul_of_pos_right (width_at ws (suc (suc n))) edges))

-- so where the total is at most 250,000 all else is small
pub small_all : (per : ℕ) (ws : List ℕ) (n : ℕ) → 2 ≤ per → all_to (some_wide ws) (suc (suc n)) ≡ true → params_to per ws (suc n) ≤ 250000
    → (per ≤ 250000) × (widths_to ws (suc (suc n)) ≤ 250000)
small_all per ws n p all h =
    let pos = positive_at ws (suc (suc n)) all in
    (le_trans (edge_within per ws n (pos 0 (omega arith)) (pos 1 (omega arith))) h, le_trans (nodes_within per ws p n pos) h)

-- the same of a whole list's widths, as many as m
pub small_of : (per : ℕ) (ws : List ℕ) (m : ℕ) → 2 ≤ per → 2 ≤ m → all_to (some_wide ws) m ≡ true → params_to per ws (m - 1) ≤ 250000
    → (per ≤ 250000) × (widths_to ws m ≤ 250000)
small_of per ws zero p two all h = absurd (omega arith)
small_of per ws (suc zero) p two all h = absurd (omega arith)
small_of per ws (suc (suc n)) p two all h = small_all per ws n p all (rw (sub-one (suc (suc n))) at h)
