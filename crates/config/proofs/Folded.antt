-- The state after n widths, field by field, in the plain words of the definitions; and the answer from the state after
-- all of them is that of `check_of`. Assumes nothing.
use Rattle.std.specs.Prelude.{None, Some}
use Prim.Native.Nat.{ℕ, zero, suc, ◌+◌, ◌-◌, ◌*◌, ◌^◌, ◌≤◌, min}
use native.Mathlib.Nat.{zero-mul, mul_comm, mul_assoc}
use native.Mathlib.Numerals.{add-one, sub-one}
use native.Mathlib.Omega.{arith}
use mathlib.Core.Path.{◌≡◌, refl, sym, ◌∙◌}
use mathlib.Core.Bool.{Bool, true, false, cond, not, ◌&&◌, ◌||◌}
use mathlib.Core.List.{List}
use lib.Dec.{leb, ltb, eqb}
use lib.ListN.{length}
use borrow.Author.Tests.{le-ltb, le-leb, leb-true, ne_eqb}
use Rattle.floats.specs.Sums.{all_to}
use Rattle.refusals.specs.Refusals.{◌otherwise◌, ◌then◌, first_to}
use Rattle.refusals.proofs.Firsts.{test_at_most, then_at_most, first_at_most}
use Rattle.spline.specs.declared.Grid.{Grid}
use Rattle.layers.specs.Widths.{width_at, layer_size, params_to, widest_to, widths_to}
use Rattle.layers.proofs.Widths.{params_more}
use Rattle.config.specs.declared.Shape.{Shape}
use Rattle.config.specs.Config.{shape_sound, products_fit, intervals_sound, domain_sound}
use Rattle.config.specs.Config.{unit_grid, size_fault, config_fault, checked_of, check_of}
use Rattle.config.specs.Fold.{whole_of, is_too_large, layer_of, add_sum, add_size, add_layer, step_of, empty_shape}
use Rattle.config.specs.Fold.{per_edge_of, shape_to, total_of, given_sound, limits_fault, counted_fault, shape_fault}
use Rattle.config.specs.Fold.{counted, shape_sizes, verdict_of}
use Rattle.config.proofs.Totals.{some_wide, small_all}
use Rattle.config.proofs.Tests.{both_true, neither}
use Rattle.config.proofs.Answers.{alike}

-- ---- what a loop that folds needs: its state is `shape_to per ws i`
pub fold_none : (per : ℕ) (ws : List ℕ) → empty_shape ≡ shape_to per ws 0
unfolding shape_to
fold_none per ws = refl

pub fold_more : (per : ℕ) (ws : List ℕ) (i : ℕ) (s : Shape) (w : ℕ) → s ≡ shape_to per ws i → w ≡ width_at ws i
    → step_of per s w ≡ shape_to per ws (i + 1)
unfolding shape_to
fold_more per ws i s w e v = rw (add-one i, e, v)

-- ---- the test of a product of neighbouring widths
abbrev edges_fit : List ℕ → ℕ → Bool
edges_fit ws l = ltb (width_at ws l * width_at ws (l + 1)) (2 ^ 64)

-- ---- the flags
pub zero_is : (per : ℕ) (ws : List ℕ) (n : ℕ) → not (shape_to per ws n).zero ≡ all_to (some_wide ws) n
unfolding shape_to step_of empty_shape all_to
zero_is per ws zero = refl
zero_is per ws (suc n) = rw (neither (shape_to per ws n).zero (eqb (width_at ws n) 0), zero_is per ws n)

fits_is : (n : ℕ) → not (is_too_large (whole_of n)) ≡ ltb n (2 ^ 64)
unfolding whole_of
fits_is n = by (ltb n (2 ^ 64))
  where
    by : (b : Bool) → not (is_too_large (cond b (Some n) None)) ≡ b
    by true = refl
    by false = refl

-- n widths have n - 1 neighbours
pub wide_is : (per : ℕ) (ws : List ℕ) (n : ℕ) → not (shape_to per ws (suc n)).wide ≡ all_to (edges_fit ws) n
unfolding shape_to step_of empty_shape all_to
wide_is per ws zero = fits_is (0 * width_at ws 0) ∙ rw (zero-mul (width_at ws 0))
wide_is per ws (suc n) =
    rw (
      neither (shape_to per ws (suc n)).wide (is_too_large (whole_of (width_at ws n * width_at ws (suc n)))),
      wide_is per ws n,
      fits_is,
      add-one n,
    )

pub widest_is : (per : ℕ) (ws : List ℕ) (n : ℕ) → (shape_to per ws n).widest ≡ widest_to ws n
unfolding shape_to step_of empty_shape widest_to
widest_is per ws zero = refl
widest_is per ws (suc n) = rw (widest_is per ws n)

pub nodes_is : (per : ℕ) (ws : List ℕ) (n : ℕ) → (shape_to per ws n).nodes ≡ min (widths_to ws n) (2 ^ 64 - 1)
unfolding shape_to step_of empty_shape widths_to
nodes_is per ws zero = refl
nodes_is per ws (suc n) = rw (nodes_is per ws n) (capped (widths_to ws n) (width_at ws n))
  where
    capped : (s w : ℕ) → min (min s (2 ^ 64 - 1) + w) (2 ^ 64 - 1) ≡ min (s + w) (2 ^ 64 - 1)
    capped s w = omega arith

-- ---- the running total
sum_more : (sum : ℕ) → add_sum (whole_of sum) ≡ total_of (ltb sum (2 ^ 64) otherwise 6) sum
unfolding whole_of total_of
sum_more sum = by (ltb sum (2 ^ 64))
  where
    by : (b : Bool) → add_sum (cond b (Some sum) None) ≡ total_of (b otherwise 6) sum
    by true = refl
    by false = refl

-- `size_fault`, of a layer of this size after p parameters
abbrev layer_fault : ℕ → ℕ → ℕ
layer_fault p size = ltb size (2 ^ 64) otherwise 5 then ltb (p + size) (2 ^ 64) otherwise 6

size_more : (p size : ℕ) → add_size p (whole_of size) ≡ total_of (layer_fault p size) (p + size)
unfolding whole_of total_of
size_more p size = by (ltb size (2 ^ 64))
  where
    by : (b : Bool)
        → add_size p (cond b (Some size) None)
        ≡ total_of (b otherwise 5 then ltb (p + size) (2 ^ 64) otherwise 6) (p + size)
    by true = sum_more (p + size)
    by false = refl

total_more : (over p edges per size : ℕ) → ltb edges (2 ^ 64) ≡ true → edges * per ≡ size
    → add_layer (total_of over p) (layer_of (whole_of edges) per) ≡ total_of (over then layer_fault p size) (p + size)
unfolding whole_of total_of
total_more zero p edges per size fit e = rw (fit, e) (size_more p size)
total_more (suc over) p edges per size fit e = refl

pub total_is : (per : ℕ) (ws : List ℕ) (n : ℕ) → all_to (edges_fit ws) n ≡ true
    → (shape_to per ws (suc n)).total ≡ total_of (first_to (size_fault per ws) n) (params_to per ws n)
unfolding shape_to step_of empty_shape first_to params_to all_to whole_of total_of
total_is per ws zero h = rw (zero-mul (width_at ws 0), zero-mul per)
total_is per ws (suc n) h =
    let b = both_true _ _ h in
    let x = width_at ws n in
    let y = width_at ws (suc n) in
    rw (total_is per ws n b.0, ← params_more per ws n)
    (total_more (first_to (size_fault per ws) n) (params_to per ws n) (x * y) per (layer_size per ws n)
    (rw (add-one n) at b.1) (rw (add-one n, mul_comm x y) (mul_assoc y x per)))

-- 5 and 6 come before 7, which alone carries something
size_fault_below : (per : ℕ) (ws : List ℕ) (n : ℕ) → first_to (size_fault per ws) n ≤ 6
size_fault_below per ws n = first_at_most 6 (size_fault per ws) n each
  where
    each : (l : ℕ) → size_fault per ws l ≤ 6
    each l =
        let layer = ltb (layer_size per ws l) (2 ^ 64) in
        let total = ltb (params_to per ws (l + 1)) (2 ^ 64) in
        then_at_most 6 (layer otherwise 5) (total otherwise 6) (test_at_most 6 layer 5 (omega arith))
        (test_at_most 6 total 6 (omega arith))

-- ---- the answer
-- what is checked once 1 to 4 are passed
abbrev rest_fault : ℕ → ℕ → Grid → ℕ
rest_fault over total g = over then leb total 250000 otherwise 7 then domain_sound g otherwise 4

given_is : (g : Grid) → leb g.intervals 250000 ≡ true → given_sound g ≡ domain_sound g
unfolding given_sound
given_is g h = rw h

counted_is : (over total widest nodes nodes' : ℕ) (g : Grid) → over ≤ 6
    → (leb total 250000 ≡ true → (leb g.intervals 250000 ≡ true) × (nodes ≡ nodes'))
    → let count = total_of over total in
    checked_of (counted_fault count g) (record { parameters = counted count; widest = widest; nodes = nodes })
    ≡ checked_of (rest_fault over total g) (record { parameters = total; widest = widest; nodes = nodes' })
unfolding total_of limits_fault
counted_is zero total widest nodes nodes' g few h =
    alike (leb total 250000) _ 6 _ _ _ _ refl refl (λ t. let k = h t in rw (given_is g k.0, k.1))
counted_is (suc over) total widest nodes nodes' g few h = rw (ne_eqb (suc over) 7 (omega arith))

per_is : (g : ℕ) → intervals_sound g ≡ true → per_edge_of g ≡ g + 5
unfolding per_edge_of
per_is g h = rw h

shape_is : (per : ℕ) (ws : List ℕ) (n : ℕ) → 2 ≤ n
    → not (ltb n 2 || (shape_to per ws n).zero) ≡ leb 2 n && all_to (some_wide ws) n
shape_is per ws n h = rw (le-ltb n 2 h, le-leb 2 n h) (zero_is per ws n)

-- with at least two widths, none of them 0, no product too large and a sound count of intervals
module _ (ws : List ℕ) (g : Grid) (n : ℕ) (all : leb 2 (suc (suc n)) && all_to (some_wide ws) (suc (suc n)) ≡ true)
    (fit : all_to (edges_fit ws) (suc n) ≡ true) (sound : intervals_sound g.intervals ≡ true) where
  small_is : leb (params_to (g.intervals + 5) ws (suc n)) 250000 ≡ true
      → (leb g.intervals 250000 ≡ true)
      × ((shape_to (g.intervals + 5) ws (suc (suc n))).nodes ≡ widths_to ws (suc (suc n)))
  small_is t =
      let positive = (both_true (leb 2 (suc (suc n))) _ all).1 in
      let s = small_all (g.intervals + 5) ws n (omega arith) positive (leb-true _ 250000 t) in
      (le-leb g.intervals 250000 (omega arith), nodes_is (g.intervals + 5) ws (suc (suc n)) ∙ omega arith)

  rest_is : let s = shape_to (per_edge_of g.intervals) ws (suc (suc n)) in let per = g.intervals + 5 in
      checked_of (counted_fault s.total g) (shape_sizes s)
      ≡ checked_of (rest_fault (first_to (size_fault per ws) (suc n)) (params_to per ws (suc n)) g)
      (record {
        parameters = params_to per ws (suc n);
        widest = widest_to ws (suc (suc n));
        nodes = widths_to ws (suc (suc n));
      })
  rest_is =
      let per = g.intervals + 5 in
      rw (per_is g.intervals sound, total_is per ws (suc n) fit, widest_is per ws (suc (suc n)))
      (counted_is (first_to (size_fault per ws) (suc n)) _ _ _ _ g (size_fault_below per ws (suc n)) small_is)

verdict_at : (ws : List ℕ) (g : Grid) (n : ℕ) → length ws ≡ n
    → verdict_of (shape_to (per_edge_of g.intervals) ws n) n g ≡ check_of ws g
unfolding verdict_of shape_fault config_fault shape_sound products_fit
verdict_at ws g zero e = rw e
verdict_at ws g (suc zero) e = rw e
verdict_at ws g (suc (suc n)) e =
    let per = per_edge_of g.intervals in
    rw (e, sub-one (suc (suc n)))
    (alike _ _ 0 _ _ _ _ refl (shape_is per ws (suc (suc n)) (omega arith)) (λ a.
    alike _ _ 1 _ _ _ _ refl (wide_is per ws (suc n)) (λ b.
    alike (intervals_sound g.intervals) _ 2 _ _ _ _ refl refl (λ c.
    alike (domain_sound (unit_grid g.intervals)) _ 3 _ _ _ _ refl refl (λ d. rest_is ws g n a b c)))))

-- The state of a loop that has folded all n widths of a list answers what the definition says of the list.
pub verdict_is : (ws : List ℕ) (g : Grid) (per n i : ℕ) (s : Shape) → per ≡ per_edge_of g.intervals → n ≡ length ws
    → i ≡ n → s ≡ shape_to per ws i → verdict_of s n g ≡ check_of ws g
verdict_is ws g per n i s p e d h = rw (h, d, p) (verdict_at ws g n (sym e))
