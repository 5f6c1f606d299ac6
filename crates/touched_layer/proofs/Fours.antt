-- Marks by four values and four slopes are the marks by all of them. Assumes nothing.
use mathlib.Core.Path.{◌≡◌, sym, ap, ◌∙◌, subst}
use mathlib.Core.Logic.{◌⊎◌, inl, inr}
use mathlib.Core.Bool.{Bool, true, false, not, cond}
use mathlib.Core.List.{List}
use Prim.Native.Nat.{ℕ, zero, suc, ◌+◌, ◌-◌, ◌≤◌, ◌<◌}
use native.Mathlib.Nat.{add-zero}
use native.Mathlib.Omega.{arith}
use lib.Dec.{T, ltb, lit<, ltb→lt, nltb→le}
use lib.ListN.{length, get_or, length-set, get_or-eq_default}
use lib.Seq.{get_or-set_same, get_or-set_other, ext_get_or}
use lib.Ieee.{Float}
use Rattle.floats.specs.Sums.{tabulate}
use Rattle.floats.specs.Zeros.{Alike}
use Rattle.floats.proofs.Loops.{tab_length, table_get}
use Rattle.spline.specs.declared.Grid.{Grid}
use Rattle.spline.specs.Spline.{slope_of}
use Rattle.local_basis.specs.declared.Eight.{Eight}
use Rattle.local_basis.specs.Fours.{Both}
use Rattle.layers.specs.Net.{basis_of}
use Rattle.touched_layer.specs.Touched.{touches, touches_by}
use Rattle.touched_layer.specs.Marks.{marked_by, mark_at, four_at, four_marked}
use Rattle.touched_layer.proofs.Touching.{touches_alike, touches_none}
use Rattle.touched_layer.proofs.Marking.{marked_length, marked_get}

-- ---- one byte
mark_length : (k : ℕ) (b : Bool) (ms : List ℕ) → length (mark_at k b ms) ≡ length ms
unfolding mark_at
mark_length k b ms = length-set ms k _

mark_same : (k : ℕ) (b : Bool) (ms : List ℕ) → k < length ms → get_or (mark_at k b ms) k 0 ≡ cond b 1 (get_or ms k 0)
unfolding mark_at
mark_same k b ms h = get_or-set_same ms k _ 0 h

mark_other : (k j : ℕ) (b : Bool) (ms : List ℕ) → (j ≡ k → ⊥) → get_or (mark_at k b ms) j 0 ≡ get_or ms j 0
unfolding mark_at
mark_other k j b ms n = get_or-set_other ms k j _ 0 n

-- ---- a table's test at a place
module _ (t : ℕ → Bool) (n p : ℕ) where
  tested : p < n → get_or (tabulate t n) p false ≡ t p
  tested h = table_get t n p false h

  untested : (p < n → t p ≡ false) → get_or (tabulate t n) p false ≡ false
  untested f = go (ltb p n) (ltb→lt p n) (nltb→le p n)
    where
      go : (b : Bool) → (T b → p < n) → (T (not b) → n ≤ p) → get_or (tabulate t n) p false ≡ false
      go true a b = tested (a tt) ∙ f (a tt)
      go false a b = get_or-eq_default (tabulate t n) false (subst (λ (m : ℕ). m ≤ p) (sym (tab_length t n)) (b tt))

-- ---- four bytes
-- four tests from s on are those of t, and t passes nowhere else below n
record FourTests (n : ℕ) (t : ℕ → Bool) (s : ℕ) (a b c d : Bool) : Type 0 where
  fit : s + 4 ≤ n
  first : a ≡ t s
  second : b ≡ t (s + 1)
  third : c ≡ t (s + 2)
  fourth : d ≡ t (s + 3)
  below : (k : ℕ) → k < s → t k ≡ false
  above : (k : ℕ) → s + 4 ≤ k → k < n → t k ≡ false

module _ {n : ℕ} {t : ℕ → Bool} {s : ℕ} {a b c d : Bool} (v : FourTests n t s a b c d) (ms : List ℕ) (h : n ≤ length ms) where
  abbrev one : List ℕ
  one = mark_at s a ms

  abbrev two : List ℕ
  two = mark_at (s + 1) b one

  abbrev three : List ℕ
  three = mark_at (s + 2) c two

  abbrev Right : ℕ → Type 0
  Right p = get_or (four_at s a b c d ms) p 0 ≡ cond (get_or (tabulate t n) p false) 1 (get_or ms p 0)

  sizes : (length one ≡ length ms) × (length two ≡ length ms) × (length three ≡ length ms)
  sizes =
      let first = mark_length s a ms in
      let second = mark_length (s + 1) b one ∙ first in
      (first, second, mark_length (s + 2) c two ∙ second)

  -- a byte of the four has its own mark
  own : (p : ℕ) (e : Bool) → p < n → e ≡ t p → get_or (four_at s a b c d ms) p 0 ≡ cond e 1 (get_or ms p 0) → Right p
  own p e l q r = r ∙ ap (λ (f : Bool). cond f 1 (get_or ms p 0)) (q ∙ sym (tested t n p l))

  at_first : Right s
  at_first =
      own s a (omega (arith, v.fit)) v.first
      (mark_other (s + 3) s d three (λ e. omega arith) ∙ mark_other (s + 2) s c two (λ e. omega arith)
      ∙ mark_other (s + 1) s b one (λ e. omega arith) ∙ mark_same s a ms (omega (arith, v.fit)))

  at_second : Right (s + 1)
  at_second =
      own (s + 1) b (omega (arith, v.fit)) v.second
      (mark_other (s + 3) (s + 1) d three (λ e. omega arith) ∙ mark_other (s + 2) (s + 1) c two (λ e. omega arith)
      ∙ mark_same (s + 1) b one (omega (arith, v.fit, sizes.0))
      ∙ ap (cond b 1) (mark_other s (s + 1) a ms (λ e. omega arith)))

  at_third : Right (s + 2)
  at_third =
      own (s + 2) c (omega (arith, v.fit)) v.third
      (mark_other (s + 3) (s + 2) d three (λ e. omega arith) ∙ mark_same (s + 2) c two (omega (arith, v.fit, sizes.1))
      ∙ ap (cond c 1) (mark_other (s + 1) (s + 2) b one (λ e. omega arith) ∙ mark_other s (s + 2) a ms (λ e. omega arith)))

  at_fourth : Right (s + 3)
  at_fourth =
      own (s + 3) d (omega (arith, v.fit)) v.fourth
      (mark_same (s + 3) d three (omega (arith, v.fit, sizes.2))
      ∙ ap (cond d 1)
      (mark_other (s + 2) (s + 3) c two (λ e. omega arith) ∙ mark_other (s + 1) (s + 3) b one (λ e. omega arith)
      ∙ mark_other s (s + 3) a ms (λ e. omega arith)))

  -- any other byte stays, as its test does not pass
  elsewhere : (p : ℕ) → (p < s) ⊎ (s + 4 ≤ p) → Right p
  elsewhere p w =
      mark_other (s + 3) p d three (apart 3 (lit< tt) w) ∙ mark_other (s + 2) p c two (apart 2 (lit< tt) w)
      ∙ mark_other (s + 1) p b one (apart 1 (lit< tt) w) ∙ mark_other s p a ms (not_first w)
      ∙ ap (λ (f : Bool). cond f 1 (get_or ms p 0)) (sym (untested t n p (silent w)))
    where
      apart : (i : ℕ) → i < 4 → (p < s) ⊎ (s + 4 ≤ p) → p ≡ s + i → ⊥
      apart i b (inl l) e = omega arith
      apart i b (inr l) e = omega arith

      not_first : (p < s) ⊎ (s + 4 ≤ p) → p ≡ s → ⊥
      not_first (inl l) e = omega arith
      not_first (inr l) e = omega arith

      silent : (p < s) ⊎ (s + 4 ≤ p) → p < n → t p ≡ false
      silent (inl l) k = v.below p l
      silent (inr l) k = v.above p l k

  each : (p : ℕ) → Right p
  each p = go (ltb p s) (ltb→lt p s) (nltb→le p s)
    where
      from : (i : ℕ) → p ≡ s + i → Right p
      from zero e = subst Right (sym (e ∙ add-zero s)) at_first
      from (suc zero) e = subst Right (sym e) at_second
      from (suc (suc zero)) e = subst Right (sym e) at_third
      from (suc (suc (suc zero))) e = subst Right (sym e) at_fourth
      from (suc (suc (suc (suc i)))) e = elsewhere p (inr (omega arith))

      go : (b : Bool) → (T b → p < s) → (T (not b) → s ≤ p) → Right p
      go true a b = elsewhere p (inl (a tt))
      go false a b = let l : s ≤ p = b tt in from (p - s) (omega arith)

  four_at_lem : four_at s a b c d ms ≡ marked_by (tabulate t n) ms
  four_at_lem =
      ext_get_or 0 (four_at s a b c d ms) (marked_by (tabulate t n) ms) (size ∙ sym (marked_length (tabulate t n) ms))
      (λ p l. each p ∙ sym (marked_get (tabulate t n) ms p (subst (λ (m : ℕ). p < m) size l)))
    where
      size : length (four_at s a b c d ms) ≡ length ms
      size = mark_length (s + 3) d three ∙ sizes.2

-- ---- four values and the slopes of the same coefficients
module _ {g : Grid} {x : Float} {r : Eight} (v : Both g x r) where
  abbrev test : ℕ → Bool
  test k = touches (basis_of g) k x

  -- the slopes stand at the values' indices
  slopes_there : (i : ℕ) (y : Float) → Alike y (slope_of g (r.slopes.start + i) x) → Alike y (slope_of g (r.values.start + i) x)
  slopes_there i y a = rw v.start at a

  tests : FourTests (g.intervals + 3) test r.values.start (touches_by r.values.first r.slopes.first)
      (touches_by r.values.second r.slopes.second) (touches_by r.values.third r.slopes.third)
      (touches_by r.values.fourth r.slopes.fourth)
  unfolding touches
  tests =
      record {
        fit = v.values.fit;
        first = touches_alike _ _ _ _ v.values.first (rw v.start at v.slopes.first);
        second = touches_alike _ _ _ _ v.values.second (slopes_there 1 _ v.slopes.second);
        third = touches_alike _ _ _ _ v.values.third (slopes_there 2 _ v.slopes.third);
        fourth = touches_alike _ _ _ _ v.values.fourth (slopes_there 3 _ v.slopes.fourth);
        below = λ k l. touches_none _ _ (v.values.below k l) (v.slopes.below k (rw v.start l));
        above = λ k l m. touches_none _ _ (v.values.above k l m) (v.slopes.above k (rw v.start l) m);
      }

  pub four_marked_lem : (ms : List ℕ) → g.intervals + 3 ≤ length ms → four_marked r ms ≡ marked_by (tabulate test (g.intervals + 3)) ms
  four_marked_lem ms h = four_at_lem tests ms h
