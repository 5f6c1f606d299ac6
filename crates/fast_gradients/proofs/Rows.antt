-- Numbers added from a place on, and to row after row: added input by input, they are those of the whole layer.
-- Assumes nothing.
use mathlib.Core.Path.{◌≡◌, refl, sym, ap, ◌∙◌}
use Prim.Native.Nat.{ℕ, zero, suc, ◌+◌, ◌-◌, ◌*◌, ◌≤◌, ◌<◌}
use native.Mathlib.Nat.{le_refl, lt-suc_self}
use native.Mathlib.Numerals.{add-one}
use native.Mathlib.Omega.{arith}
use mathlib.Core.List.{List, [], ◌++◌, append_assoc}
use lib.ListN.{length, take, drop, length-append, length-drop, take-append-drop, get_or-append}
use lib.Seq.{length-take-le, take-append-le, drop-append-le, take-append-add, drop-append-add, take_at, drop_at}
use lib.Ieee.{Float, nan}
use borrow.Rule.Slice.PartMut.{put_mid}
use Rattle.floats.specs.Binary32.{◌⊕◌}
use Rattle.floats.specs.Sums.{tabulate, flat_to, at}
use Rattle.floats.proofs.Loops.{tab_ext, flat_length, put_rest, room}
use Rattle.gradients.specs.Steps.{plus_at, plus_of}
use Rattle.gradients.proofs.Adding.{plus_length, plus_append, plus_first}
use Rattle.fast_gradients.specs.Adding.{plus_from, plus_each}

-- ---- one list added from a place on
pub from_length : (a : ℕ) (ds ys : List Float) → a + length ys ≤ length ds → length (plus_from a ds ys) ≡ length ds
unfolding plus_from
from_length a ds ys h =
    let front : length (take a ds) ≡ a = length-take-le a ds (omega arith) in
    let back : length (plus_of (drop a ds) ys) ≡ length (drop a ds) =
    plus_length (drop a ds) ys (rw length-drop (omega arith)) in
    length-append (take a ds) (plus_of (drop a ds) ys) ∙ rw (front, back, length-drop) (omega arith)

-- what lies after it is untouched
plus_front : (qs ts ys : List Float) → length ys ≤ length qs → plus_of (qs ++ ts) ys ≡ plus_of qs ys ++ ts
unfolding plus_of
plus_front qs ts ys h =
    let m = length ys in
    ap (λ (l : List Float). l ++ drop m (qs ++ ts)) (tab_ext (plus_at (qs ++ ts) ys) (plus_at qs ys) m (λ k l.
    ap (λ (y : Float). y ⊕ at ys k) (get_or-append qs ts nan k (omega arith))))
    ∙ ap (λ (l : List Float). tabulate (plus_at qs ys) m ++ l) (drop-append-le m qs ts h)
    ∙ sym (append_assoc (tabulate (plus_at qs ys) m) (drop m qs) ts)

from_front : (a : ℕ) (qs ts ys : List Float) → a + length ys ≤ length qs
    → plus_from a (qs ++ ts) ys ≡ plus_from a qs ys ++ ts
unfolding plus_from
from_front a qs ts ys h =
    let k : a ≤ length qs = omega arith in
    let l : length ys ≤ length (drop a qs) = rw length-drop (omega arith) in
    rw (take-append-le a qs ts k, drop-append-le a qs ts k, plus_front (drop a qs) ts ys l)
    (sym (append_assoc (take a qs) _ ts))

from_at : (a : ℕ) (qs ts ys : List Float) → length qs ≡ a → plus_from a (qs ++ ts) ys ≡ qs ++ plus_of ts ys
unfolding plus_from
from_at a qs ts ys h = rw (take_at qs ts a h, drop_at qs ts a h)

-- two that lie apart, in either order
from_past : (b c : ℕ) (ds ys zs : List Float) → b + length zs ≤ c → c ≤ length ds
    → plus_from b (plus_from c ds ys) zs ≡ plus_from c (plus_from b ds zs) ys
from_past b c ds ys zs h k =
    let qs = take c ds in
    let ts = drop c ds in
    let long : length qs ≡ c = length-take-le c ds k in
    let whole : ds ≡ qs ++ ts = sym (take-append-drop c ds) in
    let left : plus_from c ds ys ≡ qs ++ plus_of ts ys = ap (λ (l : List Float). plus_from c l ys) whole
    ∙ from_at c qs ts ys long in
    let right : plus_from b ds zs ≡ plus_from b qs zs ++ ts =
    ap (λ (l : List Float). plus_from b l zs) whole ∙ from_front b qs ts zs (omega arith) in
    ap (λ (l : List Float). plus_from b l zs) left ∙ from_front b qs (plus_of ts ys) zs (omega arith)
    ∙ sym (ap (λ (l : List Float). plus_from c l ys) right
    ∙ from_at c (plus_from b qs zs) ts ys (from_length b qs zs (omega arith) ∙ long))

-- two that adjoin
from_more : (a b : ℕ) (ds ys zs : List Float) → b ≡ a + length ys → a ≤ length ds
    → plus_from b (plus_from a ds ys) zs ≡ plus_from a ds (ys ++ zs)
unfolding plus_from
from_more a b ds ys zs e h =
    let qs = take a ds in
    let ts = plus_of (drop a ds) ys in
    let long : length qs ≡ a = length-take-le a ds h in
    let place : b ≡ length qs + length ys = e ∙ ap (λ (n : ℕ). n + length ys) (sym long) in
    rw (place, take-append-add qs ts (length ys), drop-append-add qs ts (length ys), append_assoc)
    (ap (λ (l : List Float). qs ++ l) (plus_append (drop a ds) ys zs))

from_none : (a : ℕ) (ds : List Float) → plus_from a ds [] ≡ ds
unfolding plus_from plus_of tabulate
from_none a ds = take-append-drop a ds

-- ---- a list for each of n places
module _ (p : ℕ → ℕ) (f : ℕ → List Float) where
  pub each_length : (ds : List Float) (n : ℕ) → ((o : ℕ) → o < n → p o + length (f o) ≤ length ds)
      → length (plus_each p f ds n) ≡ length ds
  unfolding plus_each
  each_length ds zero h = refl
  each_length ds (suc n) h =
      let before = each_length ds n (λ o l. h o (omega arith)) in
      from_length (p n) (plus_each p f ds n) (f n) (omega (arith, h n (lt-suc_self n))) ∙ before

  -- places that all lie before c
  each_past : (c : ℕ) (ds ys : List Float) (n : ℕ) → ((o : ℕ) → o < n → p o + length (f o) ≤ c) → c ≤ length ds
      → plus_each p f (plus_from c ds ys) n ≡ plus_from c (plus_each p f ds n) ys
  unfolding plus_each
  each_past c ds ys zero h k = refl
  each_past c ds ys (suc n) h k =
      let long = each_length ds n (λ o l. omega (arith, h o (omega arith))) in
      ap (λ (l : List Float). plus_from (p n) l (f n)) (each_past c ds ys n (λ o l. h o (omega arith)) k)
      ∙ from_past (p n) c (plus_each p f ds n) ys (f n) (h n (lt-suc_self n)) (omega arith)

-- ---- a loop that adds f 0, f 1, .., f (n - 1) to ds, each from its place on: after o turns
pub record Each (p : ℕ → ℕ) (f : ℕ → List Float) (n : ℕ) (ds e : List Float) (o : ℕ) : Type 0 where
  pub bound : o ≤ n
  pub size : length e ≡ length ds
  pub sums : e ≡ plus_each p f ds o

module _ {p : ℕ → ℕ} {f : ℕ → List Float} {n : ℕ} {ds : List Float} where
  pub each_none : Each p f n ds ds 0
  unfolding plus_each
  each_none = record { bound = omega arith; size = refl; sums = refl }

  -- a turn that lends the rest from the o-th place on
  pub each_more : {e : List Float} {o : ℕ} (y : List Float) → Each p f n ds e o → o < n → p o + length (f o) ≤ length ds
      → y ≡ plus_of (drop (p o) e) (f o) → Each p f n ds (put_mid (p o) (length e - p o) e y) (o + 1)
  unfolding plus_each plus_from
  each_more {e} {o} y s l h q =
      let new : put_mid (p o) (length e - p o) e y ≡ plus_from (p o) e (f o) =
      put_rest (p o) e y (omega (arith, s.size)) ∙ ap (λ (z : List Float). take (p o) e ++ z) q in
      record {
        bound = omega arith;
        size = ap length new ∙ from_length (p o) e (f o) (omega (arith, s.size)) ∙ s.size;
        sums = new ∙ ap (λ (z : List Float). plus_from (p o) z (f o)) s.sums ∙ ap (plus_each p f ds) (sym (add-one o));
      }

-- ---- rows, to which one edge more is added each
pub rows_none : (p : ℕ → ℕ) (f : ℕ → ℕ → List Float) (ds : List Float) (n : ℕ)
    → ds ≡ plus_each p (λ (o : ℕ). flat_to (f o) 0) ds n
unfolding plus_each flat_to
rows_none p f ds zero = refl
rows_none p f ds (suc n) = rows_none p f ds n ∙ sym (from_none (p n) (plus_each p (λ (o : ℕ). []) ds n))

module _ (row a s : ℕ) (f h : ℕ → List Float) (F : (o : ℕ) → length (f o) ≡ a) (H : (o : ℕ) → length (h o) ≡ s)
    (fit : a + s ≤ row) where
  rows_more : (ds : List Float) (n : ℕ) → n * row ≤ length ds
      → plus_each (λ (o : ℕ). o * row + a) h (plus_each (λ (o : ℕ). o * row) f ds n) n
      ≡ plus_each (λ (o : ℕ). o * row) (λ (o : ℕ). f o ++ h o) ds n
  unfolding plus_each
  rows_more ds zero k = refl
  rows_more ds (suc n) k =
      let P : ℕ → ℕ = λ o. o * row in
      let Q : ℕ → ℕ = λ o. o * row + a in
      let below = plus_each P f ds n in
      let both = plus_each P (λ (o : ℕ). f o ++ h o) ds n in
      let last : n * row + row ≤ length ds = room n (suc n) row (length ds) (lt-suc_self n) k in
      let long : length below ≡ length ds =
      each_length P f ds n (λ o l. omega (arith, F o, room o n row (n * row) l (le_refl (n * row)))) in
      let wide : length both ≡ length ds = each_length P (λ (o : ℕ). f o ++ h o) ds n (λ o l.
      rw length-append (omega (arith, F o, H o, room o n row (n * row) l (le_refl (n * row))))) in
      ap (λ (l : List Float). plus_from (n * row + a) l (h n))
      (each_past Q h (n * row) below (f n) n (λ o l. omega (arith, H o, room o n row (n * row) l (le_refl (n * row))))
      (omega arith)
      ∙ ap (λ (l : List Float). plus_from (n * row) l (f n)) (rows_more ds n (omega arith)))
      ∙ from_more (n * row) (n * row + a) both (f n) (h n) (omega (arith, F n)) (omega arith)

-- an input more
pub rows_turn : (row s : ℕ) (f : ℕ → ℕ → List Float) → ((o j : ℕ) → length (f o j) ≡ s)
    → (i n : ℕ) (ds e y : List Float)
    → i * s + s ≤ row → n * row ≤ length ds → e ≡ plus_each (λ (o : ℕ). o * row) (λ (o : ℕ). flat_to (f o) i) ds n
    → y ≡ plus_each (λ (o : ℕ). o * row + i * s) (λ (o : ℕ). f o i) e n
    → y ≡ plus_each (λ (o : ℕ). o * row) (λ (o : ℕ). flat_to (f o) (i + 1)) ds n
unfolding flat_to
rows_turn row s f size i n ds e y h k p q =
    q ∙ ap (λ (l : List Float). plus_each (λ (o : ℕ). o * row + i * s) (λ (o : ℕ). f o i) l n) p
    ∙ rows_more row (i * s) s (λ (o : ℕ). flat_to (f o) i) (λ (o : ℕ). f o i) (λ o. flat_length (f o) s (size o) i)
    (λ o. size o i) h ds n k
    ∙ ap (λ (j : ℕ). plus_each (λ (o : ℕ). o * row) (λ (o : ℕ). flat_to (f o) j) ds n) (sym (add-one i))

-- whole rows, one after the other
pub rows_whole : (row : ℕ) (f : ℕ → List Float) → ((o : ℕ) → length (f o) ≡ row) → (ds : List Float) (n : ℕ)
    → plus_each (λ (o : ℕ). o * row) f ds n ≡ plus_of ds (flat_to f n)
unfolding plus_each plus_from flat_to
rows_whole row f size ds zero = plus_first f ds
rows_whole row f size ds (suc n) =
    rw (rows_whole row f size ds n, ← flat_length f row size n) (plus_append ds (flat_to f n) (f n))
