-- Two lists compared place by place, and the gradients of a layer so compared cell by cell. Assumes nothing.
use Prim.Native.Nat.{ℕ, zero, suc, ◌+◌, ◌-◌, ◌*◌, ◌≤◌, ◌<◌}
use native.Mathlib.Nat.{lt-suc_self}
use native.Mathlib.Omega.{arith}
use mathlib.Core.Path.{◌≡◌, refl, sym, ap, ◌∙◌, subst}
use mathlib.Core.Bool.{Bool, true, false, not}
use mathlib.Core.List.{List, ◌++◌}
use lib.Dec.{T, ltb, ltb→lt, nltb→le}
use lib.ListN.{length, drop, length-append, get_or-append, get_or-eq_default}
use lib.Seq.{get_or-append-add}
use lib.Ieee.{Float, nan}
use Rattle.floats.specs.Sums.{at, tabulate, flat_to}
use Rattle.floats.proofs.Loops.{tab_length, table_get, flat_length}
use Rattle.layers.specs.Basis.{Basis}
use Rattle.gradients.specs.Gradient.{slot_of, edge_slots, node_slots, layer_slots}
use Rattle.gradients.proofs.Edges.{node_length}

-- a relation of two numbers at a place
abbrev pub Relation : Type 1
Relation = ℕ → Float → Float → Type 0

abbrev pub Cells : Relation → List Float → List Float → Type 0
Cells R ys zs = (p : ℕ) → R p (at ys p) (at zs p)

-- a place lies within a list, or past its end
pub by_length : {X : Type 0} (p n : ℕ) → (p < n → X) → (n ≤ p → X) → X
by_length {X} p n f h = go (ltb p n) (ltb→lt p n) (nltb→le p n)
  where
    go : (b : Bool) → (T b → p < n) → (T (not b) → n ≤ p) → X
    go true a b = f (a tt)
    go false a b = h (b tt)

-- ---- a table, by its places
pub table_at : (f : ℕ → Float) (n p : ℕ) → p < n → at (tabulate f n) p ≡ f p
table_at f n p h = table_get f n p nan h

pub table_past : (f : ℕ → Float) (n p : ℕ) → n ≤ p → at (tabulate f n) p ≡ nan
table_past f n p h = get_or-eq_default (tabulate f n) nan (subst (λ (m : ℕ). m ≤ p) (sym (tab_length f n)) h)

cells_table : (R : Relation) → ((p : ℕ) → R p nan nan) → (f h : ℕ → Float) (n : ℕ) → ((p : ℕ) → p < n → R p (f p) (h p))
    → Cells R (tabulate f n) (tabulate h n)
cells_table R past f h n each p =
    by_length p n (λ l. rw (table_at f n p l, table_at h n p l) (each p l)) (λ l. rw (table_past f n p l, table_past h n p l) (past p))

-- ---- lists one after the other
cells_append : (R : Relation) (ys zs ys' zs' : List Float) → length ys ≡ length zs → Cells R ys zs
    → Cells (λ p. R (length ys + p)) ys' zs' → Cells R (ys ++ ys') (zs ++ zs')
cells_append R ys zs ys' zs' long first second p =
    by_length p (length ys)
    (λ l. rw (get_or-append ys ys' nan p l, get_or-append zs zs' nan p (subst (λ (n : ℕ). p < n) long l)) (first p))
    (λ l.
    let q = p - length ys in
    let same : length ys + q ≡ p = omega arith in
    let behind : at (zs ++ zs') (length ys + q) ≡ at zs' q =
    ap (λ (n : ℕ). at (zs ++ zs') (n + q)) long ∙ get_or-append-add zs zs' q nan in
    subst (λ (n : ℕ). R n (at (ys ++ ys') n) (at (zs ++ zs') n)) same (rw (get_or-append-add ys ys' q nan, behind) (second q)))

flat_sizes : (f h : ℕ → List Float) (n : ℕ) → ((j : ℕ) → j < n → length (f j) ≡ length (h j)) → length (flat_to f n) ≡ length (flat_to h n)
unfolding flat_to
flat_sizes f h zero e = refl
flat_sizes f h (suc n) e = simp length-append (rw (flat_sizes f h n (λ j l. e j (omega arith)), e n (lt-suc_self n)))

pub cells_flat : (R : Relation) → ((p : ℕ) → R p nan nan) → (f h : ℕ → List Float) (n : ℕ)
    → ((j : ℕ) → j < n → length (f j) ≡ length (h j)) → ((j : ℕ) → j < n → Cells (λ p. R (length (flat_to f j) + p)) (f j) (h j))
    → Cells R (flat_to f n) (flat_to h n)
unfolding flat_to
cells_flat R past f h zero sizes each = past
cells_flat R past f h (suc n) sizes each =
    let before : (j : ℕ) → j < n → length (f j) ≡ length (h j) = λ j l. sizes j (omega arith) in
    cells_append R (flat_to f n) (flat_to h n) (f n) (h n) (flat_sizes f h n before)
    (cells_flat R past f h n before (λ j l. each j (omega arith))) (each n (lt-suc_self n))

-- ---- what the parameters of a layer receive, from two starts of `dot`
abbrev pub beginning_at : Basis → Float → Basis
beginning_at B a = record {
  coefficients = B.coefficients;
  stride = B.stride;
  value = B.value;
  slope = B.slope;
  silu = B.silu;
  silu_slope = B.silu_slope;
  start = a;
}

pub cells_layer : (R : Relation) → ((p : ℕ) → R p nan nan) → (B : Basis) (a b : Float) (ps xs ups : List Float)
    → ((o i s : ℕ) → o < length ups → i < length xs → s < B.stride
    → R (o * (length xs * B.stride) + (i * B.stride + s))
    (slot_of (beginning_at B a) (drop (i * B.stride) (drop (o * (length xs * B.stride)) ps)) (at xs i) (at ups o) s)
    (slot_of (beginning_at B b) (drop (i * B.stride) (drop (o * (length xs * B.stride)) ps)) (at xs i) (at ups o) s))
    → Cells R (layer_slots (beginning_at B a) ps xs ups) (layer_slots (beginning_at B b) ps xs ups)
unfolding layer_slots
cells_layer R past B a b ps xs ups each =
    let per = B.stride in
    let row = length xs * per in
    let S = beginning_at B a in
    let Z = beginning_at B b in
    cells_flat R past (node_slots S ps xs ups) (node_slots Z ps xs ups) (length ups)
    (λ o ol. node_length S ps xs ups o ∙ sym (node_length Z ps xs ups o)) (λ o ol.
    rw (flat_length (node_slots S ps xs ups) row (node_length S ps xs ups) o)
    (cells_flat (λ p. R (o * row + p)) (λ p. past (o * row + p)) (edge_slots S (drop (o * row) ps) xs (at ups o))
    (edge_slots Z (drop (o * row) ps) xs (at ups o)) (length xs)
    (λ i il. tab_length _ per ∙ sym (tab_length _ per)) (λ i il.
    rw (flat_length (edge_slots S (drop (o * row) ps) xs (at ups o)) per (λ j. tab_length _ per) i)
    (cells_table (λ p. R (o * row + (i * per + p))) (λ p. past (o * row + (i * per + p))) _ _ per (λ s sl. each o i s ol il sl)))))
