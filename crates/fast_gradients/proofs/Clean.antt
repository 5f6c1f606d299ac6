-- Gradients of which none is -0.0: at the start, after a row's sums, in a part. Assumes nothing.
use mathlib.Core.Path.{◌≡◌, sym, ◌∙◌, subst}
use Prim.Native.Nat.{ℕ, zero, suc, ◌+◌, ◌-◌, ◌≤◌, ◌<◌}
use native.Mathlib.Nat.{lt-suc_self}
use native.Mathlib.Omega.{arith}
use mathlib.Core.Bool.{Bool, true, false, not}
use mathlib.Core.List.{List, ◌++◌}
use lib.Dec.{T, ltb, ltb→lt, nltb→le}
use lib.ListN.{length, take, drop, length-append, get_or-append}
use lib.Seq.{length-take-le, get_or-append-add, get_or-take, get_or-drop}
use lib.Ieee.{Float, nan, binary32, fits}
use lib.Ieee.Fits.{mul-fits}
use Rattle.floats.specs.Binary32.{zero32}
use Rattle.floats.specs.Sums.{tabulate, all_to, flat_to, at, zeros}
use Rattle.floats.specs.Zeros.{is_minus_zero}
use Rattle.floats.proofs.Loops.{tab_length, tab_get, all_each, table_get}
use Rattle.floats.proofs.Sums.{Plain, plain_zero, add_plain}
use Rattle.local_basis.proofs.Found.{yes}
use Rattle.layers.specs.Basis.{Basis}
use Rattle.gradients.specs.Gradient.{slot_of, layer_slots}
use Rattle.gradients.specs.Steps.{plus_at, plus_of}
use Rattle.fast_gradients.specs.Adding.{Clean, not_minus_zero, Tested, plus_from, plus_each}
use Rattle.fast_gradients.proofs.Rows.{each_length}

abbrev Kept : Float → Type 0
Kept x = T (fits binary32 x) × T (not (is_minus_zero x))

pub clean_at : (n : ℕ) (ds : List Float) → Clean n ds → (k : ℕ) → k < n → Plain (at ds k)
clean_at n ds h k l = let q = h k l in record { held = q.0; plus = q.1 }

pub clean_zeros : (n : ℕ) (ds : List Float) → Clean n (zeros n ++ ds)
clean_zeros n ds k h =
    let z : Kept zero32 = (plain_zero.held, plain_zero.plus) in
    subst Kept (sym (tab_get (λ (i : ℕ). zero32) n k h ds nan)) z

-- a test of every number of a slice, whose numbers are f32s
pub tested : (ds : List Float) (r : Bool) → r ≡ all_to (not_minus_zero ds) (length ds)
    → ((k : ℕ) → T (fits binary32 (at ds k))) → Tested ds r
tested ds r e held = record {
  answer = e;
  clean = λ p k l. (held k, yes (all_each (not_minus_zero ds) (length ds) (sym e ∙ p) k l));
}

pub clean_part : (a n m : ℕ) (ds : List Float) → a + n ≤ m → Clean m ds → Clean n (drop a ds)
clean_part a n m ds h c k l = subst Kept (sym (get_or-drop a ds k nan)) (c (a + k) (omega arith))

-- ---- what holds of each number of a list
each_append : (P : Float → Type 0) (xs ys : List Float) (n : ℕ) → ((k : ℕ) → k < length xs → k < n → P (at xs k))
    → ((k : ℕ) → length xs + k < n → P (at ys k)) → (k : ℕ) → k < n → P (at (xs ++ ys) k)
each_append P xs ys n f h k l = go (ltb k (length xs)) (ltb→lt k (length xs)) (nltb→le k (length xs))
  where
    go : (b : Bool) → (T b → k < length xs) → (T (not b) → length xs ≤ k) → P (at (xs ++ ys) k)
    go true a b = subst P (sym (get_or-append xs ys nan k (a tt))) (f k (a tt) l)
    go false a b =
        let past = b tt in
        let q = k - length xs in
        let same : length xs + q ≡ k = omega arith in
        subst (λ (j : ℕ). P (at (xs ++ ys) j)) same (subst P (sym (get_or-append-add xs ys q nan)) (h q (omega arith)))

each_table : (P : Float → Type 0) (f : ℕ → Float) (n k : ℕ) → k < length (tabulate f n) → P (f k)
    → P (at (tabulate f n) k)
each_table P f n k h p =
    let l : k < n = omega (arith, tab_length f n) in
    subst P (sym (table_get f n k nan l)) p

-- ---- sums: what is added is an f32 too, as every product is
abbrev pub Held : List Float → Type 0
Held ys = (k : ℕ) → k < length ys → T (fits binary32 (at ys k))

pub flat_held : (f : ℕ → List Float) → ((j : ℕ) → Held (f j)) → (n : ℕ) → Held (flat_to f n)
unfolding flat_to
flat_held f h zero k l = absurd (omega arith)
flat_held f h (suc n) k l =
    let size = length-append (flat_to f n) (f n) in
    each_append (λ (x : Float). T (fits binary32 x)) (flat_to f n) (f n) (length (flat_to f n ++ f n))
    (λ j m _. flat_held f h n j m) (λ j m. h n j (omega arith)) k l

slot_held : (B : Basis) (ps : List Float) (x up : Float) (s : ℕ) → T (fits binary32 (slot_of B ps x up s))
unfolding slot_of
slot_held B ps x up zero = mul-fits binary32 up _
slot_held B ps x up (suc zero) = mul-fits binary32 up _
slot_held B ps x up (suc (suc k)) = mul-fits binary32 _ _

pub edge_held : (B : Basis) (ps : List Float) (x up : Float) (n : ℕ) → Held (tabulate (slot_of B ps x up) n)
edge_held B ps x up n k l = each_table (λ (y : Float). T (fits binary32 y)) (slot_of B ps x up) n k l
    (slot_held B ps x up k)

pub layer_held : (B : Basis) (ps xs ups : List Float) → Held (layer_slots B ps xs ups)
unfolding layer_slots
layer_held B ps xs ups = flat_held _ (λ o. flat_held _ (λ i. edge_held B _ _ _ _) (length xs)) (length ups)

pub clean_plus : (n : ℕ) (ds ys : List Float) → Held ys → Clean n ds → Clean n (plus_of ds ys)
unfolding plus_of
clean_plus n ds ys h c =
    let m = length ys in
    each_append Kept (tabulate (plus_at ds ys) m) (drop m ds) n
    (λ k l b.
    let j : k < m = omega (arith, tab_length (plus_at ds ys) m) in
    let p = add_plain (at ds k) (at ys k) (clean_at n ds c k b) (h k j) in
    each_table Kept (plus_at ds ys) m k l (p.held, p.plus))
    (λ k l. subst Kept (sym (get_or-drop m ds k nan)) (c (m + k) (omega (arith, tab_length (plus_at ds ys) m))))

clean_from : (n a : ℕ) (ds ys : List Float) → a ≤ length ds → Held ys → Clean n ds → Clean n (plus_from a ds ys)
unfolding plus_from
clean_from n a ds ys h held c =
    let long : length (take a ds) ≡ a = length-take-le a ds h in
    each_append Kept (take a ds) (plus_of (drop a ds) ys) n
    (λ k l b. subst Kept (sym (get_or-take a ds k nan (omega arith))) (c k b))
    (λ k l. clean_plus (suc k) (drop a ds) ys held (clean_part a (suc k) n ds (omega arith) c) k (lt-suc_self k))

pub clean_each : (p : ℕ → ℕ) (f : ℕ → List Float) (n : ℕ) (ds : List Float) (m : ℕ)
    → ((o : ℕ) → o < m → p o + length (f o) ≤ length ds) → ((o : ℕ) → Held (f o)) → Clean n ds
    → Clean n (plus_each p f ds m)
unfolding plus_each
clean_each p f n ds zero h held c = c
clean_each p f n ds (suc m) h held c =
    let before : (o : ℕ) → o < m → p o + length (f o) ≤ length ds = λ o l. h o (omega arith) in
    clean_from n (p m) (plus_each p f ds m) (f m)
    (omega (arith, each_length p f ds m before, h m (lt-suc_self m))) (held m)
    (clean_each p f n ds m before held c)
