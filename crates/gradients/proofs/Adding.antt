-- Numbers added cell by cell to the front of a list: one cell more, one part more. Assumes nothing.
use mathlib.Core.Path.{◌≡◌, refl, sym, ap, ◌∙◌}
use mathlib.Core.List.{List, [], ◌∷◌, ◌++◌, append_assoc, append-nil}
use Prim.Native.Nat.{ℕ, zero, suc, ◌+◌, ◌-◌, ◌*◌, ◌≤◌, ◌<◌}
use native.Mathlib.Nat.{add-zero, add-suc}
use native.Mathlib.Numerals.{add-one}
use native.Mathlib.Omega.{arith}
use lib.ListN.{length, take, drop, set, length-append, length-drop, get_or-append}
use lib.Seq.{get_or-append-add, get_or-drop, drop-drop, drop_at, take_at, set_split, drop-cons}
use Rattle.std.proofs.lemmas.List.{drop_all, get_or-take, length-take-le}
use lib.Ieee.{Float, nan}
use borrow.Rule.Slice.PartMut.{put_mid}
use Rattle.floats.specs.Binary32.{◌⊕◌}
use Rattle.floats.specs.Sums.{tabulate, flat_to, at}
use Rattle.floats.proofs.Loops.{tab_length, tab_ext, put_rest, flat_length}
use Rattle.gradients.specs.Steps.{plus_at, plus_of}

-- a table of m + n numbers is one of m and one of n
pub tab_split : {A : Type 0} (f : ℕ → A) (m n : ℕ)
    → tabulate f (m + n) ≡ tabulate f m ++ tabulate (λ (k : ℕ). f (m + k)) n
unfolding tabulate
tab_split f m zero = rw (add-zero m, append-nil)
tab_split f m (suc n) = rw (add-suc m n, tab_split f m n, append_assoc)

pub plus_length : (ds ys : List Float) → length ys ≤ length ds → length (plus_of ds ys) ≡ length ds
unfolding plus_of
plus_length ds ys h = rw (length-append, tab_length, length-drop) (omega arith)

pub plus_rest : (ds ys : List Float) → drop (length ys) (plus_of ds ys) ≡ drop (length ys) ds
unfolding plus_of
plus_rest ds ys = drop_at (tabulate (plus_at ds ys) (length ys)) (drop (length ys) ds) (length ys)
    (tab_length _ (length ys))

-- what is added to the front of ds alone
pub plus_front : (ds ys : List Float) (n : ℕ) → length ys ≡ n → n ≤ length ds → plus_of (take n ds) ys ++ drop n ds ≡ plus_of ds ys
unfolding plus_of
plus_front ds ys n e h =
    let whole : drop n (take n ds) ≡ [] = drop_all n (take n ds) (omega (arith, length-take-le n ds h)) in
    let same : tabulate (plus_at (take n ds) ys) n ≡ tabulate (plus_at ds ys) n =
    tab_ext _ _ n (λ k l. ap (λ (y : Float). y ⊕ at ys k) (get_or-take n ds k nan l)) in
    rw (e, whole, append-nil, same)

-- before the first cell, and before the first part
pub plus_start : (f : ℕ → Float) (ds : List Float) → ds ≡ plus_of ds (tabulate f 0)
unfolding plus_of tabulate
plus_start f ds = refl

pub plus_first : (f : ℕ → List Float) (ds : List Float) → ds ≡ plus_of ds (flat_to f 0)
unfolding plus_of tabulate flat_to
plus_first f ds = refl

-- first ys, then zs after them
pub plus_append : (ds ys zs : List Float)
    → take (length ys) (plus_of ds ys) ++ plus_of (drop (length ys) (plus_of ds ys)) zs ≡ plus_of ds (ys ++ zs)
unfolding plus_of
plus_append ds ys zs =
    let m = length ys in
    let n = length zs in
    let f : ℕ → Float = plus_at ds (ys ++ zs) in
    let front : tabulate (plus_at ds ys) m ≡ tabulate f m = tab_ext (plus_at ds ys) f m (λ k h.
    ap (λ (y : Float). at ds k ⊕ y) (sym (get_or-append ys zs nan k h))) in
    let back : tabulate (plus_at (drop m ds) zs) n ≡ tabulate (λ (k : ℕ). f (m + k)) n =
    tab_ext (plus_at (drop m ds) zs) _ n (λ k h.
    ap (λ (y : Float). y ⊕ at zs k) (get_or-drop m ds k nan)
    ∙ ap (λ (y : Float). at ds (m + k) ⊕ y) (sym (get_or-append-add ys zs k nan))) in
    rw (take_at (tabulate (plus_at ds ys) m) (drop m ds) m (tab_length _ m), plus_rest ds ys, front, back)
    (rw (drop-drop, length-append ys zs, tab_split f m n, append_assoc))

-- lists one after the other, each the same
pub flat_ext : {A : Type 0} (f h : ℕ → List A) (n : ℕ) → ((k : ℕ) → k < n → f k ≡ h k) → flat_to f n ≡ flat_to h n
unfolding flat_to
flat_ext f h zero e = refl
flat_ext f h (suc n) e = rw (flat_ext f h n (λ k l. e k (omega arith)), e n (omega arith))

-- a call that was lent the rest from place a on has added zs there
pub plus_part : (ds ys zs : List Float) (a : ℕ) (e y : List Float) → e ≡ plus_of ds ys → length ys ≡ a → a ≤ length e
    → y ≡ plus_of (drop a e) zs → put_mid a (length e - a) e y ≡ plus_of ds (ys ++ zs)
plus_part ds ys zs a e y p q h r = put_rest a e y h ∙ rw (r, ← q, p) (plus_append ds ys zs)

-- ---- a loop that adds n parts f 0, f 1, .. one after the other to the front of ds: after j turns
pub record Parts (f : ℕ → List Float) (n : ℕ) (ds e : List Float) (j : ℕ) : Type 0 where
  pub bound : j ≤ n
  pub size : length e ≡ length ds
  pub sums : e ≡ plus_of ds (flat_to f j)

module _ {f : ℕ → List Float} {n : ℕ} {ds : List Float} where
  pub parts_none : Parts f n ds ds 0
  parts_none = record { bound = omega arith; size = refl; sums = plus_first f ds }

  -- a turn that lends the rest from the j-th part on, where each part has s cells
  pub parts_more : {e : List Float} {j : ℕ} (s : ℕ) (y : List Float) → ((k : ℕ) → length (f k) ≡ s)
      → Parts f n ds e j → j < n
      → j * s + s ≤ length ds → y ≡ plus_of (drop (j * s) e) (f j)
      → Parts f n ds (put_mid (j * s) (length e - j * s) e y) (j + 1)
  unfolding flat_to
  parts_more {e} {j} s y lengths p l h q =
      let new : put_mid (j * s) (length e - j * s) e y ≡ plus_of ds (flat_to f j ++ f j) =
      plus_part ds (flat_to f j) (f j) (j * s) e y p.sums (flat_length f s lengths j) (omega (arith, p.size)) q in
      let long : length (flat_to f j ++ f j) ≡ j * s + s = length-append (flat_to f j) (f j)
      ∙ rw (flat_length f s lengths j, lengths j) in
      record {
        bound = omega arith;
        size = ap length new ∙ plus_length ds (flat_to f j ++ f j) (omega arith);
        sums = new ∙ ap (λ (k : ℕ). plus_of ds (flat_to f k)) (sym (add-one j));
      }

  pub parts_all : {e : List Float} {j : ℕ} → Parts f n ds e j → n ≤ j → e ≡ plus_of ds (flat_to f n)
  parts_all {e} {j} p h = let last : j ≡ n = omega (arith, p.bound) in rw last at p.sums

-- a turn that adds to one cell
pub plus_one : (f : ℕ → Float) (k : ℕ) (ds e : List Float) (y : Float) → e ≡ plus_of ds (tabulate f k) → k < length ds
    → y ≡ at e k ⊕ f k
    → set e k y ≡ plus_of ds (tabulate f (k + 1))
unfolding plus_of tabulate
plus_one f k ds e y p h q =
    let n : length (tabulate f k) ≡ k = tab_length f k in
    let l : k < length e = omega (arith, ap length p, plus_length ds (tabulate f k) (omega arith)) in
    let more : take k e ++ plus_of (drop k e) (f k ∷ []) ≡ plus_of ds (tabulate f k ++ (f k ∷ [])) =
    rw (← p, n) at (plus_append ds (tabulate f k) (f k ∷ [])) in
    let cell : y ∷ drop (suc k) e ≡ plus_of (drop k e) (f k ∷ []) = rw (q, drop-cons e k nan l) in
    set_split e k y l ∙ ap (λ (z : List Float). take k e ++ z) cell ∙ more ∙ rw (add-one k)
