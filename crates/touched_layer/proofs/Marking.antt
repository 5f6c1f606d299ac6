-- Bytes marked at the front of a list: one byte more, one part more. Assumes nothing.
use mathlib.Core.Path.{◌≡◌, refl, sym, ap, ◌∙◌}
use mathlib.Core.Bool.{Bool, true, false, cond}
use mathlib.Core.List.{List, [], ◌∷◌, ◌++◌}
use Prim.Native.Nat.{ℕ, zero, suc, ◌-◌, ◌≤◌, ◌<◌}
use native.Mathlib.Nat.{le_of_suc-le-suc}
use native.Mathlib.Omega.{arith}
use lib.ListN.{length, take, drop, get_or, set, replicate, replicate-append-replicate}
use native.Mathlib.Numerals.{add-one}
use lib.Seq.{set_split, drop-cons}
use borrow.Rule.Slice.PartMut.{put_mid}
use Rattle.floats.specs.Sums.{flat_to, tabulate}
use Rattle.touched_layer.specs.Touched.{blank}
use Rattle.floats.proofs.Loops.{put_rest}
use Rattle.touched_layer.specs.Marks.{marked_by}

pub marked_length : (bs : List Bool) (ms : List ℕ) → length (marked_by bs ms) ≡ length ms
unfolding marked_by
marked_length [] ms = refl
marked_length (b ∷ bs) [] = refl
marked_length (b ∷ bs) (m ∷ ms) = ap suc (marked_length bs ms)

-- the byte at a place
pub marked_get : (bs : List Bool) (ms : List ℕ) (p : ℕ) → p < length ms
    → get_or (marked_by bs ms) p 0 ≡ cond (get_or bs p false) 1 (get_or ms p 0)
unfolding marked_by
marked_get [] ms p h = refl
marked_get (b ∷ bs) [] p h = absurd (omega arith)
marked_get (b ∷ bs) (m ∷ ms) zero h = refl
marked_get (b ∷ bs) (m ∷ ms) (suc p) h = marked_get bs ms p (le_of_suc-le-suc h)

-- before the first part
pub marked_first : (f : ℕ → List Bool) (ms : List ℕ) → ms ≡ marked_by (flat_to f 0) ms
unfolding marked_by flat_to
marked_first f ms = refl

-- first by bs, then what lies behind them by cs
marked_append : (bs cs : List Bool) (ms : List ℕ) → length bs ≤ length ms
    → take (length bs) (marked_by bs ms) ++ marked_by cs (drop (length bs) (marked_by bs ms)) ≡ marked_by (bs ++ cs) ms
unfolding marked_by
marked_append [] cs ms h = refl
marked_append (b ∷ bs) cs [] h = absurd (omega arith)
marked_append (b ∷ bs) cs (m ∷ ms) h = ap (λ (l : List ℕ). cond b 1 m ∷ l) (marked_append bs cs ms (le_of_suc-le-suc h))

-- a call that was lent the rest from place a on has marked it by cs
pub marked_part : (bs cs : List Bool) (a : ℕ) (d e y : List ℕ) → e ≡ marked_by bs d → length bs ≡ a → a ≤ length e
    → y ≡ marked_by cs (drop a e) → put_mid a (length e - a) e y ≡ marked_by (bs ++ cs) d
marked_part bs cs a d e y p q h r =
    let l : length bs ≤ length d = omega (arith, ap length p, marked_length bs d) in
    put_rest a e y h ∙ rw (r, ← q, p) (marked_append bs cs d l)

-- a map that was marked is as long as before
pub marked_size : (bs : List Bool) (d e : List ℕ) → e ≡ marked_by bs d → length e ≡ length d
marked_size bs d e p = ap length p ∙ marked_length bs d

-- the byte behind the tests bs is set by one test more
pub marked_one : (bs : List Bool) (b : Bool) (p : ℕ) (d e : List ℕ) (y : ℕ) → e ≡ marked_by bs d → length bs ≡ p
    → p < length e → y ≡ cond b 1 (get_or e p 0) → set e p y ≡ marked_by (bs ++ (b ∷ [])) d
unfolding marked_by
marked_one bs b p d e y q n h r =
    let l : length bs ≤ length d = omega (arith, ap length q, marked_length bs d) in
    let byte : y ∷ drop (suc p) e ≡ marked_by (b ∷ []) (drop p e) = rw (r, drop-cons e p 0 h) in
    set_split e p y h ∙ rw (byte, ← n, q) (marked_append bs (b ∷ []) d l)

-- two bytes set, and the rest marked
pub marked_two : (bs : List Bool) (d y : List ℕ) → 2 ≤ length d → y ≡ marked_by bs (drop 2 (set (set d 0 1) 1 1))
    → put_mid 2 (length (set (set d 0 1) 1 1) - 2) (set (set d 0 1) 1 1) y ≡ marked_by (true ∷ true ∷ bs) d
unfolding marked_by
marked_two bs [] y h r = absurd (omega arith)
marked_two bs (m ∷ []) y h r = absurd (omega arith)
marked_two bs (m ∷ n ∷ ms) y h r = put_rest 2 (1 ∷ 1 ∷ ms) y (omega arith) ∙ ap (λ (l : List ℕ). 1 ∷ 1 ∷ l) r

-- bytes 0 as `fill` writes them
pub blank_is : (n : ℕ) → replicate n 0 ≡ blank n
unfolding tabulate
blank_is zero = refl
blank_is (suc n) =
    sym (rw add-one at (replicate-append-replicate {A = ℕ} n 1 0)) ∙ ap (λ (l : List ℕ). l ++ (0 ∷ [])) (blank_is n)
