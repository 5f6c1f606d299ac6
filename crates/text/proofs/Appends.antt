-- Texts put one behind the other. Assumes nothing.
use Prim.Native.Nat.{ℕ, ◌+◌, ◌*◌, ◌≤◌}
use native.Mathlib.Nat.{add_assoc, mul-add}
use native.Mathlib.Numerals.{add-one}
use native.Mathlib.Omega.{arith}
use mathlib.Core.Path.{◌≡◌, sym, ap, ◌∙◌, subst}
use mathlib.Core.List.{List, [], ◌++◌, append_assoc}
use lib.ListN.{length, take, drop, length-append, length-drop, take-append-drop}
use lib.Seq.{take_at, drop_at, drop-drop, length-take-le}
use Rattle.floats.specs.Sums.{flat_to}
use Rattle.text.specs.Appended.{Appended, AppendedWithin}

-- ---- one behind the other
module _ {o t o' u o'' : List ℕ} {a n m : ℕ} (p : Appended o a t o' n) (q : Appended o' n u o'' m) where
  head : length (take a o ++ t) ≡ n
  head =
      let inside : a ≤ length o = omega (arith, p.room) in
      length-append (take a o) t ∙ rw (length-take-le a o inside) (sym p.place)

  whole : o' ≡ (take a o ++ t) ++ drop (a + length t) o
  whole = p.bytes ∙ sym (append_assoc (take a o) t (drop (a + length t) o))

  front : take n o' ≡ take a o ++ t
  front = rw whole (take_at (take a o ++ t) _ n head)

  behind : drop n o' ≡ drop (a + length t) o
  behind = rw whole (drop_at (take a o ++ t) _ n head)

  further : drop (n + length u) o' ≡ drop (a + length (t ++ u)) o
  further =
      sym (drop-drop (length u) n o') ∙ ap (drop (length u)) behind ∙ drop-drop (length u) (a + length t) o
      ∙ ap (λ (k : ℕ). drop k o)
      (add_assoc a (length t) (length u) ∙ ap (λ (k : ℕ). a + k) (sym (length-append t u)))

  kept : length o' ≡ length o
  kept =
      ap length whole ∙ simp (length-append, length-drop)
      (omega (arith, head, length-append (take a o) t, p.room, p.place))

  pub both : Appended o a (t ++ u) o'' m
  both =
      let rest = drop (a + length (t ++ u)) o in
      record {
        place = q.place ∙ rw length-append (omega (arith, p.place));
        room = rw length-append (omega (arith, q.room, p.place, kept));
        bytes = q.bytes ∙ rw (front, further)
            (append_assoc (take a o) t (u ++ rest)
            ∙ ap (λ (l : List ℕ). take a o ++ l) (sym (append_assoc t u rest)));
      }

-- the same text in other words
pub retold : {o t u o' : List ℕ} {a n : ℕ} → Appended o a t o' n → t ≡ u → Appended o a u o' n
retold {o} {t} {u} {o'} {a} {n} p e = subst (λ (s : List ℕ). Appended o a s o' n) e p

-- ---- the same with bounds on the lengths
pub retold_within : {o t u o' : List ℕ} {a n m : ℕ} → AppendedWithin m o a t o' n → t ≡ u → AppendedWithin m o a u o' n
retold_within p e = record { whole = retold p.whole e; short = p.short }

pub within : {o t o' : List ℕ} {a n m : ℕ} → Appended o a t o' n → length t ≤ m → AppendedWithin m o a t o' n
within p h = record { whole = p; short = omega (arith, p.place, h) }

pub exact : {o t o' : List ℕ} {a n : ℕ} → Appended o a t o' n → AppendedWithin (length t) o a t o' n
exact p = record { whole = p; short = omega (arith, p.place) }

pub both_within : {o t o' u o'' : List ℕ} {a n k m₁ m₂ : ℕ} → AppendedWithin m₁ o a t o' n
    → AppendedWithin m₂ o' n u o'' k → AppendedWithin (m₁ + m₂) o a (t ++ u) o'' k
both_within p q = record { whole = both p.whole q.whole; short = omega (arith, p.short, q.short) }

-- ---- lines in a loop: none yet, and one line more
pub lines_none : (f : ℕ → List ℕ) (most : ℕ) (out : List ℕ) (at : ℕ) → at ≤ length out
    → AppendedWithin (most * 0) out at (flat_to f 0) out at
unfolding flat_to
lines_none f most out at h =
    let e : at + 0 ≡ at = omega arith in
    let nothing : Appended out at [] out at = record {
      place = sym e;
      room = rw e h;
      bytes = rw e (sym (take-append-drop at out));
    } in
    record { whole = nothing; short = omega arith }

pub lines_more : (f : ℕ → List ℕ) (most l : ℕ) {out out' out'' : List ℕ} {at next next' : ℕ}
    → AppendedWithin (most * l) out at (flat_to f l) out' next → AppendedWithin most out' next (f l) out'' next'
    → AppendedWithin (most * (l + 1)) out at (flat_to f (l + 1)) out'' next'
unfolding flat_to
lines_more f most l p q =
    let more : most * (l + 1) ≡ most * l + most = omega (arith, mul-add most l 1) in
    record { whole = rw add-one (both p.whole q.whole); short = omega (arith, more, p.short, q.short) }
