-- A word that was written is read again, and words that were read, written again, are the bytes they were.
-- Assumes nothing.
use Prim.Native.Nat.{ℕ, zero, suc, ◌+◌, ◌*◌, ◌/◌, ◌%◌, ◌^◌, ◌≤◌, ◌<◌}
use native.Mathlib.Nat.{add-zero, add_assoc, suc-mul, eq-or-lt_of_le, le_of_suc-le-suc, lt-suc_self}
use native.Mathlib.Omega.{arith}
use mathlib.Core.Path.{◌≡◌, refl, sym, ap, ◌∙◌}
use mathlib.Core.Logic.{inl, inr}
use mathlib.Core.List.{List, ◌++◌, append_assoc}
use lib.ListN.{length, get_or, take, drop, length-take, length-drop}
use lib.Seq.{get_or-append-add, take-add, drop-drop}
use Rattle.std.proofs.lemmas.Bool.{cases_lt}
use Rattle.std.proofs.lemmas.List.{get_or-take, get_or-drop, get_or_past}
use Rattle.std.proofs.lemmas.Nat.{le_bytes_4, from_le_bytes-to_le_bytes_4}
use Rattle.floats.specs.Sums.{flat_to}
use Rattle.words.specs.Words.{Bytes, word_at, bytes_of, packed}
use Rattle.words.proofs.Packs.{packed_length}

-- ---- a word behind other bytes
skip_byte : (a r : List ℕ) (n k j : ℕ) → length a ≡ n → get_or (a ++ r) (n + k + j) 0 ≡ get_or r (k + j) 0
skip_byte a r n k j e = rw (← e, add_assoc) (get_or-append-add a r (k + j) 0)

pub skip : (a r : List ℕ) (n k : ℕ) → length a ≡ n → word_at (a ++ r) (n + k) ≡ word_at r k
unfolding word_at
skip a r n k e =
    rw (skip_byte a r n k 1 e, skip_byte a r n k 2 e, skip_byte a r n k 3 e)
    (ap (λ (b : ℕ). b + 256 * get_or r (k + 1) 0 + 65536 * get_or r (k + 2) 0 + 16777216 * get_or r (k + 3) 0)
    (rw (← e) (get_or-append-add a r k 0)))

-- ---- its four bytes and back
digits : (w : ℕ) → w < 2 ^ 32
    → w % 256 + 256 * (w / 256 % 256) + 65536 * (w / 65536 % 256) + 16777216 * (w / 16777216 % 256) ≡ w
digits w h = omega (arith, from_le_bytes-to_le_bytes_4 w h)

word_front : (w : ℕ) (r : List ℕ) → w < 2 ^ 32 → word_at (bytes_of w ++ r) 0 ≡ w
unfolding word_at bytes_of
word_front w r h = digits w h

-- the i-th of n written words
pub packed_at : (f : ℕ → ℕ) (n i : ℕ) (r : List ℕ) → i < n → f i < 2 ^ 32 → word_at (packed f n ++ r) (i * 4) ≡ f i
unfolding packed flat_to
packed_at f zero i r h s = absurd (omega arith)
packed_at f (suc n) i r h s =
    ap (λ (l : List ℕ). word_at l (i * 4)) (append_assoc (packed f n) (bytes_of (f n)) r)
    ∙ elim (eq-or-lt_of_le (le_of_suc-le-suc h)) [
      | inl e ↦ ap (λ (k : ℕ). word_at (packed f n ++ (bytes_of (f n) ++ r)) k) (rw e (sym (add-zero (n * 4))))
          ∙ skip (packed f n) (bytes_of (f n) ++ r) (n * 4) 0 (packed_length f n) ∙ word_front (f n) r (rw e at s)
          ∙ ap f (sym e)
      | inr l ↦ packed_at f n i (bytes_of (f n) ++ r) l s
    ]

-- ---- four bytes that were read
pub word_small : (bs : List ℕ) (p : ℕ) → Bytes bs → p + 4 ≤ length bs → word_at bs p < 2 ^ 32
unfolding word_at
word_small bs p b h =
    omega (arith, b p (omega arith), b (p + 1) (omega arith), b (p + 2) (omega arith), b (p + 3) (omega arith))

front_at : (bs : List ℕ) (p i : ℕ) → i < 4 → get_or (take 4 (drop p bs)) i 0 ≡ get_or bs (p + i) 0
front_at bs p i h = get_or-take 4 (drop p bs) i 0 h ∙ get_or-drop p bs i 0

front_byte : (bs : List ℕ) (p : ℕ) → Bytes bs → p + 4 ≤ length bs → (i : ℕ) → get_or (take 4 (drop p bs)) i 0 < 256
front_byte bs p b h i =
    elim (cases_lt i 4) [
      | inl l ↦ rw (front_at bs p i l) (b (p + i) (omega arith))
      | inr g ↦ rw (get_or_past (take 4 (drop p bs)) i 0 (simp length-take (omega arith))) (omega arith)
    ]

pub bytes_again : (bs : List ℕ) (p : ℕ) → Bytes bs → p + 4 ≤ length bs → bytes_of (word_at bs p) ≡ take 4 (drop p bs)
unfolding word_at bytes_of
bytes_again bs p b h =
    let at = front_at bs p in
    le_bytes_4 (take 4 (drop p bs)) (word_at bs p) (simp (length-take, length-drop) (omega arith)) (front_byte bs p b h)
    (omega (arith, rw add-zero at (at 0 (omega arith)), at 1 (omega arith), at 2 (omega arith), at 3 (omega arith)))

-- n words from p on
pub packed_again : (bs : List ℕ) (p n : ℕ) (f : ℕ → ℕ) → Bytes bs → p + n * 4 ≤ length bs
    → ((i : ℕ) → i < n → f i ≡ word_at bs (p + i * 4)) → packed f n ≡ take (n * 4) (drop p bs)
unfolding packed flat_to
packed_again bs p zero f b h e = refl
packed_again bs p (suc n) f b h e =
    let room : p + n * 4 + 4 ≤ length bs = omega (arith, suc-mul n 4) in
    let before : packed f n ≡ take (n * 4) (drop p bs) =
    packed_again bs p n f b (omega arith) (λ i l. e i (omega arith)) in
    let last : bytes_of (f n) ≡ take 4 (drop (n * 4) (drop p bs)) =
    ap bytes_of (e n (lt-suc_self n)) ∙ bytes_again bs (p + n * 4) b room ∙ ap (take 4) (sym (drop-drop (n * 4) p bs)) in
    ap (λ (l : List ℕ). l ++ bytes_of (f n)) before ∙ ap (λ (l : List ℕ). take (n * 4) (drop p bs) ++ l) last
    ∙ sym (take-add (n * 4) 4 (drop p bs)) ∙ ap (λ (k : ℕ). take k (drop p bs)) (sym (suc-mul n 4))
