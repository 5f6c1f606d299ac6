-- Marks at one place of every row, made row by row; and marks in every row at once, made place by place until a row is
-- whole. Assumes nothing.
use mathlib.Core.Path.{◌≡◌, refl, sym, ap, ◌∙◌}
use mathlib.Core.Bool.{Bool, true, false, cond, ◌||◌}
use mathlib.Core.List.{List, [], ◌∷◌, ◌++◌, append-nil, append_assoc}
use Prim.Native.Nat.{ℕ, zero, suc, ◌+◌, ◌-◌, ◌*◌, ◌≤◌, ◌<◌}
use native.Mathlib.Nat.{le_of_suc-le-suc}
use native.Mathlib.Numerals.{add-one}
use native.Mathlib.Omega.{arith}
use lib.ListN.{length, drop, get_or, set, length-append}
use borrow.Rule.Slice.PartMut.{put_mid}
use Rattle.floats.specs.Sums.{tabulate, flat_to}
use Rattle.floats.proofs.Loops.{tab_length, flat_length}
use Rattle.touched_layer.specs.Marks.{marked_by, nones, in_row}
use Rattle.touched_layer.proofs.Marking.{marked_part, marked_one}

-- ---- tests that do not pass
nones_length : (n : ℕ) → length (nones n) ≡ n
unfolding nones
nones_length zero = refl
nones_length (suc n) = ap suc (nones_length n)

nones_mark : (n : ℕ) (ms : List ℕ) → marked_by (nones n) ms ≡ ms
unfolding nones marked_by
nones_mark zero ms = refl
nones_mark (suc n) [] = refl
nones_mark (suc n) (m ∷ ms) = ap (λ (l : List ℕ). m ∷ l) (nones_mark n ms)

-- behind others
nones_behind : (bs : List Bool) (n : ℕ) (ms : List ℕ) → marked_by (bs ++ nones n) ms ≡ marked_by bs ms
unfolding marked_by
nones_behind [] n ms = nones_mark n ms
nones_behind (b ∷ bs) n [] = refl
nones_behind (b ∷ bs) n (m ∷ ms) = ap (λ (l : List ℕ). cond b 1 m ∷ l) (nones_behind bs n ms)

nones_flat : (a b n : ℕ) (ms : List ℕ) → marked_by (flat_to (λ (o : ℕ). nones a ++ nones b) n) ms ≡ ms
unfolding flat_to marked_by
nones_flat a b zero ms = refl
nones_flat a b (suc n) ms =
    let before = flat_to (λ (o : ℕ). nones a ++ nones b) n in
    rw (← append_assoc before (nones a) (nones b))
    (nones_behind (before ++ nones a) b ms ∙ nones_behind before a ms ∙ nones_flat a b n ms)

-- ---- the tests E at the same place of every row
module _ (from row : ℕ) (E : List Bool) (fit : from + length E ≤ row) where
  row_length : length (in_row from row E) ≡ row
  row_length = simp (length-append, nones_length) (omega arith)

  abbrev rows : ℕ → List Bool
  rows o = flat_to (λ (q : ℕ). in_row from row E) o

  -- up to the place in the next row
  up_to_length_lem : (o : ℕ) → length (rows o ++ nones from) ≡ o * row + from
  up_to_length_lem o = rw (length-append, flat_length (λ (q : ℕ). in_row from row E) row (λ j. row_length) o, nones_length)

  up_to_marks : (o : ℕ) (d e : List ℕ) → e ≡ marked_by (rows o) d → e ≡ marked_by (rows o ++ nones from) d
  up_to_marks o d e p = p ∙ sym (nones_behind (rows o) from d)

  -- and behind it
  row_marks : (o : ℕ) (d : List ℕ) → marked_by ((rows o ++ nones from) ++ E) d ≡ marked_by (rows (o + 1)) d
  unfolding flat_to
  row_marks o d =
      sym (nones_behind ((rows o ++ nones from) ++ E) (row - (from + length E)) d) ∙ rw (add-one o) (simp append_assoc)

  -- a turn that lends the map from the place in row o on to a call, which marks by E
  pub one_output : (o : ℕ) (d e y : List ℕ) → e ≡ marked_by (rows o) d → o * row + from ≤ length e
      → y ≡ marked_by E (drop (o * row + from) e)
      → put_mid (o * row + from) (length e - (o * row + from)) e y ≡ marked_by (rows (o + 1)) d
  one_output o d e y p h q =
      marked_part (rows o ++ nones from) E (o * row + from) d e y (up_to_marks o d e p) (up_to_length_lem o) h q
      ∙ row_marks o d

-- a turn that sets the byte at the place in row o
pub one_byte : (at row : ℕ) (b : Bool) → at + 1 ≤ row → (o : ℕ) (d e : List ℕ) (y : ℕ)
    → e ≡ marked_by (flat_to (λ (q : ℕ). in_row at row (b ∷ [])) o) d → o * row + at < length e
    → y ≡ cond b 1 (get_or e (o * row + at) 0)
    → set e (o * row + at) y ≡ marked_by (flat_to (λ (q : ℕ). in_row at row (b ∷ [])) (o + 1)) d
one_byte at row b fit o d e y p h q =
    marked_one (rows at row (b ∷ []) fit o ++ nones at) b (o * row + at) d e y (up_to_marks at row (b ∷ []) fit o d e p)
    (up_to_length_lem at row (b ∷ []) fit o) h q
    ∙ row_marks at row (b ∷ []) fit o d

-- ---- tests joined place by place
joined : List Bool → List Bool → List Bool
joined [] bs = bs
joined (a ∷ cs) [] = a ∷ cs
joined (a ∷ cs) (b ∷ bs) = (a || b) ∷ joined cs bs

-- marking by one and then by the other
marked_joined : (cs bs : List Bool) (ms : List ℕ) → marked_by bs (marked_by cs ms) ≡ marked_by (joined cs bs) ms
unfolding marked_by joined
marked_joined [] bs ms = refl
marked_joined (a ∷ cs) [] ms = refl
marked_joined (a ∷ cs) (b ∷ bs) [] = refl
marked_joined (a ∷ cs) (b ∷ bs) (m ∷ ms) = λ i. both a b i ∷ marked_joined cs bs ms i
  where
    both : (a b : Bool) → cond b 1 (cond a 1 m) ≡ cond (a || b) 1 m
    both true true = refl
    both true false = refl
    both false b = refl

joined_nones : (cs : List Bool) (n : ℕ) → n ≤ length cs → joined cs (nones n) ≡ cs
unfolding nones joined
joined_nones [] zero h = refl
joined_nones [] (suc n) h = absurd (omega arith)
joined_nones (a ∷ cs) zero h = refl
joined_nones (a ∷ cs) (suc n) h = λ i. same a i ∷ joined_nones cs n (le_of_suc-le-suc h) i
  where
    same : (a : Bool) → (a || false) ≡ a
    same true = refl
    same false = refl

nones_joined : (bs : List Bool) (n : ℕ) → n ≤ length bs → joined (nones n) bs ≡ bs
unfolding nones joined
nones_joined bs zero h = refl
nones_joined [] (suc n) h = absurd (omega arith)
nones_joined (b ∷ bs) (suc n) h = ap (λ (l : List Bool). b ∷ l) (nones_joined bs n (le_of_suc-le-suc h))

joined_append : (cs bs cs' bs' : List Bool) → length cs ≡ length bs
    → joined (cs ++ cs') (bs ++ bs') ≡ joined cs bs ++ joined cs' bs'
unfolding joined
joined_append [] [] cs' bs' e = refl
joined_append [] (b ∷ bs) cs' bs' e = absurd (omega arith)
joined_append (a ∷ cs) [] cs' bs' e = absurd (omega arith)
joined_append (a ∷ cs) (b ∷ bs) cs' bs' e =
    let rest : length cs ≡ length bs = omega arith in
    ap (λ (l : List Bool). (a || b) ∷ l) (joined_append cs bs cs' bs' rest)

joined_flat : (s : ℕ) (cs bs : List Bool) → length cs ≡ s → length bs ≡ s → (n : ℕ)
    → joined (flat_to (λ (o : ℕ). cs) n) (flat_to (λ (o : ℕ). bs) n) ≡ flat_to (λ (o : ℕ). joined cs bs) n
unfolding flat_to joined
joined_flat s cs bs p q zero = refl
joined_flat s cs bs p q (suc n) =
    joined_append (flat_to (λ (o : ℕ). cs) n) (flat_to (λ (o : ℕ). bs) n) cs bs
    (flat_length (λ (o : ℕ). cs) s (λ o. p) n ∙ sym (flat_length (λ (o : ℕ). bs) s (λ o. q) n))
    ∙ ap (λ (l : List Bool). l ++ joined cs bs) (joined_flat s cs bs p q n)

-- ---- the tests of every row, from its place `from` on: none, and cs behind bs
pub none_in_rows : (from row n : ℕ) (d : List ℕ) → d ≡ marked_by (flat_to (λ (o : ℕ). in_row from row []) n) d
none_in_rows from row n d = sym (nones_flat from (row - (from + 0)) n d)

module _ (from row : ℕ) (bs cs : List Bool) (fit : from + length bs + length cs ≤ row) where
  one_row : joined (in_row from row bs) (in_row (from + length bs) row cs) ≡ in_row from row (bs ++ cs)
  one_row =
      let at = from + length bs in
      let r = row - (at + length cs) in
      let before : length (nones from ++ bs) ≡ at = rw (length-append, nones_length) in
      let behind : length (cs ++ nones r) ≡ row - at = rw (length-append, nones_length) (omega arith) in
      let same : r ≡ row - (from + length (bs ++ cs)) = rw length-append (omega arith) in
      rw (← append_assoc (nones from) bs (nones (row - at)))
      (joined_append (nones from ++ bs) (nones at) (nones (row - at)) (cs ++ nones r) (before ∙ sym (nones_length at))
      ∙ (λ k. joined_nones (nones from ++ bs) at (omega (arith, before)) k
      ++ nones_joined (cs ++ nones r) (row - at) (omega (arith, behind)) k)
      ∙ rw (← same) (simp append_assoc))

  pub more_in_rows : (at n : ℕ) (d e y : List ℕ) → at ≡ from + length bs
      → e ≡ marked_by (flat_to (λ (o : ℕ). in_row from row bs) n) d
      → y ≡ marked_by (flat_to (λ (o : ℕ). in_row at row cs) n) e
      → y ≡ marked_by (flat_to (λ (o : ℕ). in_row from row (bs ++ cs)) n) d
  more_in_rows at n d e y a p q =
      let here = in_row from row bs in
      let next = in_row (from + length bs) row cs in
      (rw (a, p) at q) ∙ marked_joined (flat_to (λ (o : ℕ). here) n) (flat_to (λ (o : ℕ). next) n) d
      ∙ ap (λ (l : List Bool). marked_by l d)
      (joined_flat row here next (row_length from row bs (omega arith)) (row_length (from + length bs) row cs fit) n
      ∙ ap (λ (l : List Bool). flat_to (λ (o : ℕ). l) n) one_row)

-- one test more of a table
pub table_in_rows : (t : ℕ → Bool) (from row n k : ℕ) (b : Bool) (d e y : List ℕ) → from + k < row → b ≡ t k
    → e ≡ marked_by (flat_to (λ (o : ℕ). in_row from row (tabulate t k)) n) d
    → y ≡ marked_by (flat_to (λ (o : ℕ). in_row (from + k) row (b ∷ [])) n) e
    → y ≡ marked_by (flat_to (λ (o : ℕ). in_row from row (tabulate t (k + 1))) n) d
unfolding tabulate
table_in_rows t from row n k b d e y h a p q =
    let size : length (tabulate t k) ≡ k = tab_length t k in
    rw (add-one k, ← a)
    (more_in_rows from row (tabulate t k) (b ∷ []) (omega arith) (from + k) n d e y (omega arith) p q)

-- one list more of those that stand one after the other from the front of a row
pub flat_in_rows : (E : ℕ → List Bool) (s : ℕ) → ((j : ℕ) → length (E j) ≡ s) → (row n i : ℕ) (d e y : List ℕ)
    → i * s + s ≤ row
    → e ≡ marked_by (flat_to (λ (o : ℕ). in_row 0 row (flat_to E i)) n) d
    → y ≡ marked_by (flat_to (λ (o : ℕ). in_row (i * s) row (E i)) n) e
    → y ≡ marked_by (flat_to (λ (o : ℕ). in_row 0 row (flat_to E (i + 1))) n) d
unfolding flat_to
flat_in_rows E s each row n i d e y h p q =
    let size : length (flat_to E i) ≡ i * s = flat_length E s each i in
    rw (add-one i) (more_in_rows 0 row (flat_to E i) (E i) (omega (arith, each i)) (i * s) n d e y (omega arith) p q)

-- tests that fill a row
pub whole_row : (row : ℕ) (bs : List Bool) → length bs ≡ row → in_row 0 row bs ≡ bs
unfolding nones
whole_row row bs e =
    let left : row - (0 + length bs) ≡ 0 = omega arith in
    rw left (append-nil bs)
