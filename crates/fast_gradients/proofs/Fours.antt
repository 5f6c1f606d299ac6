-- One edge: where u is finite and no gradient is -0.0, four values added are all values added. Assumes nothing.
use mathlib.Core.Path.{◌≡◌, refl, sym, ap, ◌∙◌, subst}
use Prim.Native.Nat.{ℕ, zero, suc, ◌+◌, ◌-◌, ◌≤◌, ◌<◌}
use native.Mathlib.Nat.{add-zero, add-suc}
use native.Mathlib.Numerals.{add-one}
use native.Mathlib.Omega.{arith}
use mathlib.Core.Bool.{true}
use mathlib.Core.List.{List, ◌++◌}
use lib.Dec.{T}
use lib.ListN.{length, drop, set, length-set, length-drop}
use lib.Seq.{set-get_or, drop-set-lt}
use lib.Ieee.{Float, nan, binary32}
use borrow.Rule.Slice.PartMut.{put_mid}
use lib.Ieee.Scale.{finite}
use Rattle.floats.specs.Binary32.{◌⊕◌, ◌⊗◌}
use Rattle.floats.specs.Sums.{tabulate, at}
use Rattle.floats.specs.Zeros.{is_zero, Alike}
use Rattle.floats.proofs.Loops.{tab_length, tab_rest}
use Rattle.floats.proofs.Zeros.{mul_zero_zero}
use Rattle.floats.proofs.Sums.{Plain, add_stays, add_alike, alike_mul}
use Rattle.spline.specs.declared.Grid.{Grid}
use Rattle.spline.specs.Spline.{value_of}
use Rattle.spline.specs.Activation.{silu_of}
use Rattle.local_basis.specs.declared.Four.{Four}
use Rattle.local_basis.specs.Fours.{Covers, Values, four_dot, Finite}
use Rattle.local_basis.proofs.Found.{yes}
use Rattle.layers.specs.Net.{basis_of}
use Rattle.layers.specs.Layer.{dot_of}
use Rattle.gradients.specs.Gradient.{slot_of}
use Rattle.gradients.specs.Steps.{plus_at, plus_of, weighted}
use Rattle.gradients.proofs.Adding.{plus_start, plus_one}
use Rattle.gradients.proofs.Edges.{edge_added}
use Rattle.fast_backward.proofs.Backs.{curve_is}
use Rattle.fast_gradients.specs.Adding.{Clean, added_one, four_added}
use Rattle.fast_gradients.proofs.Clean.{clean_at, clean_part}

module _ (n : ℕ) (F : ℕ → Float) (u : Float) (ds : List Float) (clean : Clean n ds) (long : n ≤ length ds) where
  abbrev term : ℕ → Float
  term k = u ⊗ F k

  abbrev up_to : ℕ → List Float
  up_to k = plus_of ds (tabulate term k)

  -- the next place is as it was
  next : (k : ℕ) → k < n → Plain (at (up_to k) k)
  unfolding plus_of
  next k h =
      let ys = tabulate term k in
      let cut : up_to k ≡ tabulate (plus_at ds ys) k ++ drop k ds =
      ap (λ (m : ℕ). tabulate (plus_at ds ys) m ++ drop m ds) (tab_length term k) in
      subst Plain (sym (tab_rest (plus_at ds ys) k ds (up_to k) nan cut)) (clean_at n ds clean k h)

  -- one of the four
  one : (k m : ℕ) (v : Float) (e : List Float) → m ≡ k + 1 → k < n → Alike v (F k) → e ≡ up_to k
      → added_one e k (u ⊗ v) ≡ up_to m
  one k m v e q h a p =
      let plain : Plain (at e k) = subst (λ (l : List Float). Plain (at l k)) (sym p) (next k h) in
      plus_one term k ds e (at e k ⊕ u ⊗ v) p (omega arith)
      (add_alike (at e k) (u ⊗ v) (u ⊗ F k) plain (alike_mul u v (F k) a))
      ∙ ap up_to (sym q)

  module _ (fin : T (finite u)) where
    -- any other
    stay : (k : ℕ) → k < n → T (is_zero (F k)) → up_to k ≡ up_to (suc k)
    stay k h z =
        let e = up_to k in
        let same : at e k ≡ at e k ⊕ term k =
        sym (add_stays (at e k) (term k) (next k h) (mul_zero_zero binary32 u (F k) fin z)) in
        sym (set-get_or e k nan) ∙ plus_one term k ds e (at e k) refl (omega arith) same ∙ ap up_to (add-one k)

    run : (a d b : ℕ) → b ≡ a + d → b ≤ n → ((k : ℕ) → a ≤ k → k < b → T (is_zero (F k))) → up_to a ≡ up_to b
    run a zero b e l z = ap up_to (sym (add-zero a) ∙ sym e)
    run a (suc d) b e l z =
        let m : b ≡ suc (a + d) = e ∙ add-suc a d in
        run a d (a + d) refl (omega arith) (λ k h i. z k h (omega arith))
        ∙ stay (a + d) (omega arith) (z (a + d) (omega arith) (omega arith))
        ∙ ap up_to (sym m)

    pub four_added_lem : (r : Four) → Covers n F r → four_added ds u r ≡ plus_of ds (tabulate (λ (k : ℕ). u ⊗ F k) n)
    unfolding four_added
    four_added_lem r c =
        let s = r.start in
        let before : ds ≡ up_to s = plus_start term ds
        ∙ run 0 s s (omega arith) (omega (arith, c.fit)) (λ k _ l. c.below k l) in
        let e1 = added_one ds s (u ⊗ r.first) in
        let e2 = added_one e1 (s + 1) (u ⊗ r.second) in
        let e3 = added_one e2 (s + 2) (u ⊗ r.third) in
        let p1 = one s (s + 1) r.first ds refl (omega (arith, c.fit)) c.first before in
        let p2 = one (s + 1) (s + 2) r.second e1 (omega arith) (omega (arith, c.fit)) c.second p1 in
        let p3 = one (s + 2) (s + 3) r.third e2 (omega arith) (omega (arith, c.fit)) c.third p2 in
        one (s + 3) (s + 4) r.fourth e3 (omega arith) (omega (arith, c.fit)) c.fourth p3
        ∙ run (s + 4) (n - (s + 4)) n (omega (arith, c.fit)) (omega arith) c.above

-- ---- an edge: the cells of its two weights are added to first, where s is SiLU and z the curve
abbrev pub two_cells : List Float → Float → Float → Float → List Float
two_cells ds up s z = let one = set ds 0 (at ds 0 ⊕ (up ⊗ s)) in set one 1 (at one 1 ⊕ (up ⊗ z))

module _ (g : Grid) (ps : List Float) (x up s : Float) (r : Four) (z : Float) (ds : List Float) (v : Values g x r)
    (p : Finite (g.intervals + 5) ps) (long : g.intervals + 5 ≤ length ds) (base : s ≡ silu_of x)
    (curve : z ≡ four_dot ps (r.start + 2) r) where
  -- then all coefficients'
  pub all_edge : (y : List Float)
      → y ≡ plus_of (drop 2 (two_cells ds up s z)) (tabulate (weighted (basis_of g) (up ⊗ at ps 1) x) (g.intervals + 3))
      → put_mid 2 (length (two_cells ds up s z) - 2) (two_cells ds up s z) y
      ≡ plus_of ds (tabulate (slot_of (basis_of g) ps x up) (g.intervals + 5))
  unfolding dot_of
  all_edge y q =
      let n = g.intervals + 3 in
      let m = g.intervals + 5 in
      let one = set ds 0 (at ds 0 ⊕ (up ⊗ s)) in
      edge_added (basis_of g) ps x up n m ds _ _ y (omega arith) long (ap (λ (t : Float). at ds 0 ⊕ (up ⊗ t)) base)
      (ap (λ (t : Float). at one 1 ⊕ (up ⊗ t)) (curve
      ∙ curve_is n m (λ (k : ℕ). value_of g 3 k x) ps r (omega arith) v p)) q

  -- or those four whose values can be other than zero
  pub four_edge : Clean (g.intervals + 5) ds → finite (up ⊗ at ps 1) ≡ true → (y : List Float)
      → y ≡ four_added (drop 2 (two_cells ds up s z)) (up ⊗ at ps 1) r
      → put_mid 2 (length (two_cells ds up s z) - 2) (two_cells ds up s z) y
      ≡ plus_of ds (tabulate (slot_of (basis_of g) ps x up) (g.intervals + 5))
  four_edge c f y q =
      let n = g.intervals + 3 in
      let one = set ds 0 (at ds 0 ⊕ (up ⊗ s)) in
      let two = two_cells ds up s z in
      let same : drop 2 two ≡ drop 2 ds = drop-set-lt 2 one 1 _ (omega arith) ∙ drop-set-lt 2 ds 0 _ (omega arith) in
      let clean : Clean n (drop 2 two) = rw same (clean_part 2 n (g.intervals + 5) ds (omega arith) c) in
      let room : n ≤ length (drop 2 two) = rw (length-drop, length-set, length-set) (omega arith) in
      all_edge y (q ∙ four_added_lem n (λ (k : ℕ). value_of g 3 k x) (up ⊗ at ps 1) (drop 2 two) clean room (yes f) r v)
