-- The sum over all numbers of F is the sum over the four that stand for them. Assumes nothing.
use mathlib.Core.Path.{◌≡◌, refl, sym, ap, ◌∙◌}
use Prim.Native.Nat.{ℕ, ◌+◌, ◌≤◌, ◌<◌}
use native.Mathlib.Numerals.{add-one}
use native.Mathlib.Omega.{arith}
use mathlib.Core.List.{List}
use lib.Dec.{T}
use lib.ListN.{drop}
use lib.Seq.{get_or-drop}
use lib.Ieee.{Float, nan, binary32, fits}
use lib.Ieee.Fits.{mul-fits}
use lib.Ieee.Scale.{finite}
use Rattle.floats.specs.Binary32.{◌⊕◌, ◌⊗◌, zero32}
use Rattle.floats.specs.Sums.{sum_from, sum_to, at}
use Rattle.floats.specs.Zeros.{is_zero, Alike}
use Rattle.floats.proofs.Zeros.{mul_zero_zero}
use Rattle.floats.proofs.Alike.{sum_head, sum_tail}
use Rattle.floats.proofs.Sums.{plain_zero, add_alike, sum_plain, alike_mul}
use Rattle.local_basis.specs.declared.Four.{Four}
use Rattle.local_basis.specs.Fours.{Covers, four_dot, Finite}
use Rattle.local_basis.proofs.Found.{yes}

sum_next : (f : ℕ → Float) (n m : ℕ) → m ≡ n + 1 → sum_to f m ≡ sum_to f n ⊕ f n
unfolding sum_from
sum_next f n m e = ap (sum_to f) (e ∙ add-one n)

module _ (n : ℕ) (F : ℕ → Float) (cs : List Float) (r : Four) (s : Covers n F r) (p : Finite n cs) where
  abbrev term : ℕ → Float
  term k = at cs k ⊗ F k

  term_fits : (k : ℕ) → T (fits binary32 (term k))
  term_fits k = mul-fits binary32 (at cs k) (F k)

  nil : (k : ℕ) → k < n → T (is_zero (F k)) → T (is_zero (term k))
  nil k h z = mul_zero_zero binary32 (at cs k) (F k) (yes (p k h)) z

  -- one of the four added to the sum before it
  step : (k m : ℕ) (v sum : Float) → m ≡ k + 1 → sum ≡ sum_to term k → Alike v (F k) → sum ⊕ at cs k ⊗ v ≡ sum_to term m
  step k m v sum e q a =
      ap (λ (y : Float). y ⊕ at cs k ⊗ v) q
      ∙ add_alike (sum_to term k) (at cs k ⊗ v) (term k) (sum_plain zero32 term k plain_zero (λ i _. term_fits i))
      (alike_mul (at cs k) v (F k) a)
      ∙ sym (sum_next term k m e)

  pub dot_four : four_dot cs r.start r ≡ sum_to (λ (k : ℕ). at cs k ⊗ F k) n
  dot_four =
      let f = r.start in
      let before : zero32 ≡ sum_to term f =
      sym (sum_head term f (λ k l. nil k (omega (arith, s.fit)) (s.below k l))) in
      let one = step f (f + 1) r.first zero32 refl before s.first in
      let two = step (f + 1) (f + 2) r.second (zero32 ⊕ at cs f ⊗ r.first) (omega arith) one s.second in
      let three = step (f + 2) (f + 3) r.third ((zero32 ⊕ at cs f ⊗ r.first) ⊕ at cs (f + 1) ⊗ r.second)
      (omega arith) two
      s.third in
      step (f + 3) (f + 4) r.fourth
      (((zero32 ⊕ at cs f ⊗ r.first) ⊕ at cs (f + 1) ⊗ r.second) ⊕ at cs (f + 2) ⊗ r.third)
      (omega arith) three s.fourth
      ∙ sym (sum_tail term (f + 4) n term_fits s.fit (λ k i j. nil k j (s.above k i j)))

-- ---- an edge's coefficients stand behind its two weights
pub finite_drop : (a n m : ℕ) (ps : List Float) → Finite m ps → a + n ≤ m → Finite n (drop a ps)
finite_drop a n m ps p h k l = ap finite (get_or-drop a ps k nan) ∙ p (a + k) (omega arith)

pub shift_dot : (ps : List Float) (a b : ℕ) (r : Four) → four_dot ps (a + b) r ≡ four_dot (drop a ps) b r
shift_dot ps a b r =
    let c : (k i : ℕ) → i ≡ a + k → at ps i ≡ at (drop a ps) k = λ k i e. ap (at ps) e ∙ sym (get_or-drop a ps k nan) in
    rw (
      c b (a + b) refl,
      c (b + 1) (a + b + 1) (omega arith),
      c (b + 2) (a + b + 2) (omega arith),
      c (b + 3) (a + b + 3) (omega arith),
    )
