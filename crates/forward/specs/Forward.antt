-- R8.8, R8.9: a single `forward` takes its whole slice as one row (R5.6) and hands back the front of the work slice
-- that holds the last layer, an empty part on refusal. Definitions only.
use Rattle.std.specs.Prelude.{ℕ, ◌-◌, ◌%◌, ◌≡◌, Bool, cond, not, List, [], ◌++◌, eqb, length, drop, Float}
use Rattle.floats.specs.Sums.{all_finite, zeros}
use Rattle.refusals.specs.Refusals.{◌otherwise◌, ◌then◌, past}
use Rattle.spline.specs.declared.Grid.{Grid}
use Rattle.layers.specs.Net.{Net}
use Rattle.layers.specs.Widths.{widest_in}
use Rattle.passes.specs.Pass.{row_refusal, outputs_of}
use Rattle.admission.specs.Admission.{up_to9}

-- R3.4: past check 9: 11, then the row's 14, 15, 20
unfoldable pub pass_refusal : Net → List Float → List ℕ → List Float → ℕ
pass_refusal N ps ws xs = all_finite ps otherwise 11 then row_refusal N ps ws xs

-- R8.8: of K widths, the last of K - 1 layers lies in the first slice where K - 1 is odd
unfoldable pub in_first : List ℕ → Bool
in_first ws = not (eqb ((length ws - 1) % 2) 0)

-- R8.9: a work slice of which W numbers are needed: what it holds in front, then +0.0, then what it held
unfoldable pub fronted : List Float → ℕ → List Float → List Float
fronted front widest s = front ++ (zeros (widest - length front) ++ drop widest s)

-- ---- R8.9, R3.6: what a call leaves: the lent number, the part handed back, and both work slices
module _ (N : Net) (ws : List ℕ) (g : Grid) (ps xs a b : List Float) where
  abbrev to9 : ℕ
  to9 = up_to9 ws g (length ps) (length a) (length b)

  abbrev refusal : ℕ
  refusal = to9 then pass_refusal N ps ws xs

  unfoldable pub forward_refusal : ℕ
  forward_refusal = refusal

  unfoldable pub forward_part : List Float
  forward_part = past refusal (outputs_of N ps ws xs) []

  unfoldable pub forward_first : List Float
  forward_first = past to9 (fronted (cond (in_first ws) forward_part []) (widest_in ws) a) a

  unfoldable pub forward_second : List Float
  forward_second = past to9 (fronted (cond (in_first ws) [] forward_part) (widest_in ws) b) b

-- R8.9: what the part holds, where it lies, also when it is empty, and the lent number k
pub record Handed (N : Net) (ws : List ℕ) (g : Grid) (ps xs a b : List Float) (first_place second_place : ℕ × ℕ)
    (part : List Float) (place : ℕ × ℕ) (k : ℕ) : Type 0 where
  pub holds : part ≡ forward_part N ws g ps xs a b
  pub lies : place ≡ cond (in_first ws) first_place second_place
  pub number : k ≡ forward_refusal N ws g ps xs a b
