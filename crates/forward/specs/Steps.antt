-- What the steps inside the call promise and ask: no part of its meaning. Definitions only.
use Rattle.std.specs.Prelude.{ℕ, ◌-◌, ◌%◌, ◌≤◌, cond, eqb, ◌≡◌, Ok, Err, List, ◌++◌, length, take, drop, Float}
use Rattle.std.specs.declared.result.Result.{Result}
use Rattle.floats.specs.Sums.{zeros}
use Rattle.refusals.specs.declared.Refusal.{Refusal}
use Rattle.refusals.specs.Refusals.{Outcome, outcome_of}
use Rattle.spline.specs.declared.Grid.{Grid}
use Rattle.layers.specs.Net.{Net}
use Rattle.layers.specs.Widths.{output_width}
use Rattle.passes.specs.Pass.{outputs_of}
use Rattle.passes.specs.Turns.{Past, holder}
use Rattle.forward.specs.Forward.{pass_refusal, forward_refusal, forward_part, forward_first, forward_second}

-- 11 and the row, and the sweep behind it
pub record Passed (N : Net) (ps : List Float) (ws : List ℕ) (xs a b a' b' : List Float) (r : Outcome) : Type 0 where
  pub refusal : r ≡ outcome_of (pass_refusal N ps ws xs) 0
  pub outputs : r ≡ Ok tt → take (output_width ws) (holder (length ws - 1) a' b') ≡ outputs_of N ps ws xs
  pub first : Past ws a a'
  pub second : Past ws b b'

abbrev pub swept_from : ℕ → ℕ → List Float → List Float
swept_from front widest s = take front s ++ (zeros (widest - front) ++ drop widest s)

pub record Swept (layers n widest : ℕ) (a b a' b' : List Float) : Type 0 where
  pub first : a' ≡ cond (eqb (layers % 2) 0) (swept_from 0 widest a) (swept_from n widest a)
  pub second : b' ≡ cond (eqb (layers % 2) 0) (swept_from n widest b) (swept_from 0 widest b)

-- how many outputs an answer gives
abbrev pub outputs_in : Result ℕ Refusal → ℕ
outputs_in (Ok n) = n
outputs_in (Err r) = 0

-- all but the handing back: the number k, how many outputs n there are, both slices, and that n lies within either
pub record Forwarded (N : Net) (ws : List ℕ) (g : Grid) (ps xs a b : List Float) (k n : ℕ) (a' b' : List Float) : Type 0 where
  pub number : k ≡ forward_refusal N ws g ps xs a b
  pub count : n ≡ length (forward_part N ws g ps xs a b)
  pub first : a' ≡ forward_first N ws g ps xs a b
  pub second : b' ≡ forward_second N ws g ps xs a b
  pub within_first : n ≤ length a'
  pub within_second : n ≤ length b'
