-- R14.1 to R14.5: the C linkage. Every function returns the number of refusal, 0 on success; `carried` is always
-- written, what the refusal carries or 0; so is `done`, and any other lent number on success only. All else is what the
-- call itself leaves. Definitions only.
use Rattle.std.specs.Prelude.{ℕ, ◌≡◌, Float, Ok, Err}
use Rattle.std.specs.declared.result.Result.{Result}
use Rattle.refusals.specs.declared.Refusal.{Refusal}
use Rattle.spline.specs.declared.Grid.{Grid}
use Rattle.config.specs.declared.Sizes.{Sizes}
use Rattle.image_reading.specs.declared.Description.{Description}

-- R14.2, R14.3: an answer goes out as its number of refusal r and what that carries, c'
pub record Told {A : Type 0} (refusal_of : A → Refusal) (r c' : ℕ) (answer : A) : Type 0 where
  pub number : r ≡ (refusal_of answer).number
  pub carried : c' ≡ (refusal_of answer).carried

-- R14.1: a C function does what the call that it stands for does, by that call's own statement, and tells its answer
pub record Linked {A : Type 0} (refusal_of : A → Refusal) (r c' : ℕ) (Call : A → Type 0) : Type 0 where
  pub answer : A
  pub call : Call answer
  pub told : Told refusal_of r c' answer

-- ---- R14.1: numbers that stand for a struct
abbrev pub grid_of : ℕ → Float → Float → Grid
grid_of n lo hi = record { intervals = n; lo = lo; hi = hi }

abbrev pub description_of : ℕ → Float → Float → ℕ → ℕ → Description
description_of n lo hi k p = record { grid = grid_of n lo hi; widths = k; parameters = p }

-- ---- R14.5: a lent number: what the answer has, or else what was there
abbrev pub parameters_or : Result Sizes Refusal → ℕ → ℕ
parameters_or (Ok s) old = s.parameters
parameters_or (Err r) old = old

abbrev pub mean_or : Result Float Refusal → Float → Float
mean_or (Ok x) old = x
mean_or (Err r) old = old

abbrev pub description_or : Result Description Refusal → Description → Description
description_or (Ok d) old = d
description_or (Err r) old = old
