-- What the steps of the reader ask and promise: no part of a header's meaning. Definitions only.
use Rattle.std.specs.Prelude.{ℕ, ◌≤◌, ◌<◌, ◌≡◌, Bool, false, ◌&&◌, not, List, ◌∷◌, length, get_or, drop, Some, None}
use Rattle.std.specs.declared.option.Option.{Option}
use Rattle.std.proofs.Math.Option.{Option as Perhaps, none, some}
use Rattle.refusals.specs.Refusals.{◌otherwise◌}
use Rattle.npy_tokens.specs.Tokens.{same}
use Rattle.npy_tokens.specs.Places.{Place, counted}
use Rattle.npy_header.specs.declared.sizes.Sizes.{Sizes}
use Rattle.npy_header.specs.declared.entries.Truth.{Truth}
use Rattle.npy_header.specs.declared.entries.Found.{Found}
use Rattle.npy_header.specs.Dictionary.{single_word}
use Rattle.npy_header.specs.Reading.{Read, truth_in, after_truth, sizes_in, after_sizes}

-- the sizes that are asked for are told apart from all others though numbers are counted only so far
pub record Small (shape : List ℕ) : Type 0 where
  pub few : length shape ≤ 1000000
  pub each : (i : ℕ) → i < length shape → get_or shape i 0 < 1000000

-- ---- the numbers of a shape: how many of the sizes asked for were found, none once a number is another
abbrev pub Few : List ℕ → Option ℕ → Type 0
Few shape None = Unit {0}
Few shape (Some count) = count ≤ length shape

-- whether all numbers are those asked for, where some are looked at and these are left
abbrev pub all_asked : List ℕ → Option ℕ → List ℕ → Bool
all_asked shape None ns = false
all_asked shape (Some count) ns = same ns (drop count shape)

pub record MatchedOne (shape : List ℕ) (m : Option ℕ) (value : ℕ) (r : Option ℕ) : Type 0 where
  pub few : Few shape r
  pub one : (n : ℕ) (ns : List ℕ) → value ≡ counted n → all_asked shape r ns ≡ all_asked shape m (n ∷ ns)

pub record SizesRead (text shape : List ℕ) (from : ℕ) (r : Sizes) : Type 0 where
  pub asked : r.asked ≡ same (sizes_in (drop from text)) shape
  pub place : Place text r.next (after_sizes (drop from text))

-- ---- the entries
-- of a value that was read, whether it is the one asked for
abbrev pub answered : {A : Type 0} → (A → Bool) → Perhaps A → Option Bool
answered test none = None
answered test (some a) = Some (test a)

-- what was found of a text, and what is read of it
pub record Follows (text sizes : List ℕ) (r : Read) (f : Found) : Type 0 where
  pub place : Place text f.next r.rest
  pub descr : f.descr ≡ answered (λ (s : List ℕ). same s single_word) r.descr
  pub order : f.order ≡ answered not r.fortran_order
  pub shape : f.shape ≡ answered (λ (s : List ℕ). same s sizes) r.shape

-- 29 where an entry is missing, and then 30 where one is not the one asked for
abbrev pub found_fault : Option Bool → Option Bool → Option Bool → ℕ
found_fault None o s = 29
found_fault (Some d) None s = 29
found_fault (Some d) (Some o) None = 29
found_fault (Some d) (Some o) (Some s) = (d && o && s) otherwise 30

-- a step of the reader and of what is found: the one follows the other before and behind it; for one shape, and for any
abbrev pub Keeps : List ℕ → List ℕ → (Read → Read) → Found → Found → Type 0
Keeps text sizes step f r = (s : Read) → Follows text sizes s f → Follows text sizes (step s) r

abbrev pub Always : List ℕ → (Read → Read) → Found → Found → Type 0
Always text step f r = (sizes : List ℕ) → Keeps text sizes step f r

-- the same, with nothing left to read
pub record Fails (text : List ℕ) (f r : Found) : Type 0 where
  pub next : r.next ≡ length text
  pub descr : r.descr ≡ f.descr
  pub order : r.order ≡ f.order
  pub shape : r.shape ≡ f.shape

pub record TruthRead (text : List ℕ) (from : ℕ) (r : Truth) : Type 0 where
  pub holds : r.holds ≡ truth_in (drop from text)
  pub place : Place text r.next (after_truth (drop from text))
