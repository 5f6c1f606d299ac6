-- The answer of `survey` to an image that is too long, and to one that has no room for a trailer. Assumes nothing.
use Rattle.std.proofs.Common.{arith}
use Rattle.std.specs.Prelude.{Ok, Err}
use Prim.Native.Nat.{ℕ}
use mathlib.Core.Path.{◌≡◌}
use mathlib.Core.List.{List}
use lib.ListN.{length}
use lib.Dec.{leb}
use Rattle.refusals.specs.declared.Refusal.{Refusal}
use Rattle.refusals.specs.Refusals.{◌otherwise◌, outcome_of}
use Rattle.image_layout.specs.Trailer.{trailer_length}
use Rattle.image_reading.specs.Image.{up_to_widths, up_to_length}
use Rattle.image_reading.specs.Stages.{survey_of}

module _ (bs : List ℕ) (r : Refusal) where
  pub too_long : outcome_of (leb (length bs) 8388608 otherwise 24) 0 ≡ Err r → Err r ≡ survey_of bs
  unfolding survey_of up_to_length up_to_widths
  too_long e = grind arith

  pub too_short : outcome_of (leb (length bs) 8388608 otherwise 24) 0 ≡ Ok tt
      → outcome_of (leb trailer_length (length bs) otherwise 27) 0 ≡ Err r → Err r ≡ survey_of bs
  unfolding survey_of up_to_length up_to_widths
  too_short p e = grind arith
