-- R13.3 to R13.6: an image's checks in their order, what it describes, and the reader. Definitions only.
use Rattle.std.specs.Prelude.{ℕ, ◌-◌, ◌*◌, ◌≡◌, cond, List, [], leb, eqb, length, take, Float}
use Rattle.std.specs.declared.result.Result.{Result}
use Rattle.floats.specs.Sums.{all_finite}
use Rattle.refusals.specs.declared.Refusal.{Refusal}
use Rattle.refusals.specs.Refusals.{◌otherwise◌, ◌then◌, past, answer_of}
use Rattle.config.specs.Config.{parameters_for, config_fault, carried_by}
use Rattle.words.specs.Words.{words_from, floats_in}
use Rattle.image_layout.specs.declared.Trailer.{Trailer}
use Rattle.image_layout.specs.Trailer.{trailer_length, widths_distance, image_length, trailer_at}
use Rattle.image_reading.specs.declared.Description.{Description}

-- ---- R13.2, R13.3: what an image holds, by the trailer at its end: the K widths at their distance from the end, and P
abbrev pub trailer_in : List ℕ → Trailer
trailer_in bs = trailer_at bs (length bs - trailer_length)

abbrev pub widths_in : List ℕ → Trailer → List ℕ
widths_in bs t = words_from bs (length bs - t.widths) t.count

abbrev pub total_in : List ℕ → Trailer → ℕ
total_in bs t = parameters_for (widths_in bs t) t.grid

-- ---- the checks, in stages that calls stop at
-- R13.3: 25, 26, and 27 where the widths' distance is wrong or too long, of the trailer of an image of n bytes
unfoldable pub trailer_fault : Trailer → ℕ → ℕ
trailer_fault t n =
    eqb t.version 1 otherwise 25
    then eqb t.degree 3 otherwise 26
    then eqb t.widths (widths_distance t.count) otherwise 27
    then leb t.widths n otherwise 27

-- R13.3: 24, and 27 where there is no room for a trailer, before these
unfoldable pub up_to_widths : List ℕ → ℕ
up_to_widths bs =
    leb (length bs) 8388608 otherwise 24
    then leb trailer_length (length bs) otherwise 27
    then trailer_fault (trailer_in bs) (length bs)

-- R13.3: 27 where the length or the first distance is wrong, of an image of n bytes with so many parameters
unfoldable pub length_fault : Trailer → ℕ → ℕ → ℕ
length_fault t total n = eqb n (image_length t.count total) otherwise 27 then eqb t.parameters n otherwise 27

-- R13.3: the configuration and the length: all but 11. R13.4: an end with the bits of a NaN is `nan`, not finite: 4
unfoldable pub up_to_length : List ℕ → ℕ
up_to_length bs =
    up_to_widths bs
    then config_fault (widths_in bs (trailer_in bs)) (trailer_in bs).grid
    then length_fault (trailer_in bs) (total_in bs (trailer_in bs)) (length bs)

-- R13.3: all checks
unfoldable pub describe_fault : List ℕ → ℕ
describe_fault bs = up_to_length bs then all_finite (floats_in bs (total_in bs (trailer_in bs))) otherwise 11

-- ---- R13.5: the answer: g, both ends, K and P; R3.2: what a refusal carries, the version for 25 and the total for 7
abbrev pub description_in : List ℕ → Description
description_in bs = record { grid = (trailer_in bs).grid; widths = (trailer_in bs).count; parameters = total_in bs (trailer_in bs) }

abbrev pub carried_in : ℕ → List ℕ → ℕ
carried_in n bs = cond (eqb n 25) (trailer_in bs).version (carried_by n (total_in bs (trailer_in bs)))

unfoldable pub describe_of : List ℕ → Result Description Refusal
describe_of bs = answer_of (describe_fault bs) (carried_in (describe_fault bs) bs) (description_in bs)

-- R13.2, R13.6: the contents that a description stands for: the P parameters, and the widths behind them
unfoldable pub widths_of : List ℕ → Description → List ℕ
widths_of bs d = words_from bs (4 * d.parameters) d.widths

unfoldable pub parameters_of : List ℕ → Description → List Float
parameters_of bs d = floats_in bs d.parameters

-- ---- R13.6: the reader answers the parameters' bytes as a part of the caller's image, empty on refusal: the part's
-- contents, its place, which is the image's own, and the lent number, 0 for an accepted image
pub record ImageRead (bs : List ℕ) (place : ℕ × ℕ) (part : List ℕ) (part_place : ℕ × ℕ) (n : ℕ) : Type 0 where
  pub holds : part ≡ past (describe_fault bs) (take (4 * (description_in bs).parameters) bs) []
  pub lies : part_place ≡ place
  pub number : n ≡ describe_fault bs
