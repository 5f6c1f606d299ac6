-- R13.3: what the pieces of the reader promise; the calls' meaning is Image.antt. Definitions only.
use Rattle.std.specs.Prelude.{ℕ, cond, List, eqb, Err}
use Rattle.std.specs.declared.result.Result.{Result}
use Rattle.refusals.specs.declared.Refusal.{Refusal}
use Rattle.refusals.specs.Refusals.{answer_of}
use Rattle.image_layout.specs.declared.Trailer.{Trailer}
use Rattle.image_reading.specs.declared.Description.{Description}
use Rattle.image_reading.specs.Image.{up_to_length, description_in, carried_in}

-- R3.2: a refusal
abbrev pub refused_by : ℕ → ℕ → Result Description Refusal
refused_by n carried = Err (record { number = n; carried = carried })

-- R3.2: what a refusal of a trailer carries
abbrev pub version_carried : ℕ → Trailer → ℕ
version_carried n t = cond (eqb n 25) t.version 0

-- R13.5: what a trailer describes with so many parameters
abbrev pub description_by : Trailer → ℕ → Description
description_by t total = record { grid = t.grid; widths = t.count; parameters = total }

-- R13.5: the answer to an image of which checks were made that came to n
abbrev pub answer_to : ℕ → List ℕ → Result Description Refusal
answer_to n bs = answer_of n (carried_in n bs) (description_in bs)

-- R13.3: the whole of the checks but 11
unfoldable pub survey_of : List ℕ → Result Description Refusal
survey_of bs = answer_to (up_to_length bs) bs
