-- R13.7: from an image to widths and a model: the reader's checks, then 10 where a lent slice has not room for exactly
-- K widths or P parameters. Definitions only.
use Rattle.std.specs.Prelude.{ℕ, ◌≡◌, ◌&&◌, List, eqb, length, Float}
use Rattle.refusals.specs.Refusals.{◌otherwise◌, ◌then◌, past, Outcome, outcome_of}
use Rattle.image_reading.specs.Image.{describe_fault, description_in, carried_in, widths_of, parameters_of}

-- R13.7, R3.5: the refusal of a call that was lent room for so many widths and parameters
unfoldable pub unpack_fault : List ℕ → ℕ → ℕ → ℕ
unpack_fault bs widths model =
    describe_fault bs
    then (eqb widths (description_in bs).widths && eqb model (description_in bs).parameters) otherwise 10

-- R13.7, R3.6: the whole call
pub record Unpacked (bs ws : List ℕ) (ps : List Float) (r : Outcome) (ws' : List ℕ) (ps' : List Float) : Type 0 where
  pub answer : r
      ≡ outcome_of (unpack_fault bs (length ws) (length ps)) (carried_in (unpack_fault bs (length ws) (length ps)) bs)
  pub widths : ws' ≡ past (unpack_fault bs (length ws) (length ps)) (widths_of bs (description_in bs)) ws
  pub model : ps' ≡ past (unpack_fault bs (length ws) (length ps)) (parameters_of bs (description_in bs)) ps
