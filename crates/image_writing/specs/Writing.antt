-- R13.8: what the writer writes, the parameters as bits, the widths and the trailer of R13.2. Definitions only.
use Rattle.std.specs.Prelude.{ℕ, ◌≡◌, List, ◌++◌, eqb, length, Float}
use Rattle.floats.specs.Sums.{all_finite}
use Rattle.refusals.specs.Refusals.{◌otherwise◌, ◌then◌, past, Outcome, outcome_of}
use Rattle.spline.specs.declared.Grid.{Grid}
use Rattle.config.specs.Config.{parameters_for, carried_by}
use Rattle.admission.specs.Admission.{up_to8}
use Rattle.words.specs.Words.{packed_words, packed_floats}
use Rattle.image_layout.specs.Trailer.{image_length, trailer_words}

-- R13.2: the bytes of an image
unfoldable pub image_of : List ℕ → Grid → List Float → List ℕ
image_of ws g ps = packed_floats ps ++ (packed_words ws ++ packed_words (trailer_words (length ws) (length ps) g))

-- R3.4, R3.5: the refusal of a call that was lent n bytes: configuration, 8, 10, 11
unfoldable pub write_fault : List ℕ → Grid → List Float → ℕ → ℕ
write_fault ws g ps n =
    up_to8 ws g (length ps)
    then eqb n (image_length (length ws) (length ps)) otherwise 10
    then all_finite ps otherwise 11

-- R13.8, R3.6: the whole call
pub record ImageWritten (ws : List ℕ) (g : Grid) (ps : List Float) (bs : List ℕ) (r : Outcome)
    (bs' : List ℕ) : Type 0 where
  pub answer : r
      ≡ outcome_of (write_fault ws g ps (length bs)) (carried_by (write_fault ws g ps (length bs)) (parameters_for ws g))
  pub image : bs' ≡ past (write_fault ws g ps (length bs)) (image_of ws g ps) bs
