-- What `describe` answers once an image is surveyed, and what `read` hands back. Assumes nothing.
use Rattle.std.specs.Prelude.{Err, Ok}
use Prim.Native.Nat.{ℕ, ◌*◌, ◌≤◌}
use mathlib.Core.Path.{◌≡◌, refl, sym, ap, subst}
use mathlib.Core.Bool.{Bool, true, false}
use mathlib.Core.List.{List, []}
use lib.ListN.{length, take}
use Rattle.floats.specs.Sums.{all_finite}
use Rattle.refusals.specs.declared.Refusal.{Refusal}
use Rattle.refusals.specs.Refusals.{◌otherwise◌, outcome_of}
use Rattle.refusals.proofs.Firsts.{not_refused, test_passes, past_stopped}
use Rattle.words.specs.Words.{floats_in}
use Rattle.image_layout.specs.Trailer.{image_length}
use Rattle.image_reading.specs.declared.Description.{Description}
use Rattle.image_reading.specs.Image.{trailer_in, up_to_length, describe_fault, description_in, carried_in}
use Rattle.image_reading.specs.Stages.{survey_of}
use Rattle.image_reading.specs.Image.{describe_of, ImageRead}
use Rattle.image_reading.proofs.Answers.{SoundAnswer, sound_answer, RefusedAnswer, refused_answer, refuses, stays_refused}
use Rattle.image_reading.proofs.Passed.{PastLength, past_length, size, past_eleven}

-- ---- the room that an image has for what its description says
pub record Room (bs : List ℕ) (d : Description) : Type 0 where
  pub few : d.parameters ≤ 250000
  pub whole : length bs ≡ image_length d.widths d.parameters

room : (bs : List ℕ) (d : Description) → PastLength bs (trailer_in bs) → description_in bs ≡ d → Room bs d
room bs d p same = subst (Room bs) same (record { few = (size bs (trailer_in bs) p).small; whole = p.whole })

-- ---- once `survey` has answered
-- 11 carries nothing
carries_11 : (bs : List ℕ) (b : Bool) → 0 ≡ carried_in (b otherwise 11) bs
carries_11 bs true = refl
carries_11 bs false = refl

module _ (bs : List ℕ) where
  surveyed : (d : Description) → survey_of bs ≡ Ok d → SoundAnswer (up_to_length bs) bs d
  unfolding survey_of
  surveyed d e = sound_answer (up_to_length bs) bs d e

  pub surveyed_room : (d : Description) → survey_of bs ≡ Ok d → Room bs d
  surveyed_room d e = let a = surveyed d e in room bs d (past_length bs a.passed) a.same

  pub survey_stops : (r : Refusal) → survey_of bs ≡ Err r → Err r ≡ describe_of bs
  unfolding survey_of describe_of describe_fault
  survey_stops r e = stays_refused (up_to_length bs) _ bs r e

  pub all_sound : (d : Description) → survey_of bs ≡ Ok d
      → outcome_of (all_finite (floats_in bs d.parameters) otherwise 11) 0 ≡ Ok tt
      → Ok d ≡ describe_of bs
  unfolding describe_of describe_fault
  all_sound d e f =
      let a = surveyed d e in
      let whole =
      subst (λ (x : Description). all_finite (floats_in bs x.parameters) ≡ true) (sym a.same)
      (test_passes _ 10 (not_refused _ 0 f)) in
      rw (a.passed, whole) (ap Ok (sym a.same))

  pub some_unsound : (d : Description) (r : Refusal) → survey_of bs ≡ Ok d
      → outcome_of (all_finite (floats_in bs d.parameters) otherwise 11) 0 ≡ Err r → Err r ≡ describe_of bs
  unfolding describe_of describe_fault
  some_unsound d r e f =
      let a = surveyed d e in
      let whole =
      subst (λ (x : Description). outcome_of (all_finite (floats_in bs x.parameters) otherwise 11) 0 ≡ Err r)
      (sym a.same) f in
      rw a.passed (refuses _ 0 bs r whole (carries_11 bs (all_finite (floats_in bs (description_in bs).parameters))))

-- ---- once `describe` has answered
module _ (bs : List ℕ) where
  pub described : (d : Description) → describe_of bs ≡ Ok d → SoundAnswer (describe_fault bs) bs d
  unfolding describe_of
  described d e = sound_answer (describe_fault bs) bs d e

  pub undescribed : (r : Refusal) → describe_of bs ≡ Err r → RefusedAnswer (describe_fault bs) bs r
  unfolding describe_of
  undescribed r e = refused_answer (describe_fault bs) bs r e

  pub described_room : (d : Description) → describe_of bs ≡ Ok d → Room bs d
  described_room d e = let a = described d e in room bs d (past_eleven bs a.passed).length a.same

-- ---- a part that begins where the image does
module _ (bs : List ℕ) (p : ℕ × ℕ) where
  pub read_refused : (r : Refusal) → describe_of bs ≡ Err r → ImageRead bs p [] p r.number
  read_refused r e =
      let a = undescribed bs r e in
      record { holds = sym (past_stopped (describe_fault bs) _ [] a.stopped); lies = refl; number = a.number }

  pub read_accepted : (d : Description) → describe_of bs ≡ Ok d → ImageRead bs p (take (4 * d.parameters) bs) p 0
  read_accepted d e =
      let a = described bs d e in
      record {
        holds = rw a.passed (ap (λ (x : Description). take (4 * x.parameters) bs) (sym a.same));
        lies = refl;
        number = sym a.passed;
      }
