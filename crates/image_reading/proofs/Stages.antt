-- The answer of `survey` at each check behind the length's that can stop it, and where none does. Assumes nothing.
use Rattle.std.specs.Prelude.{Err, Ok}
use Rattle.std.specs.declared.result.Result.{Result}
use Prim.Native.Nat.{ℕ, ◌-◌, ◌≤◌}
use native.Mathlib.Omega.{arith}
use mathlib.Core.Path.{◌≡◌, refl, sym, ap, ◌∙◌, subst}
use mathlib.Core.Bool.{Bool, true, false}
use mathlib.Core.List.{List}
use lib.Dec.{leb, eqb}
use lib.ListN.{length}
use borrow.Author.Tests.{le-leb, leb-true, ne_eqb}
use Rattle.refusals.specs.declared.Refusal.{Refusal}
use Rattle.refusals.specs.Refusals.{◌otherwise◌, ◌then◌, answer_of, outcome_of}
use Rattle.refusals.proofs.Firsts.{then_first, not_refused, refused, test_passes}
use Rattle.spline.specs.declared.Grid.{Grid}
use Rattle.config.specs.declared.Sizes.{Sizes}
use Rattle.config.specs.Config.{config_fault, sizes_of, carried_by, check_of}
use Rattle.config.proofs.Answers.{accepted, rejected}
use Rattle.config.proofs.Sized.{sized}
use Rattle.image_layout.specs.declared.Trailer.{Trailer}
use Rattle.image_layout.specs.Trailer.{trailer_length, image_length}
use Rattle.image_layout.specs.Steps.{TrailerRead}
use Rattle.image_reading.specs.declared.Description.{Description}
use Rattle.image_reading.specs.Image.{trailer_in, widths_in, total_in, trailer_fault, up_to_widths, length_fault}
use Rattle.image_reading.specs.Image.{up_to_length, description_in, carried_in}
use Rattle.image_reading.specs.Stages.{description_by, version_carried, survey_of}
use Rattle.image_reading.proofs.Answers.{refuses}
use Rattle.image_reading.proofs.Numbers.{trailer_not_7, config_to_7}
use Rattle.image_reading.proofs.Passed.{PastTrailer, past_trailer}

-- ---- what a refusal carries: 25 the version, and 7 the total
length_carries : (t : Trailer) (total n : ℕ) (bs : List ℕ) (d : Description)
    → let f = length_fault t total n in answer_of f 0 d ≡ answer_of f (carried_in f bs) d
unfolding length_fault
length_carries t total n bs d = by (eqb n (image_length t.count total)) (eqb t.parameters n)
  where
    by : (a b : Bool)
        → let f = a otherwise 27 then b otherwise 27 in answer_of f 0 d ≡ answer_of f (carried_in f bs) d
    by true true = refl
    by true false = refl
    by false b = refl

-- ---- the configuration and the length, once the trailer has passed
abbrev length_answer : List ℕ → Trailer → Sizes → Result Description Refusal
length_answer bs t s = answer_of (length_fault t s.parameters (length bs)) 0 (description_by t s.parameters)

module _ (bs : List ℕ) (widths : up_to_widths bs ≡ 0) where
  abbrev own : Trailer
  own = trailer_in bs

  abbrev config : ℕ
  config = config_fault (widths_in bs own) own.grid

  config_stops : (config ≡ 0 → ⊥) → config ≡ up_to_length bs
  unfolding up_to_length
  config_stops some = rw widths (then_first config _ some)

  config_refused : (r : Refusal) → check_of (widths_in bs own) own.grid ≡ Err r → Err r ≡ survey_of bs
  unfolding survey_of
  config_refused r e =
      let j = rejected config (sizes_of (widths_in bs own) own.grid) r e in
      let low = config_to_7 (widths_in bs own) own.grid in
      let other : eqb config 25 ≡ false = ne_eqb config 25 (λ z. omega (arith, low, z)) in
      let carried : carried_by config (total_in bs own) ≡ carried_in config bs = rw other in
      rw (← config_stops j.stopped) (refuses config _ bs r (sym j.outcome) carried)

  config_sound : (s : Sizes) → check_of (widths_in bs own) own.grid ≡ Ok s
      → length_answer bs own s ≡ survey_of bs
  unfolding survey_of up_to_length
  config_sound s e =
      let a = accepted config (sizes_of (widths_in bs own) own.grid) s e in
      let total : total_in bs own ≡ s.parameters = ap (λ (z : Sizes). z.parameters) a.sizes in
      rw (widths, a.passed, ← total) (length_carries own (total_in bs own) (length bs) bs (description_in bs))

-- ---- an image with room for its trailer t
pub record Trailered (bs : List ℕ) (t : Trailer) : Type 0 where
  pub short : length bs ≤ 8388608
  pub long : trailer_length ≤ length bs
  pub read : TrailerRead bs (length bs - trailer_length) t

pub trailered : (bs : List ℕ) (t : Trailer) → outcome_of (leb (length bs) 8388608 otherwise 24) 0 ≡ Ok tt
    → outcome_of (leb trailer_length (length bs) otherwise 27) 0 ≡ Ok tt
    → TrailerRead bs (length bs - trailer_length) t → Trailered bs t
trailered bs t e f read =
    let short = test_passes (leb (length bs) 8388608) 23 (not_refused _ 0 e) in
    let long = test_passes (leb trailer_length (length bs)) 26 (not_refused _ 0 f) in
    record { short = leb-true _ _ short; long = leb-true _ _ long; read = read }

module _ (bs : List ℕ) (t : Trailer) (k : Trailered bs t) where
  abbrev own_fault : ℕ
  own_fault = trailer_fault t (length bs)

  widths_fault : up_to_widths bs ≡ own_fault
  unfolding up_to_widths
  widths_fault =
      rw (le-leb (length bs) 8388608 k.short, le-leb trailer_length (length bs) k.long)
      (ap (λ (x : Trailer). trailer_fault x (length bs)) (sym k.read.same))

  stops : (own_fault ≡ 0 → ⊥) → own_fault ≡ up_to_length bs
  unfolding up_to_length
  stops some = rw widths_fault (then_first own_fault _ some)

  -- 25 carries the version, and no other refusal of a trailer anything
  trailer_carries : version_carried own_fault t ≡ carried_in own_fault bs
  trailer_carries = rw (← k.read.same, ne_eqb own_fault 7 (trailer_not_7 t (length bs)))

  pub trailer_stops : (r : Refusal) → outcome_of own_fault (version_carried own_fault t) ≡ Err r → Err r ≡ survey_of bs
  unfolding survey_of
  trailer_stops r e = rw (← stops (refused _ _ r e)) (refuses own_fault _ bs r e trailer_carries)

  module _ (e : outcome_of own_fault (version_carried own_fault t) ≡ Ok tt) where
    own_passed : own_fault ≡ 0
    own_passed = not_refused own_fault _ e

    pub past_trailered : PastTrailer t (length bs)
    past_trailered = past_trailer t (length bs) own_passed

    pub unsized : (r : Refusal) → check_of (widths_in bs t) t.grid ≡ Err r → Err r ≡ survey_of bs
    unsized r h =
        config_refused bs (widths_fault ∙ own_passed) r
        (subst (λ (x : Trailer). check_of (widths_in bs x) x.grid ≡ Err r) k.read.same h)

    pub measured : (s : Sizes) → check_of (widths_in bs t) t.grid ≡ Ok s → length_answer bs t s ≡ survey_of bs
    measured s h =
        let own = subst (λ (x : Trailer). check_of (widths_in bs x) x.grid ≡ Ok s) k.read.same h in
        subst (λ (x : Trailer). length_answer bs x s ≡ survey_of bs) (sym k.read.same)
        (config_sound bs (widths_fault ∙ own_passed) s own)

pub few_parameters_lem : (ws : List ℕ) (g : Grid) (s : Sizes) → check_of ws g ≡ Ok s → s.parameters ≤ 250000
few_parameters_lem ws g s e =
    let a = accepted (config_fault ws g) (sizes_of ws g) s e in
    rw (← a.sizes) (sized ws g a.passed).small
