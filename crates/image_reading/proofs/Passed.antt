-- What an image holds that no check up to a stage refuses, and that no other is so refused. Assumes nothing.
use Prim.Native.Nat.{ℕ, ◌≤◌}
use mathlib.Core.Path.{◌≡◌}
use mathlib.Core.Bool.{true}
use mathlib.Core.List.{List}
use lib.Dec.{leb, eqb}
use lib.ListN.{length}
use borrow.Author.Tests.{eqb-true, leb-true, eq-eqb, le-leb}
use Rattle.floats.specs.Sums.{all_finite}
use Rattle.refusals.specs.Refusals.{◌otherwise◌}
use Rattle.refusals.proofs.Firsts.{both_pass, test_passes}
use Rattle.config.specs.Config.{config_fault}
use Rattle.config.specs.Sized.{Sized}
use Rattle.config.proofs.Sized.{sized}
use Rattle.words.specs.Words.{floats_in}
use Rattle.image_layout.specs.declared.Trailer.{Trailer}
use Rattle.image_layout.specs.Trailer.{trailer_length, widths_distance, image_length}
use Rattle.image_reading.specs.Image.{trailer_in, widths_in, total_in, trailer_fault, up_to_widths, length_fault}
use Rattle.image_reading.specs.Image.{up_to_length, describe_fault}

-- ---- up to the widths
pub record PastTrailer (t : Trailer) (n : ℕ) : Type 0 where
  pub version : t.version ≡ 1
  pub degree : t.degree ≡ 3
  pub distance : t.widths ≡ widths_distance t.count
  pub within : t.widths ≤ n

pub past_trailer : (t : Trailer) (n : ℕ) → trailer_fault t n ≡ 0 → PastTrailer t n
unfolding trailer_fault
past_trailer t n e =
    let after25 = both_pass (eqb t.version 1 otherwise 25) _ e in
    let after26 = both_pass (eqb t.degree 3 otherwise 26) _ after25.1 in
    let after27 = both_pass (eqb t.widths (widths_distance t.count) otherwise 27) _ after26.1 in
    record {
      version = eqb-true _ _ (test_passes _ 24 after25.0);
      degree = eqb-true _ _ (test_passes _ 25 after26.0);
      distance = eqb-true _ _ (test_passes _ 26 after27.0);
      within = leb-true _ _ (test_passes _ 26 after27.1);
    }

pub sound_trailer : (t : Trailer) (n : ℕ) → PastTrailer t n → trailer_fault t n ≡ 0
unfolding trailer_fault
sound_trailer t n p =
    let version = eq-eqb _ _ p.version in
    let degree = eq-eqb _ _ p.degree in
    rw (version, degree, eq-eqb _ _ p.distance, le-leb _ _ p.within)

pub record PastWidths (bs : List ℕ) (t : Trailer) : Type 0 where
  pub short : length bs ≤ 8388608
  pub long : trailer_length ≤ length bs
  pub trailer : PastTrailer t (length bs)

pub past_widths : (bs : List ℕ) → up_to_widths bs ≡ 0 → PastWidths bs (trailer_in bs)
unfolding up_to_widths
past_widths bs e =
    let after24 = both_pass (leb (length bs) 8388608 otherwise 24) _ e in
    let after27 = both_pass (leb trailer_length (length bs) otherwise 27) _ after24.1 in
    record {
      short = leb-true _ _ (test_passes _ 23 after24.0);
      long = leb-true _ _ (test_passes _ 26 after27.0);
      trailer = past_trailer _ _ after27.1;
    }

pub sound_widths : (bs : List ℕ) → PastWidths bs (trailer_in bs) → up_to_widths bs ≡ 0
unfolding up_to_widths
sound_widths bs p = rw (le-leb _ _ p.short, le-leb _ _ p.long) (sound_trailer _ _ p.trailer)

-- ---- up to the length
pub record PastLength (bs : List ℕ) (t : Trailer) : Type 0 where
  pub widths : PastWidths bs t
  pub config : config_fault (widths_in bs t) t.grid ≡ 0
  pub whole : length bs ≡ image_length t.count (total_in bs t)
  pub first : t.parameters ≡ length bs

pub past_length : (bs : List ℕ) → up_to_length bs ≡ 0 → PastLength bs (trailer_in bs)
unfolding up_to_length length_fault
past_length bs e =
    let t = trailer_in bs in
    let after-widths = both_pass (up_to_widths bs) _ e in
    let after-config = both_pass (config_fault (widths_in bs t) t.grid) _ after-widths.1 in
    let exact = eqb (length bs) (image_length t.count (total_in bs t)) in
    let after-length = both_pass (exact otherwise 27) _ after-config.1 in
    record {
      widths = past_widths bs after-widths.0;
      config = after-config.0;
      whole = eqb-true _ _ (test_passes _ 26 after-length.0);
      first = eqb-true _ _ (test_passes _ 26 after-length.1);
    }

pub sound_length : (bs : List ℕ) → PastLength bs (trailer_in bs) → up_to_length bs ≡ 0
unfolding up_to_length length_fault
sound_length bs p =
    rw (sound_widths bs p.widths, p.config, eq-eqb _ _ p.whole, eq-eqb _ _ p.first)

pub size : (bs : List ℕ) (t : Trailer) → PastLength bs t → Sized (widths_in bs t) t.grid
size bs t p = sized _ _ p.config

-- ---- all checks
pub record PastEleven (bs : List ℕ) (t : Trailer) : Type 0 where
  pub length : PastLength bs t
  pub sound : all_finite (floats_in bs (total_in bs t)) ≡ true

pub past_eleven : (bs : List ℕ) → describe_fault bs ≡ 0 → PastEleven bs (trailer_in bs)
unfolding describe_fault
past_eleven bs e =
    let both = both_pass (up_to_length bs) _ e in
    record { length = past_length bs both.0; sound = test_passes _ 10 both.1 }

pub sound_all : (bs : List ℕ) → PastEleven bs (trailer_in bs) → describe_fault bs ≡ 0
unfolding describe_fault
sound_all bs p = rw (sound_length bs p.length, p.sound)
