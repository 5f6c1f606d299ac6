-- What an accepted image's lines may ask of it, and the listing case by case. Assumes nothing.
use Rattle.std.specs.Prelude.{Err, Ok}
use Prim.Native.Nat.{ℕ, zero, suc, ◌+◌, ◌-◌, ◌*◌, ◌≤◌, ◌<◌}
use native.Mathlib.Omega.{arith}
use mathlib.Core.Path.{◌≡◌, refl, sym, ap, subst}
use mathlib.Core.List.{List}
use lib.ListN.{length}
use borrow.Author.Tests.{le-leb, lt-leb}
use Rattle.floats.proofs.Loops.{row_room}
use Rattle.refusals.specs.declared.Refusal.{Refusal}
use Rattle.layers.specs.Widths.{width_at, layer_size}
use Rattle.config.proofs.Sized.{layer_room}
use Rattle.words.specs.Words.{words_from}
use Rattle.words.proofs.Tables.{words_length}
use Rattle.image_reading.specs.declared.Description.{Description}
use Rattle.image_reading.specs.Image.{trailer_in, widths_in, total_in, describe_fault, description_in, describe_of, widths_of}
use Rattle.image_reading.proofs.Passed.{PastLength, size, past_eleven}
use Rattle.image_reading.proofs.Parts.{described, undescribed, described_room}
use Rattle.text.specs.Text.{labelled_line}
use Rattle.listing.specs.Listing.{refused_label, sound_text, described_text, list_fault, listing_of}
use Rattle.listing.specs.Steps.{Listable}

-- ---- an accepted image
listable_of : (bs : List ℕ) → PastLength bs (trailer_in bs) → Listable bs (description_in bs)
unfolding widths_of
listable_of bs a =
    let t = trailer_in bs in
    let P = total_in bs t in
    let z = size bs t a in
    let n : length (widths_in bs t) ≡ t.count = words_length bs (length bs - t.widths) t.count in
    let from : length bs - t.widths ≡ 4 * P = omega (arith, a.widths.trailer.distance, a.whole) in
    let ws = words_from bs (4 * P) t.count in
    let per = t.grid.intervals + 5 in
    let outer : (l : ℕ) → l + 1 < t.count → layer_size per ws l ≤ 250000 =
    λ l h. rw (← from) (omega (arith, layer_room per (widths_in bs t) l (omega (arith, n, h)), z.small)) in
    record {
      ends = record { lo = z.lo_finite; hi = z.hi_finite };
      some = omega (arith, z.some, n);
      room = omega (arith, a.whole);
      few_parameters = z.small;
      few_intervals = z.grid;
      inner = λ l h. row_room (width_at ws (l + 1)) (width_at ws l * per) 250000
          (rw (← from) (z.positive (l + 1) (omega (arith, n, h)))) (outer l h);
      outer = outer;
    }

module _ (bs : List ℕ) (d : Description) (e : describe_of bs ≡ Ok d) where
  pub listable : Listable bs d
  listable =
      let a = described bs d e in
      subst (Listable bs) a.same (listable_of bs (past_eleven bs a.passed).length)

  -- the longest listing
  pub enough : (n : ℕ) → length bs ≤ 65536 → 1500000 ≤ n → 71 + 90 * d.widths ≤ n
  enough n l k = omega (arith, (described_room bs d e).whole)

-- ---- the listing
refused_text : (n : ℕ) (bs : List ℕ) → (n ≡ 0 → ⊥) → labelled_line refused_label n ≡ described_text n bs
refused_text zero bs some = absurd (some refl)
refused_text (suc n) bs some = refl

module _ (bs : List ℕ) where
  pub list_long : 65536 < length bs → labelled_line refused_label 24 ≡ listing_of bs
  unfolding listing_of list_fault
  list_long l = rw (lt-leb (length bs) 65536 l)

  described_alone : length bs ≤ 65536 → list_fault bs ≡ describe_fault bs
  unfolding list_fault
  described_alone l = rw (le-leb (length bs) 65536 l)

  pub list_refused : (r : Refusal) → length bs ≤ 65536 → describe_of bs ≡ Err r
      → labelled_line refused_label r.number ≡ listing_of bs
  unfolding listing_of
  list_refused r l e =
      let a = undescribed bs r e in
      rw (described_alone l, a.number) (refused_text (describe_fault bs) bs a.stopped)

  pub list_sound : (d : Description) → length bs ≤ 65536 → describe_of bs ≡ Ok d → sound_text bs d ≡ listing_of bs
  unfolding listing_of
  list_sound d l e =
      let a = described bs d e in
      rw (described_alone l, a.passed) (ap (sound_text bs) (sym a.same))
