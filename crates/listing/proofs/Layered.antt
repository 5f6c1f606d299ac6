-- The lines of the layers, from the widths in an image's bytes. Assumes nothing.
use Prim.Native.Nat.{ℕ, ◌+◌, ◌-◌, ◌*◌, ◌≤◌, ◌<◌}
use native.Mathlib.Omega.{arith}
use mathlib.Core.Path.{◌≡◌, sym, ap, ◌∙◌}
use mathlib.Core.List.{List}
use Rattle.floats.specs.Sums.{flat_to}
use Rattle.layers.specs.Widths.{width_at}
use Rattle.words.specs.Words.{word_at, words_from}
use Rattle.words.proofs.Tables.{word_at_lem}
use Rattle.image_reading.specs.declared.Description.{Description}
use Rattle.image_reading.specs.Image.{widths_of}
use Rattle.text.specs.Appended.{AppendedWithin}
use Rattle.text.proofs.Appends.{retold, retold_within, lines_more}
use Rattle.listing.specs.Listing.{layer_text, layer_line, layers_text}
use Rattle.listing.specs.Steps.{Listable}

-- ---- the two widths of layer l, as the code reads them
module _ (bs : List ℕ) (from n l i o : ℕ) (h : l + 1 < n) (p : i ≡ word_at bs (from + l * 4))
    (q : o ≡ word_at bs (from + l * 4 + 4)) where
  inputs_are : width_at (words_from bs from n) l ≡ i
  inputs_are = word_at_lem bs from n l (omega arith) ∙ sym p

  outputs_are : width_at (words_from bs from n) (l + 1) ≡ o
  outputs_are =
      let e : from + (l + 1) * 4 ≡ from + l * 4 + 4 = omega arith in
      word_at_lem bs from n (l + 1) h ∙ ap (word_at bs) e ∙ sym q

  line_is : (per : ℕ) → layer_text l i o (o * (i * per)) ≡ layer_line per (words_from bs from n) l
  line_is per = rw (inputs_are, outputs_are)

  -- one line more
  pub layers_more : (per : ℕ) {out out' out'' : List ℕ} {at next next' : ℕ}
      → AppendedWithin (90 * l) out at (flat_to (layer_line per (words_from bs from n)) l) out' next
      → AppendedWithin 90 out' next (layer_text l i o (o * (i * per))) out'' next'
      → AppendedWithin (90 * (l + 1)) out at (flat_to (layer_line per (words_from bs from n)) (l + 1)) out'' next'
  layers_more per a b = lines_more (layer_line per (words_from bs from n)) 90 l a (retold_within b (line_is per))

-- all lines
pub layers_all : (bs : List ℕ) (d : Description) (l : ℕ) {out out' : List ℕ} {at next : ℕ} → 1 ≤ d.widths
    → l ≡ d.widths - 1
    → AppendedWithin (90 * l) out at
    (flat_to (layer_line (d.grid.intervals + 5) (words_from bs (4 * d.parameters) (d.widths - 1 + 1))) l) out' next
    → AppendedWithin (90 * d.widths) out at (layers_text bs d) out' next
unfolding layers_text widths_of
layers_all bs d l h q a =
    let e : d.widths - 1 + 1 ≡ d.widths = omega arith in
    record { whole = retold a.whole (rw (e, q)); short = omega (arith, a.short) }

-- ---- a layer's numbers are small
module _ (bs : List ℕ) (d : Description) (z : Listable bs d) (l i o : ℕ) (h : l + 1 < d.widths)
    (p : i ≡ word_at bs (4 * d.parameters + l * 4)) (q : o ≡ word_at bs (4 * d.parameters + l * 4 + 4)) where
  pub inner_small : i * (d.grid.intervals + 5) ≤ 250000
  unfolding widths_of
  inner_small = rw (← inputs_are bs (4 * d.parameters) d.widths l i o h p q) (z.inner l h)

  pub outer_small : o * (i * (d.grid.intervals + 5)) ≤ 250000
  unfolding widths_of
  outer_small =
      let inputs = inputs_are bs (4 * d.parameters) d.widths l i o h p q in
      let outputs = outputs_are bs (4 * d.parameters) d.widths l i o h p q in
      rw (← inputs, ← outputs) (z.outer l h)
