-- R15.1 to R15.4: the listing of an image. Definitions only.
use Rattle.std.specs.Prelude.{ℕ, zero, suc, ◌+◌, ◌-◌, List, [], ◌∷◌, ◌++◌, leb, length}
use Rattle.std.specs.Float.{binary32}
use Rattle.std.specs.Float.Ieee.{to_bits}
use Rattle.floats.specs.Sums.{flat_to}
use Rattle.refusals.specs.Refusals.{◌otherwise◌, ◌then◌}
use Rattle.spline.specs.declared.Grid.{Grid}
use Rattle.layers.specs.Widths.{width_at, layer_size}
use Rattle.image_reading.specs.declared.Description.{Description}
use Rattle.image_reading.specs.Image.{describe_fault, description_in, widths_of}
use Rattle.text.specs.Text.{number_text, pattern_text, labelled_line}

-- R15.2, R15.4: "grid ", "layer ", "total ", "refused "
unfoldable pub grid_label : List ℕ
grid_label = 103 ∷ 114 ∷ 105 ∷ 100 ∷ 32 ∷ []

unfoldable pub layer_label : List ℕ
layer_label = 108 ∷ 97 ∷ 121 ∷ 101 ∷ 114 ∷ 32 ∷ []

unfoldable pub total_label : List ℕ
total_label = 116 ∷ 111 ∷ 116 ∷ 97 ∷ 108 ∷ 32 ∷ []

unfoldable pub refused_label : List ℕ
refused_label = 114 ∷ 101 ∷ 102 ∷ 117 ∷ 115 ∷ 101 ∷ 100 ∷ 32 ∷ []

-- ---- R15.2: the lines
unfoldable pub grid_line : Grid → List ℕ
grid_line g =
    grid_label ++ (number_text g.intervals 32
    ++ (pattern_text (to_bits binary32 g.lo) 32 ++ pattern_text (to_bits binary32 g.hi) 10))

unfoldable pub layer_text : ℕ → ℕ → ℕ → ℕ → List ℕ
layer_text l inputs outputs parameters =
    layer_label ++ (number_text l 32 ++ (number_text inputs 32 ++ (number_text outputs 32 ++ number_text parameters 10)))

abbrev pub layer_line : ℕ → List ℕ → ℕ → List ℕ
layer_line per ws l = layer_text l (width_at ws l) (width_at ws (l + 1)) (layer_size per ws l)

-- ---- R15.2: the whole
unfoldable pub layers_text : List ℕ → Description → List ℕ
layers_text bs d = flat_to (layer_line (d.grid.intervals + 5) (widths_of bs d)) (d.widths - 1)

unfoldable pub sound_text : List ℕ → Description → List ℕ
sound_text bs d = grid_line d.grid ++ (layers_text bs d ++ labelled_line total_label d.parameters)

-- R15.2, R15.4: of an image whose checks come to n
abbrev pub described_text : ℕ → List ℕ → List ℕ
described_text zero bs = sound_text bs (description_in bs)
described_text (suc n) bs = labelled_line refused_label (suc n)

-- R15.1: more than 65,536 bytes give 24; else the reader's checks are made
unfoldable pub list_fault : List ℕ → ℕ
list_fault bs = leb (length bs) 65536 otherwise 24 then describe_fault bs

unfoldable pub listing_of : List ℕ → List ℕ
listing_of bs = described_text (list_fault bs) bs
