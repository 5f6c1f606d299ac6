-- R17.9: a layer's coefficients to a file and back: what the theorems of this crate say. Definitions only.
use Rattle.std.specs.Prelude.{ℕ, ◌+◌, ◌*◌, ◌<◌, ◌≡◌, true, false, List, T, length, Float}
use Rattle.std.specs.Float.{binary32}
use Rattle.std.specs.Float.Ieee.{fits}
use Rattle.floats.specs.Sums.{at, all_finite}
use Rattle.spline.specs.declared.Grid.{Grid}
use Rattle.layers.specs.Widths.{width_at}
use Rattle.words.specs.Words.{float_at}
use Rattle.layer_coefficients.specs.Coefficients.{layer_at, edges_of, replaced}
use Rattle.npy_writing.specs.Writing.{file_of, write_fault}
use Rattle.npy_header.specs.Dictionary.{Dictionary, single_word}
use Rattle.npy_header.specs.Grammar.{Header}
use Rattle.npy_header.specs.File.{text_in}
use Rattle.npy_reading.specs.Reader.{shape_of, body_in, read_fault}

-- R1.1: numbers that an f32 holds, as each of the machine's is
abbrev pub Held : List Float → Type 0
Held ps = (i : ℕ) → i < length ps → T (fits binary32 (at ps i))

-- R18.2: f32 numbers with the lowest byte first, row by row
abbrev pub singles : List ℕ → Dictionary
singles shape = record { descr = single_word; fortran_order = false; shape = shape }

module _ (ws : List ℕ) (g : Grid) (l : ℕ) where
  -- R2.6: where coefficient k of the edge from input i to output o of layer l stands in the flat model, and R18.7: which
  -- number of a file it is, element [o, i, k]
  abbrev pub place_of : ℕ → ℕ → ℕ → ℕ
  place_of o i k = layer_at ws g l + (o * width_at ws l + i) * (g.intervals + 5) + 2 + k

  abbrev pub element_of : ℕ → ℕ → ℕ → ℕ
  element_of o i k = (o * width_at ws l + i) * (g.intervals + 3) + k

  pub record IsCoefficient (o i k : ℕ) : Type 0 where
    pub output : o < width_at ws (l + 1)
    pub input : i < width_at ws l
    pub index : k < g.intervals + 3

  -- two models are the same but at the coefficients of layer l, weights of the layer and all other layers included
  pub record SameElsewhere (ps qs : List Float) : Type 0 where
    pub long : length qs ≡ length ps
    pub same : (p : ℕ) → ((o i k : ℕ) → IsCoefficient o i k → p ≡ place_of o i k → ⊥) → at qs p ≡ at ps p

  -- the model that a file's bytes leave
  abbrev pub after_file : List Float → List ℕ → List Float
  after_file ps bs = replaced ps (layer_at ws g l) g.intervals (edges_of ws l) (body_in bs)

  -- R17.9: an accepted file says that rows of f32 numbers of the layer's shape follow, and as many do; each is where the shape
  -- says, and nothing else moves
  pub record InPlace (ps : List Float) (bs : List ℕ) : Type 0 where
    pub header : Header (singles (shape_of ws g l)) (text_in bs)
    pub body : length (body_in bs) ≡ edges_of ws l * (g.intervals + 3) * 4
    pub element : (o i k : ℕ) → IsCoefficient o i k
        → at (after_file ps bs) (place_of o i k) ≡ float_at (body_in bs) (element_of o i k * 4)
    pub elsewhere : SameElsewhere ps (after_file ps bs)

  -- R17.9: what was written of ps is accepted for any sound model of the configuration, and gives it the coefficients of
  -- ps
  pub record ReadBack (ps qs : List Float) : Type 0 where
    pub accepted : read_fault ws g qs l (file_of ws g ps l) ≡ 0
    pub element : (o i k : ℕ) → IsCoefficient o i k
        → at (after_file qs (file_of ws g ps l)) (place_of o i k) ≡ at ps (place_of o i k)
    pub elsewhere : SameElsewhere qs (after_file qs (file_of ws g ps l))

pub record RoundTrip : Type 0 where
  -- wherever the reader accepts
  pub in_place : (ws : List ℕ) (g : Grid) (ps : List Float) (l : ℕ) (bs : List ℕ) → read_fault ws g ps l bs ≡ 0
      → InPlace ws g l ps bs
  -- wherever the writer accepts, whatever the bytes that it was lent
  pub read_back : (ws : List ℕ) (g : Grid) (ps qs : List Float) (l : ℕ) (bs : List ℕ) → Held ps
      → write_fault ws g ps l bs ≡ 0 → length qs ≡ length ps → all_finite qs ≡ true → ReadBack ws g l ps qs
  -- and the same model is as it was
  pub restored : (ws : List ℕ) (g : Grid) (ps : List Float) (l : ℕ) (bs : List ℕ) → Held ps
      → write_fault ws g ps l bs ≡ 0 → after_file ws g l ps (file_of ws g ps l) ≡ ps
