-- Wherever the reader accepts, each number of the file is where its shape says, and nothing else moves.
-- Assumes nothing.
use Prim.Native.Nat.{ℕ, ◌+◌, ◌*◌, ◌/◌, ◌%◌, ◌<◌}
use native.Mathlib.Nat.{le_refl, div-add-mod', mod-lt, div-lt_iff_lt-mul}
use native.Mathlib.Omega.{arith}
use mathlib.Core.Path.{◌≡◌, sym, ap, ◌∙◌}
use mathlib.Core.Logic.{◌⊎◌, inl, inr}
use mathlib.Core.List.{List}
use lib.ListN.{length}
use lib.Ieee.{Float}
use Rattle.floats.specs.Sums.{at}
use Rattle.floats.proofs.Loops.{room}
use Rattle.refusals.proofs.Firsts.{both_pass}
use Rattle.spline.specs.declared.Grid.{Grid}
use Rattle.layers.specs.Widths.{width_at}
use Rattle.words.specs.Words.{float_at}
use Rattle.layer_coefficients.specs.Coefficients.{up_to37, layer_at, edges_of}
use Rattle.npy_reading.specs.Reader.{body_in, read_fault}
use Rattle.npy_round_trip.specs.RoundTrip.{place_of, element_of, IsCoefficient, SameElsewhere, after_file, InPlace}
use Rattle.npy_round_trip.proofs.Edges.{InEdge, coefficient, replaced_length, each_place}
use Rattle.npy_round_trip.proofs.Layers.{Placed, placed}
use Rattle.npy_round_trip.proofs.Said.{header_says, body_length}

module _ (ws : List ℕ) (g : Grid) (l : ℕ) where
  -- a place of the model that is coefficient [o, i, k]
  pub record Coefficient (p : ℕ) : Type 0 where
    pub o : ℕ
    pub i : ℕ
    pub k : ℕ
    pub within : IsCoefficient ws g l o i k
    pub place : p ≡ place_of ws g l o i k

  -- the edges of a layer are in row order: by output, and then by input
  pub edge_below : (o i k : ℕ) → IsCoefficient ws g l o i k → o * width_at ws l + i < edges_of ws l
  edge_below o i k c =
      let m = room o (width_at ws (l + 1)) (width_at ws l) _ c.output (le_refl _) in
      omega (arith, m, c.input)

  module _ (ps : List Float) (p : Placed ws g l ps) where
    in_row_order : (q : ℕ) → InEdge (layer_at ws g l) g.intervals (edges_of ws l) q → Coefficient q
    in_row_order q c =
        let width = width_at ws l in
        let e = c.edge in
        let some = p.inputs.some in
        let row : e ≡ e / width * width + e % width = sym (div-add-mod' e width) in
        record {
          o = e / width;
          i = e % width;
          k = c.index;
          within = record {
            output = (div-lt_iff_lt-mul {k = width} {x = e} {y = width_at ws (l + 1)} some).1 c.below;
            input = mod-lt e some;
            index = c.few;
          };
          place = c.place ∙ ap (λ (n : ℕ). layer_at ws g l + n * (g.intervals + 5) + 2 + c.index) row;
        }

    -- ---- what the bytes of a file leave
    module _ (bs : List ℕ) where
      pub file_element : (o i k : ℕ) → IsCoefficient ws g l o i k
          → at (after_file ws g l ps bs) (place_of ws g l o i k) ≡ float_at (body_in bs) (element_of ws g l o i k * 4)
      file_element o i k c =
          coefficient ps (layer_at ws g l) g.intervals (edges_of ws l) (body_in bs) p.inside
          (o * width_at ws l + i) k (edge_below o i k c) c.index

      file_length_lem : length (after_file ws g l ps bs) ≡ length ps
      file_length_lem =
          replaced_length ps (layer_at ws g l) g.intervals (edges_of ws l) (body_in bs) p.inside

      pub file_place : (q : ℕ) → Coefficient q ⊎ (at (after_file ws g l ps bs) q ≡ at ps q)
      file_place q =
          elim (each_place ps (layer_at ws g l) g.intervals (edges_of ws l) (body_in bs) p.inside q) [
            | inl c ↦ inl (in_row_order q c)
            | inr e ↦ inr e
          ]

      pub file_elsewhere : SameElsewhere ws g l ps (after_file ws g l ps bs)
      file_elsewhere = record {
        long = file_length_lem;
        same = λ q other. elim (file_place q) [
          | inl c ↦ absurd (other c.o c.i c.k c.within c.place)
          | inr e ↦ e
        ];
      }

pub in_place : (ws : List ℕ) (g : Grid) (ps : List Float) (l : ℕ) (bs : List ℕ) → read_fault ws g ps l bs ≡ 0
    → InPlace ws g l ps bs
unfolding read_fault
in_place ws g ps l bs e =
    let p = placed ws g l ps (both_pass (up_to37 ws g (length ps) l) _ e).0 in
    record {
      header = header_says ws g ps l bs e;
      body = body_length ws g ps l bs e;
      element = file_element ws g l ps p bs;
      elsewhere = file_elsewhere ws g l ps p bs;
    }
