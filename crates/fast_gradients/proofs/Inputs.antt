-- A layer's edges added input by input: none of the gradients becomes -0.0, and after the last input all are added.
-- Assumes nothing.
use mathlib.Core.Path.{◌≡◌, refl, ap, ◌∙◌}
use Prim.Native.Nat.{ℕ, ◌+◌, ◌-◌, ◌*◌, ◌≤◌, ◌<◌}
use native.Mathlib.Nat.{le_refl, mul-le-mul_right}
use native.Mathlib.Omega.{arith}
use mathlib.Core.List.{List}
use lib.ListN.{length, take, drop}
use lib.Ieee.{Float}
use Rattle.floats.specs.Sums.{tabulate, flat_to, at}
use Rattle.floats.proofs.Loops.{tab_length, flat_length, room, rest, cut}
use Rattle.spline.specs.declared.Grid.{Grid}
use Rattle.layers.specs.Basis.{Basis}
use Rattle.layers.specs.Net.{basis_of}
use Rattle.fast_forward.specs.Inputs.{Edges}
use Rattle.fast_forward.proofs.Edges.{edge_within}
use Rattle.gradients.specs.Gradient.{slot_of, edge_slots, layer_slots}
use Rattle.gradients.specs.Steps.{plus_of}
use Rattle.gradients.proofs.Edges.{node_length}
use Rattle.fast_gradients.specs.Adding.{Clean, input_slots, plus_each}
use Rattle.fast_gradients.proofs.Clean.{clean_part, clean_each, edge_held, flat_held}
use Rattle.fast_gradients.proofs.Rows.{each_length, rows_none, rows_turn, rows_whole}

-- ---- one input: after some of its edges, the next one's part
pub edge_clean : {g : Grid} {ps : List Float} {w i n : ℕ} (r : Edges g ps w i n) (x : Float)
    (ups ds : List Float) (o : ℕ)
    (e : List Float) → o < n → n * (w * (g.intervals + 5)) ≤ length ds → Clean (n * (w * (g.intervals + 5))) ds
    → e ≡ plus_each (λ (j : ℕ). j * (w * (g.intervals + 5)) + i * (g.intervals + 5))
    (input_slots (basis_of g) ps w i x ups) ds o
    → Clean (g.intervals + 5) (drop (o * (w * (g.intervals + 5)) + i * (g.intervals + 5)) e)
edge_clean {g} {ps} {w} {i} {n} r x ups ds o e l k c q =
    let s = g.intervals + 5 in
    let P : ℕ → ℕ = λ j. j * (w * s) + i * s in
    let S = input_slots (basis_of g) ps w i x ups in
    clean_part (P o) s (n * (w * s)) e (edge_within r o l)
    (rw q (clean_each P S (n * (w * s)) ds o (λ j h. rw tab_length (omega (arith, edge_within r j (omega arith))))
    (λ j. edge_held (basis_of g) _ x (at ups j) s) c))

-- a call that was lent the rests from the edge's place on
pub edge_turn : (B : Basis) (ps : List Float) (w i : ℕ) (x : Float) (ups : List Float) (o : ℕ) (e y : List Float)
    → (let a = o * (w * B.stride) + i * B.stride in
    y ≡ plus_of (take (length e - a) (drop a e))
    (tabulate (slot_of B (take (length ps - a) (drop a ps)) x (at ups o)) B.stride))
    → y ≡ plus_of (drop (o * (w * B.stride) + i * B.stride) e) (input_slots B ps w i x ups o)
edge_turn B ps w i x ups o e y q =
    let row = o * (w * B.stride) in
    let first = i * B.stride in
    q ∙ rw (rest (row + first) e, cut ps row first)

-- ---- all inputs: what the o-th output's first i edges receive
abbrev first_edges : Basis → List Float → List Float → List Float → ℕ → ℕ → List Float
first_edges B ps xs ups i o = flat_to (edge_slots B (drop (o * (length xs * B.stride)) ps) xs (at ups o)) i

abbrev row_at : Basis → List Float → ℕ → ℕ
row_at B xs o = o * (length xs * B.stride)

-- the gradients ds after i inputs
pub record ByInput (B : Basis) (ps xs ups ds e : List Float) (i : ℕ) : Type 0 where
  pub bound : i ≤ length xs
  pub size : length e ≡ length ds
  pub sums : e ≡ plus_each (row_at B xs) (first_edges B ps xs ups i) ds (length ups)

module _ (B : Basis) (ps xs ups : List Float) where
  first_length : (i o : ℕ) → length (first_edges B ps xs ups i o) ≡ i * B.stride
  first_length i o = flat_length _ B.stride (λ j. tab_length _ B.stride) i

  -- they lie within the o-th row
  first_fit : (L i o : ℕ) → length ups * (length xs * B.stride) ≤ L → i ≤ length xs → o < length ups
      → row_at B xs o + length (first_edges B ps xs ups i o) ≤ L
  first_fit L i o fit h l =
      let row = length xs * B.stride in
      let part : i * B.stride ≤ row = mul-le-mul_right B.stride h in
      omega (arith, first_length i o, room o (length ups) row L l fit)

module _ {B : Basis} {ps xs ups ds : List Float} (fit : length ups * (length xs * B.stride) ≤ length ds) where
  pub input_none : ByInput B ps xs ups ds ds 0
  input_none = record {
    bound = omega arith;
    size = refl;
    sums = rows_none (row_at B xs) (λ (o : ℕ). edge_slots B (drop (row_at B xs o) ps) xs (at ups o)) ds (length ups);
  }

  pub input_more : {e : List Float} {i : ℕ} (y : List Float) → ByInput B ps xs ups ds e i → i < length xs
      → y ≡ plus_each (λ (o : ℕ). o * (length xs * B.stride) + i * B.stride)
      (input_slots B ps (length xs) i (at xs i) ups) e (length ups)
      → ByInput B ps xs ups ds y (i + 1)
  input_more {e} {i} y s l q =
      let row = length xs * B.stride in
      let slots : ℕ → ℕ → List Float = λ o. edge_slots B (drop (o * row) ps) xs (at ups o) in
      let new : y ≡ plus_each (row_at B xs) (first_edges B ps xs ups (i + 1)) ds (length ups) =
      rows_turn row B.stride slots (λ o j. tab_length _ B.stride) i (length ups) ds e y
      (room i (length xs) B.stride row l (le_refl row)) fit s.sums q in
      record {
        bound = omega arith;
        size = ap length new ∙ each_length (row_at B xs) (first_edges B ps xs ups (i + 1)) ds (length ups)
            (λ o h. first_fit B ps xs ups (length ds) (i + 1) o fit (omega arith) h);
        sums = new;
      }

  pub input_all : {e : List Float} {i : ℕ} → ByInput B ps xs ups ds e i → length xs ≤ i
      → e ≡ plus_of ds (layer_slots B ps xs ups)
  unfolding layer_slots
  input_all {e} {i} s h =
      let last : i ≡ length xs = omega (arith, s.bound) in
      (rw last at s.sums) ∙ rows_whole _ _ (node_length B ps xs ups) _ _

  pub input_clean : {e : List Float} {i : ℕ} → ByInput B ps xs ups ds e i
      → Clean (length ups * (length xs * B.stride)) ds
      → Clean (length ups * (length xs * B.stride)) e
  input_clean {e} {i} s c =
      rw s.sums (clean_each (row_at B xs) (first_edges B ps xs ups i) (length ups * (length xs * B.stride)) ds
      (length ups)
      (λ o h. first_fit B ps xs ups (length ds) i o fit s.bound h)
      (λ o. flat_held _ (λ j. edge_held B _ _ _ B.stride) i) c)
