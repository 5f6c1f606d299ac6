-- A row's marks layer by layer: where they stand at a layer, one layer more, a stop, the end, and a whole row.
-- Assumes nothing.
use Rattle.std.specs.Prelude.{Ok, Err}
use mathlib.Core.Path.{◌≡◌, refl, sym, ◌∙◌}
use mathlib.Core.Bool.{Bool}
use mathlib.Core.List.{List, ◌++◌}
use Prim.Native.Nat.{ℕ, zero, suc, ◌+◌, ◌-◌, ◌*◌, ◌≤◌, ◌<◌}
use native.Mathlib.Nat.{le_trans}
use native.Mathlib.Numerals.{add-one}
use native.Mathlib.Omega.{arith}
use lib.ListN.{length, take, drop, length-append}
use lib.Seq.{length-take-le}
use lib.Ieee.{Float}
use borrow.Rule.Slice.PartMut.{put_mid}
use Rattle.floats.specs.Sums.{flat_to}
use Rattle.floats.proofs.Loops.{rest, rest_length}
use Rattle.spline.specs.declared.Grid.{Grid}
use Rattle.layers.specs.Net.{Net, net_of, basis_at, basis_of}
use Rattle.layers.specs.Widths.{width_at, params_to}
use Rattle.layer_cursor.specs.declared.Layer.{Layer}
use Rattle.layer_cursor.specs.Cursor.{Stands}
use Rattle.layer_cursor.proofs.Cursors.{inside}
use Rattle.refusals.specs.declared.Refusal.{Refusal}
use Rattle.refusals.specs.Refusals.{Outcome, outcome_of}
use Rattle.batches.specs.Batch.{row_fault}
use Rattle.passes.specs.Pass.{nodes_of}
use Rattle.passes.specs.Turns.{holder, Turned}
use Rattle.passes.proofs.Passes.{nodes_length}
use Rattle.passes.proofs.Walks.{Walked, Turning, Left, set_out, one_layer, stopped, arrived, may_turn, left}
use Rattle.passes.proofs.Rows.{Faultless, at_fault, copied_row, through}
use Rattle.touched_layer.specs.Touched.{layer_touched}
use Rattle.touched_layer.specs.Marks.{marked_by}
use Rattle.touched_layer.proofs.Marking.{marked_first, marked_size, marked_part}
use Rattle.touched_layer.proofs.Layers.{layer_length}
use Rattle.touched_row.specs.Touched.{row_touched}
use Rattle.touched_row.specs.RowMarks.{Held, Markable, LayersMarked, RowMarked}

-- what layer l touches
abbrev pub row_layer : Net → List Float → List ℕ → List Float → ℕ → List Bool
row_layer N ps ws xs l = layer_touched (basis_at N l) (nodes_of N ps ws xs l) (width_at ws (l + 1))

-- the first l layers have as many parameters as the model has there
pub row_length : (g : Grid) (ps : List Float) (ws : List ℕ) (xs : List Float) → length xs ≡ width_at ws 0 → (l : ℕ)
    → length (flat_to (row_layer (net_of g) ps ws xs) l) ≡ params_to (g.intervals + 5) ws l
unfolding flat_to params_to
row_length g ps ws xs e zero = refl
row_length g ps ws xs e (suc l) =
    rw (length-append, row_length g ps ws xs e l, layer_length g, nodes_length (net_of g) ps ws xs e l)

-- the row at the front of the second slice
abbrev pub row_in : List ℕ → List Float → List Float
row_in ws b = take (width_at ws 0) b

-- ---- at layer l, from the slices a₀ and b₀ and the bytes ms₀: those of l layers are marked
pub record Marched (g : Grid) (ps : List Float) (ws : List ℕ) (a₀ b₀ : List Float) (ms₀ : List ℕ) (l : ℕ) (c : Layer)
    (a b : List Float) (ms : List ℕ) : Type 0 where
  pub walked : Walked g ps ws (row_in ws b₀) a₀ b₀ l c a b
  pub bytes : ms ≡ marked_by (flat_to (row_layer (net_of g) ps ws (row_in ws b₀)) l) ms₀

-- ---- after the turn at layer l, which answered r: its bytes are marked too
pub record LeftMarked (g : Grid) (ps : List Float) (ws : List ℕ) (a₀ b₀ : List Float) (ms₀ : List ℕ) (l : ℕ)
    (a b : List Float) (ms : List ℕ) (r : Outcome) : Type 0 where
  pub left : Left g ps ws (row_in ws b₀) a₀ b₀ l a b r
  pub bytes : ms ≡ marked_by (flat_to (row_layer (net_of g) ps ws (row_in ws b₀)) (l + 1)) ms₀

module _ {g : Grid} {ps : List Float} {ws : List ℕ} {a₀ b₀ : List Float} {ms₀ : List ℕ} where
  pub none_marked : {c : Layer} → Stands g ws 0 c → Marched g ps ws a₀ b₀ ms₀ 0 c a₀ b₀ ms₀
  none_marked s = record { walked = set_out s refl; bytes = marked_first _ ms₀ }

  pub one_marked : {l : ℕ} {d : Layer} {a b : List Float} {ms : List ℕ} {r : Outcome} → r ≡ Ok tt
      → LeftMarked g ps ws a₀ b₀ ms₀ l a b ms r → Stands g ws (l + 1) d → Marched g ps ws a₀ b₀ ms₀ (l + 1) d a b ms
  one_marked e t s = record { walked = one_layer e t.left s; bytes = t.bytes }

  -- a stop at a value that is not finite, and the end of the way
  pub marks_stopped : {l : ℕ} {a b : List Float} {ms : List ℕ} {r : Outcome} {e : Refusal} → r ≡ Err e
      → LeftMarked g ps ws a₀ b₀ ms₀ l a b ms r → LayersMarked (net_of g) ps ws (row_in ws b₀) a₀ b₀ ms₀ (Err e) a b ms
  marks_stopped p t = record { layered = stopped p t.left; bytes = λ q. cc }

  pub all_marked : {l : ℕ} {c : Layer} {a b : List Float} {ms : List ℕ} → l ≡ length ws - 1
      → Marched g ps ws a₀ b₀ ms₀ l c a b ms → LayersMarked (net_of g) ps ws (row_in ws b₀) a₀ b₀ ms₀ (Ok tt) a b ms
  unfolding row_touched
  all_marked e k = record { layered = arrived e k.walked; bytes = λ q. rw (← e) k.bytes }

-- ---- in a turn at layer l of a row whose model, slices and map fit
pub record Marching (g : Grid) (ps : List Float) (ws : List ℕ) (a₀ b₀ : List Float) (ms₀ : List ℕ) (l : ℕ) (c : Layer)
    (a b : List Float) (ms : List ℕ) : Type 0 where
  pub markable : Markable g ps ws a₀ b₀ ms₀
  pub more : l < length ws - 1
  pub marched : Marched g ps ws a₀ b₀ ms₀ l c a b ms

pub in_march : {g : Grid} {ps : List Float} {ws : List ℕ} {a₀ b₀ : List Float} {ms₀ : List ℕ} {l : ℕ} {c : Layer}
    {a b : List Float} {ms : List ℕ} → Markable g ps ws a₀ b₀ ms₀ → l < length ws - 1
    → Marched g ps ws a₀ b₀ ms₀ l c a b ms → Marching g ps ws a₀ b₀ ms₀ l c a b ms
in_march m h k = record { markable = m; more = h; marched = k }

module _ {g : Grid} {ps : List Float} {ws : List ℕ} {a₀ b₀ : List Float} {ms₀ : List ℕ} {l : ℕ} {c : Layer}
    {a b : List Float} {ms : List ℕ} (t : Marching g ps ws a₀ b₀ ms₀ l c a b ms) where
  pub turning : Turning g ps ws (row_in ws b₀) a₀ b₀ l c c.mesh.grid a b
  turning = record {
    fits = t.markable.fits;
    mesh = t.marched.walked.stands.mesh;
    more = t.more;
    walked = t.marched.walked;
  }

  stood : Stands g ws l c
  stood = t.marched.walked.stands

  wide : length (row_in ws b₀) ≡ width_at ws 0
  wide = length-take-le _ _ (t.markable.fits.second 0 (omega (arith, t.more)))

  -- the layer's bytes lie in the map
  pub bytes_in : c.at + c.outputs * (c.inputs * (g.intervals + 5)) ≤ length ms
  bytes_in =
      rw (marked_size _ ms₀ ms t.marched.bytes) (le_trans (inside g ws l c t.more stood) t.markable.bytes)

  -- what marking the layer asks
  pub may_mark : Held c.mesh.grid c.inputs c.outputs a b (take (length ms - c.at) (drop c.at ms))
  may_mark =
      let m = may_turn turning t.markable.finite in
      record {
        some = m.layer.some;
        first = m.from_first;
        second = m.from_second;
        bytes = rw (stood.mesh, rest_length) (omega (arith, bytes_in));
      }

  -- and what it leaves: the marks are made from the numbers that the holder has
  layer_marked : {y : List ℕ}
      → y ≡ marked_by (layer_touched (basis_of c.mesh.grid) (take c.inputs (holder l a b)) c.outputs)
      (take (length ms - c.at) (drop c.at ms))
      → put_mid c.at (length ms - c.at) ms y ≡ marked_by (flat_to (row_layer (net_of g) ps ws (row_in ws b₀)) (l + 1)) ms₀
  unfolding flat_to
  layer_marked {y} q =
      let k = t.marched in
      let f = row_layer (net_of g) ps ws (row_in ws b₀) in
      let r : y ≡ marked_by (f l) (drop c.at ms) =
      rw (rest c.at ms, stood.mesh, stood.inputs, stood.outputs, k.walked.values) at q in
      rw (add-one l) (marked_part (flat_to f l) (f l) c.at ms₀ ms y k.bytes
      (row_length g ps ws (row_in ws b₀) wide l ∙ sym stood.part) (omega (arith, bytes_in)) r)

  pub left_marked : {y : List ℕ} {a' b' : List Float} {r : Outcome}
      → y ≡ marked_by (layer_touched (basis_of c.mesh.grid) (take c.inputs (holder l a b)) c.outputs)
      (take (length ms - c.at) (drop c.at ms))
      → Turned (basis_of c.mesh.grid) (take (length ps - c.at) (drop c.at ps)) l c.inputs c.outputs a b a' b' r
      → LeftMarked g ps ws a₀ b₀ ms₀ l a' b' (put_mid c.at (length ms - c.at) ms y) r
  left_marked q y = record { left = left turning y; bytes = layer_marked q }

-- ---- a whole row
pub row_at_fault : (N : Net) (ps : List Float) (ws : List ℕ) (xs a b : List Float) (ms : List ℕ) (r : Refusal)
    → Err r ≡ outcome_of (row_fault (width_at ws 0) 14 15 xs) 0 → RowMarked N ps ws xs a b ms (Err r) a b ms
row_at_fault N ps ws xs a b ms r p = record { ran = at_fault N ps ws xs a b r p; bytes = λ q. cc }

-- it was copied to the front of the second slice, and went through the layers from there
pub row_through : {g : Grid} {N : Net} {ps : List Float} {ws : List ℕ} {xs a b c a' b' : List Float} {ms ms' : List ℕ}
    {r : Outcome} → Faultless g ps ws xs a b → c ≡ xs ++ drop (length xs) b
    → LayersMarked N ps ws (row_in ws c) a c ms r a' b' ms' → RowMarked N ps ws xs a b ms r a' b' ms'
row_through {ws = ws} {xs} {b = b} {c} s p y = record {
  ran = through s p y.layered;
  bytes = λ e. rw (copied_row (width_at ws 0) xs b c s.fault p) at (y.bytes e);
}
