-- What the writer leaves: a header and the coefficients. Assumes nothing.
use Prim.Native.Nat.{ℕ, ◌+◌, ◌-◌, ◌*◌}
use native.Mathlib.Omega.{arith}
use mathlib.Core.Path.{◌≡◌, sym, ap, subst, ◌∙◌}
use mathlib.Core.List.{List, [], ◌++◌, append-nil}
use lib.ListN.{length, take, drop, length-drop, drop_of_length-le}
use lib.Seq.{take_at}
use lib.Ieee.{Float}
use borrow.Rule.Slice.PartMut.{put_mid}
use Rattle.floats.proofs.Loops.{put_rest, rest, rest_length}
use Rattle.spline.specs.declared.Grid.{Grid}
use Rattle.layer_cursor.specs.declared.Layer.{Layer}
use Rattle.layer_cursor.specs.Cursor.{Stands}
use Rattle.npy_front.specs.Front.{header_bytes}
use Rattle.npy_front.proofs.Lengths.{header_length}
use Rattle.layer_coefficients.specs.Coefficients.{body_of}
use Rattle.layer_coefficients.specs.Steps.{SmallLayer, Fitting}
use Rattle.layer_coefficients.proofs.Layers.{small_layer}
use Rattle.npy_writing.specs.Writing.{file_length, file_of}
use Rattle.npy_writing.specs.Steps.{Writable}

-- how many bytes its file has
pub file_length_lem : {ws : List ℕ} {g : Grid} {l : ℕ} {c : Layer} → Stands g ws l c
    → 128 + c.outputs * c.inputs * (4 * (g.intervals + 3)) ≡ file_length ws g l
file_length_lem s = rw (s.outputs, s.inputs)

-- ---- the call that writes: what it asks, and what it leaves
module _ {ws : List ℕ} {g : Grid} {ps : List Float} {l : ℕ} {c : Layer} {bs : List ℕ}
    (w : Writable ws g ps l c bs) where
  -- the number of the layer is the one that it has
  pub here : Writable ws g ps c.index c bs
  here = subst (λ (i : ℕ). Writable ws g ps i c bs) (sym w.stands.index) w

  pub sizes : SmallLayer g ps c
  sizes = small_layer w.ready w.there w.stands

  pub room : length bs ≡ 128 + c.outputs * c.inputs * (4 * (g.intervals + 3))
  room = w.room ∙ sym (file_length_lem w.stands)

  pub coefficients_asked : (e : List ℕ) → length e ≡ length bs
      → Fitting ps c.at g.intervals (c.outputs * c.inputs) (take (length e - 128) (drop 128 e))
  coefficients_asked e h = record {
    grid = sizes.grid;
    small = sizes.whole;
    model = sizes.model;
    body = rw (rest_length 128 e) (omega (arith, room));
  }

  pub filled : (e y : List ℕ) → length e ≡ length bs
      → e ≡ header_bytes c.outputs c.inputs (g.intervals + 3) ++ drop 128 bs
      → y ≡ body_of ps c.at g.intervals (c.outputs * c.inputs)
      ++ drop (c.outputs * c.inputs * (4 * (g.intervals + 3))) (take (length e - 128) (drop 128 e))
      → put_mid 128 (length e - 128) e y ≡ file_of ws g ps l
  unfolding file_of
  filled e y same p q =
      let H = header_bytes c.outputs c.inputs (g.intervals + 3) in
      let long : length H ≡ 128 =
      header_length _ _ _ (omega (arith, sizes.outputs)) (omega (arith, sizes.inputs)) (omega (arith, sizes.grid)) in
      let front : take 128 e ≡ H = ap (take 128) p ∙ take_at H (drop 128 bs) 128 long in
      let n = c.outputs * c.inputs * (4 * (g.intervals + 3)) in
      let none : drop n (drop 128 e) ≡ [] =
      drop_of_length-le (drop 128 e) {i = n} (rw (length-drop 128 e) (omega (arith, room))) in
      put_rest 128 e y (omega (arith, room))
      ∙ rw (q, rest 128 e, none, append-nil, front, w.stands.outputs, w.stands.inputs, w.stands.part)
