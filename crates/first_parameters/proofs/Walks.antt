-- A walk over the layers of a model that fills each: where it stands, and one layer more. Assumes nothing.
use mathlib.Core.Path.{◌≡◌, refl, sym, ◌∙◌}
use mathlib.Core.List.{List}
use Prim.Native.Nat.{ℕ, ◌+◌, ◌-◌, ◌*◌, ◌≤◌, ◌<◌}
use native.Mathlib.Nat.{le_trans, le_of_eq}
use native.Mathlib.Omega.{arith}
use lib.ListN.{length, take, drop}
use lib.Ieee.{Float}
use borrow.Rule.Slice.PartMut.{put_mid}
use Rattle.generator.specs.declared.SplitMix64.{SplitMix64}
use Rattle.generator.specs.Generator.{seeded_of}
use Rattle.spline.specs.declared.Grid.{Grid}
use Rattle.layers.specs.Widths.{width_at, params_to}
use Rattle.layer_cursor.specs.declared.Layer.{Layer}
use Rattle.layer_cursor.specs.Cursor.{Stands}
use Rattle.layer_cursor.proofs.Cursors.{inside}
use Rattle.first_parameters.specs.Initial.{layer_initial, model_initial}
use Rattle.first_parameters.specs.Filled.{Filled, Whole}
use Rattle.first_parameters.proofs.Parts.{Done, none_done, one_done, layer_plan, layers_sound, model_filled}

-- at layer l, from the model d and the generator G: the layers before it are filled, which left e and H
pub record Walked (g : Grid) (ws : List ℕ) (G : SplitMix64) (d : List Float) (l : ℕ) (c : Layer) (e : List Float)
    (H : SplitMix64) : Type 0 where
  pub bound : l ≤ length ws - 1
  pub stands : Stands g ws l c
  pub size : length e ≡ length d
  pub done : Done (layer_plan g.intervals ws) G d l e H

-- a call that was lent the model from `at` on, where layer l of w inputs and n outputs begins, left y there
layer_more : (g l w n at : ℕ) (ws : List ℕ) (G H r : SplitMix64) (d e y : List Float) → w ≡ width_at ws l
    → n ≡ width_at ws (l + 1) → at ≡ params_to (g + 5) ws l → at ≤ length e → Done (layer_plan g ws) G d l e H
    → Filled (layer_initial g w n H) (n * (w * (g + 5))) (n * w * (g + 4)) H (take (length e - at) (drop at e)) y r
    → Done (layer_plan g ws) G d (l + 1) (put_mid at (length e - at) e y) r
layer_more g l w n at ws G H r d e y p q s h k f =
    one_done (layer_plan g ws) (layers_sound g ws) G d l at e y H r s h k (rw (p, q) at f)

module _ {g : Grid} {ws : List ℕ} {G : SplitMix64} {d : List Float} where
  -- from a cursor that stands at layer l the walk goes on to the layer behind it
  pub next_here : {l : ℕ} {c b : Layer} {e : List Float} {H : SplitMix64} → Walked g ws G d l c e H
      → Stands g ws (c.index + 1) b → Stands g ws (l + 1) b
  next_here k s = rw k.stands.index at s

  pub set_out : {c : Layer} → Stands g ws 0 c → Walked g ws G d 0 c d G
  set_out s = record {
    bound = omega arith;
    stands = s;
    size = refl;
    done = none_done (layer_plan g.intervals ws) (layers_sound g.intervals ws) G d;
  }

  -- the layer's part lies in the model
  pub part_in : {l : ℕ} {c : Layer} {e : List Float} {H : SplitMix64} → Whole g ws d → l < length ws - 1
      → Walked g ws G d l c e H → c.at + c.outputs * (c.inputs * (g.intervals + 5)) ≤ length e
  part_in {l} {c} f h k = le_trans (inside g ws l c h k.stands) (le_of_eq (f.params ∙ sym k.size))

  pub one_layer : {l : ℕ} {b c : Layer} {e y : List Float} {H r : SplitMix64} → Whole g ws d → l < length ws - 1
      → Walked g ws G d l b e H
      → Filled (layer_initial g.intervals b.inputs b.outputs H) (b.outputs * (b.inputs * (g.intervals + 5)))
      (b.outputs * b.inputs * (g.intervals + 4)) H (take (length e - b.at) (drop b.at e)) y r
      → length (put_mid b.at (length e - b.at) e y) ≡ length e → Stands g ws (l + 1) c
      → Walked g ws G d (l + 1) c (put_mid b.at (length e - b.at) e y) r
  one_layer {l} {b} {c} {e} {y} {H} {r} f h k w z s = record {
    bound = omega (arith, h);
    stands = s;
    size = z ∙ k.size;
    done = layer_more g.intervals l b.inputs b.outputs b.at ws G H r d e y k.stands.inputs
        k.stands.outputs k.stands.part (omega (arith, part_in f h k)) k.done w;
  }

  pub arrived : {l : ℕ} {c : Layer} {e : List Float} {H : SplitMix64} (seed : ℕ) → Whole g ws d → l ≡ length ws - 1
      → G ≡ seeded_of seed → Walked g ws G d l c e H → e ≡ model_initial ws g.intervals seed
  arrived {l} {c} {e} {H} seed f p q k = model_filled g.intervals seed l ws G H d e p q f.params k.done
