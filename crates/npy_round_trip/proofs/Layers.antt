-- Of an accepted configuration and a layer of it: its sizes, and that it lies within the model. Assumes nothing.
use Prim.Native.Nat.{ℕ, ◌+◌, ◌-◌, ◌*◌, ◌≤◌}
use native.Mathlib.Omega.{arith}
use mathlib.Core.Path.{◌≡◌, refl}
use mathlib.Core.List.{List}
use lib.Dec.{ltb}
use lib.ListN.{length}
use lib.Ieee.{Float}
use borrow.Author.Tests.{ltb-true}
use Rattle.refusals.proofs.Firsts.{both_pass, test_passes}
use Rattle.spline.specs.declared.Grid.{Grid}
use Rattle.spline.specs.Spline.{width_of}
use Rattle.local_basis.specs.Meshes.{calm_of}
use Rattle.layers.specs.Widths.{width_at, widths_to}
use Rattle.layer_cursor.specs.declared.Layer.{Layer}
use Rattle.layer_cursor.specs.Cursor.{Stands}
use Rattle.admission.specs.Admission.{up_to8}
use Rattle.layer_coefficients.specs.Coefficients.{up_to37, layer_at, edges_of}
use Rattle.layer_coefficients.proofs.Layers.{ready, small_layer}
use Rattle.npy_round_trip.proofs.Headers.{Size}

module _ (ws : List ℕ) (g : Grid) (l : ℕ) where
  pub record Placed (ps : List Float) : Type 0 where
    pub outputs : Size (width_at ws (l + 1))
    pub inputs : Size (width_at ws l)
    pub coefficients : Size (g.intervals + 3)
    pub inside : layer_at ws g l + edges_of ws l * (g.intervals + 5) ≤ length ps

  -- the layer, as a walk over all of them would come to it
  abbrev layer : g.intervals ≤ 250000 → Layer
  layer few = record {
    index = l;
    mesh = record { grid = g; width = width_of g; calm = calm_of g; few = few; own_width = refl; own_calm = refl };
    at = layer_at ws g l;
    node = widths_to ws l;
    inputs = width_at ws l;
    outputs = width_at ws (l + 1);
  }

  pub placed : (ps : List Float) → up_to37 ws g (length ps) l ≡ 0 → Placed ps
  unfolding up_to37
  placed ps e =
      let both = both_pass (up_to8 ws g (length ps)) _ e in
      let there = ltb-true l (length ws - 1) (test_passes (ltb l (length ws - 1)) 36 both.1) in
      let r = ready ws g ps both.0 in
      let stands : Stands g ws l (layer r.walk.grid) =
      record { index = refl; mesh = refl; part = refl; nodes = refl; inputs = refl; outputs = refl } in
      let z = small_layer r there stands in
      record {
        outputs = record { some = r.walk.positive (l + 1) (omega arith); few = omega (arith, z.outputs) };
        inputs = record { some = r.walk.positive l (omega arith); few = omega (arith, z.inputs) };
        coefficients = record { some = omega arith; few = omega (arith, z.grid) };
        inside = z.model;
      }
