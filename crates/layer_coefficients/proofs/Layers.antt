-- A layer of an accepted configuration: none of its numbers is large, and it lies within the model. Assumes nothing.
use Rattle.std.specs.Prelude.{Ok}
use Prim.Native.Nat.{ℕ, ◌+◌, ◌-◌, ◌*◌, ◌≤◌, ◌<◌}
use native.Mathlib.Nat.{le_trans, le_of_eq, mul_assoc, mul-pos}
use native.Mathlib.Omega.{arith}
use mathlib.Core.Path.{◌≡◌, sym}
use mathlib.Core.List.{List}
use lib.ListN.{length}
use lib.Ieee.{Float}
use Rattle.spline.specs.declared.Grid.{Grid}
use Rattle.layers.specs.Widths.{width_at}
use Rattle.layer_cursor.specs.declared.Layer.{Layer}
use Rattle.layer_cursor.specs.Cursor.{Stands}
use Rattle.layer_cursor.proofs.Cursors.{inside, widths_room}
use Rattle.config.specs.declared.Sizes.{Sizes}
use Rattle.config.specs.Config.{sizes_of, checked_of}
use Rattle.config.proofs.Answers.{accepted}
use Rattle.admission.specs.Admission.{up_to8}
use Rattle.admission.proofs.Passed.{past8}
use Rattle.layer_coefficients.specs.Steps.{Ready, SmallLayer}

-- ---- past the checks up to 8
pub passed : (ws : List ℕ) (g : Grid) (model : ℕ) (s : Sizes) → checked_of (up_to8 ws g model) (sizes_of ws g) ≡ Ok s
    → up_to8 ws g model ≡ 0
passed ws g model s e = (accepted (up_to8 ws g model) (sizes_of ws g) s e).passed

pub ready : (ws : List ℕ) (g : Grid) (ps : List Float) → up_to8 ws g (length ps) ≡ 0 → Ready ws g ps
ready ws g ps e =
    let p = past8 ws g (length ps) e in
    let z = p.size in
    record {
      walk = record { grid = z.grid; some = z.some; positive = z.positive; small = z.small; narrow = z.few_nodes };
      whole = p.model;
    }

-- a width is at most the sum of all
width_small : {ws : List ℕ} {g : Grid} {ps : List Float} (j : ℕ) → Ready ws g ps → j < length ws → width_at ws j ≤ 250000
width_small {ws} j r h = omega (arith, widths_room ws j (length ws) h, r.walk.narrow)

module _ {ws : List ℕ} {g : Grid} {ps : List Float} {l : ℕ} {c : Layer} where
  pub small_layer : Ready ws g ps → l < length ws - 1 → Stands g ws l c → SmallLayer g ps c
  small_layer r h s =
      let out = width_small (l + 1) r (omega arith) in
      let in-width = width_small l r (omega arith) in
      let end : c.at + c.outputs * (c.inputs * (g.intervals + 5)) ≤ length ps =
      le_trans (inside g ws l c h s) (le_of_eq (sym r.whole)) in
      let all : length ps ≤ 250000 = le_trans (le_of_eq r.whole) r.walk.small in
      let same = mul_assoc c.outputs c.inputs (g.intervals + 5) in
      let n = c.outputs * c.inputs in
      let part : c.at + n * (g.intervals + 5) ≤ length ps = omega (arith, end, same) in
      let rows : 0 < c.outputs = rw s.outputs (r.walk.positive (l + 1) (omega arith)) in
      let columns : 0 < c.inputs = rw s.inputs (r.walk.positive l (omega arith)) in
      record {
        outputs = rw s.outputs out;
        inputs = rw s.inputs in-width;
        grid = r.walk.grid;
        some = mul-pos rows columns;
        whole = all;
        model = part;
        edges = omega (arith, part, all);
        words = omega (arith, part, all);
      }
