-- What the steps of marking a row ask and promise; no part of the meaning. Definitions only.
use Rattle.std.specs.Prelude.{ℕ, ◌+◌, ◌*◌, ◌≤◌, ◌<◌, ◌≡◌, Ok, List, length, Float}
use Rattle.refusals.specs.Refusals.{Outcome}
use Rattle.spline.specs.declared.Grid.{Grid}
use Rattle.local_basis.specs.Fours.{Finite}
use Rattle.layers.specs.Net.{Net}
use Rattle.layers.specs.Widths.{parameters_in}
use Rattle.passes.specs.Turns.{Fits, Layered, Ran}
use Rattle.touched_layer.specs.Marks.{marked_by}
use Rattle.touched_row.specs.Touched.{row_touched}

-- a layer's bytes are there, and the numbers that it reads in either slice
pub record Held (g : Grid) (w n : ℕ) (a b : List Float) (ms : List ℕ) : Type 0 where
  pub some : 0 < n
  pub first : w ≤ length a
  pub second : w ≤ length b
  pub bytes : n * (w * (g.intervals + 5)) ≤ length ms

-- a row's bytes are there, and all that its way through the layers asks for
pub record Markable (g : Grid) (ps : List Float) (ws : List ℕ) (a b : List Float) (ms : List ℕ) : Type 0 where
  pub fits : Fits g ps ws a b
  pub finite : Finite (length ps) ps
  pub bytes : parameters_in (g.intervals + 5) ws ≤ length ms

-- all layers as a row's pass leaves them; where each value is finite, the bytes of the row are marked
pub record LayersMarked (N : Net) (ps : List Float) (ws : List ℕ) (xs a b : List Float) (ms : List ℕ) (r : Outcome)
    (a' b' : List Float) (ms' : List ℕ) : Type 0 where
  pub layered : Layered N ps ws xs a b a' b' r
  pub bytes : r ≡ Ok tt → ms' ≡ marked_by (row_touched N ps ws xs) ms

-- a whole row
pub record RowMarked (N : Net) (ps : List Float) (ws : List ℕ) (xs a b : List Float) (ms : List ℕ) (r : Outcome)
    (a' b' : List Float) (ms' : List ℕ) : Type 0 where
  pub ran : Ran N ps ws xs a b a' b' r
  pub bytes : r ≡ Ok tt → ms' ≡ marked_by (row_touched N ps ws xs) ms
