-- A layer with the input outermost, by four values: what its steps promise and ask. No part of the meaning.
-- Definitions only.
use Rattle.std.specs.Prelude.{ℕ, ◌+◌, ◌*◌, ◌≤◌, ◌<◌, List, ◌++◌, length, drop, Float}
use Rattle.floats.specs.Binary32.{◌⊕◌, ◌⊗◌}
use Rattle.floats.specs.Sums.{tabulate, at}
use Rattle.spline.specs.declared.Grid.{Grid}
use Rattle.local_basis.specs.declared.Four.{Four}
use Rattle.local_basis.specs.Fours.{four_dot, Finite}
use Rattle.layers.specs.Basis.{Basis}
use Rattle.layers.specs.Layer.{edge_of}

-- an edge from its input's SiLU and four values
abbrev pub edge_four : List Float → Float → Four → Float
edge_four ps s r = (at ps 0 ⊗ s) ⊕ (at ps 1 ⊗ four_dot ps (r.start + 2) r)

-- the first n outputs with x, the j-th of w inputs, added
abbrev pub with_input : Basis → List Float → ℕ → ℕ → Float → List Float → ℕ → Float
with_input B ps w j x ys o = at ys o ⊕ edge_of B (drop (j * B.stride) (drop (o * (w * B.stride)) ps)) x

unfoldable pub added_input : Basis → List Float → ℕ → ℕ → Float → List Float → ℕ → List Float
added_input B ps w j x ys n = tabulate (with_input B ps w j x ys) n ++ drop n ys

-- ---- what the steps ask
-- the list begins with the finite parameters of n outputs of w inputs each
pub record Parameters (g : Grid) (ps : List Float) (w n : ℕ) : Type 0 where
  pub some : 0 < n
  pub there : n * (w * (g.intervals + 5)) ≤ length ps
  pub finite : Finite (n * (w * (g.intervals + 5))) ps

-- the edges of the j-th input
pub record Edges (g : Grid) (ps : List Float) (w j n : ℕ) : Type 0 where
  pub layer : Parameters g ps w n
  pub input : j < w

-- a layer from xs to the first n of ys
pub record Room (g : Grid) (ps xs ys : List Float) (n : ℕ) : Type 0 where
  pub layer : Parameters g ps (length xs) n
  pub outputs : n ≤ length ys

-- a layer within one slice: w numbers at `from`, before those from `to` up to `end`
pub record Within (g : Grid) (ps W : List Float) (from w to n end : ℕ) : Type 0 where
  pub layer : Parameters g ps w n
  pub before : from + w ≤ to
  pub room : end ≤ length W
