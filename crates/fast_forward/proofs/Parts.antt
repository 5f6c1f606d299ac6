-- The outputs as a part of the slice that holds the inputs too, which is cut between the two. Assumes nothing.
use mathlib.Core.Path.{◌≡◌, sym, ap, ◌∙◌}
use Prim.Native.Nat.{ℕ, ◌+◌, ◌-◌, ◌≤◌}
use native.Mathlib.Omega.{arith}
use mathlib.Core.List.{List, ◌++◌}
use lib.ListN.{length, take, drop}
use lib.Seq.{drop-drop}
use lib.Ieee.{Float}
use Rattle.std.proofs.lemmas.List.{drop-take, take-take}
use Rattle.floats.proofs.Loops.{tab_length}
use Rattle.floats.specs.Places.{part_at, written_at}
use Rattle.floats.proofs.Places.{part_is}
use Rattle.layers.specs.Basis.{Basis}
use Rattle.layers.specs.Layer.{layer_of}

-- the part lies before the cut
part_before : (W : List Float) (from w to : ℕ) → from + w ≤ to → part_at (take to W) from w ≡ part_at W from w
part_before W from w to h =
    let m = to - from in
    let e : from + m ≡ to = omega arith in
    ap (λ (k : ℕ). take w (drop from (take k W))) (sym e) ∙ ap (take w) (drop-take from m W)
    ∙ take-take w m (drop from W) (omega arith)

-- as the code's `&l[from..end]` has it
pub piece_before : (W l : List Float) (from w to : ℕ) → l ≡ take to W → from + w ≤ to
    → take (from + w - from) (drop from l) ≡ part_at W from w
piece_before W l from w to p h =
    part_is l from w ∙ ap (λ (z : List Float). part_at z from w) p ∙ part_before W from w to h

layer_length : (B : Basis) (ps xs : List Float) (n : ℕ) → length (layer_of B ps xs n) ≡ n
unfolding layer_of
layer_length B ps xs n = tab_length _ n

-- the inputs stand in l, before the cut, and the layer was written to the front of r, behind it
pub layer_written : (B : Basis) (ps W l r r' : List Float) (from w to n : ℕ) → l ≡ take to W → r ≡ drop to W → from + w ≤ to
    → r' ≡ layer_of B ps (take (from + w - from) (drop from l)) n ++ drop n r
    → l ++ r' ≡ written_at W to (layer_of B ps (part_at W from w) n)
unfolding written_at
layer_written B ps W l r r' from w to n p q h e =
    rw (e, piece_before W l from w to p h, p, q, drop-drop n to W, layer_length B ps (part_at W from w) n)
