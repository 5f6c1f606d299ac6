-- The gradients at a layer's inputs, written between the inputs and the gradients from above in a slice that is cut
-- twice. Assumes nothing.
use mathlib.Core.Path.{◌≡◌, sym, ap, ◌∙◌}
use Prim.Native.Nat.{ℕ, ◌+◌, ◌-◌, ◌≤◌}
use native.Mathlib.Omega.{arith}
use mathlib.Core.List.{List, ◌++◌}
use lib.ListN.{length, take, drop}
use lib.Seq.{drop-drop}
use lib.Ieee.{Float}
use Rattle.floats.specs.Sums.{tabulate}
use Rattle.floats.specs.Places.{part_at, written_at}
use Rattle.floats.proofs.Loops.{tab_length, tab_whole}
use Rattle.floats.proofs.Places.{part_length}
use Rattle.fast_forward.proofs.Parts.{piece_before}
use Rattle.layers.specs.Basis.{Basis}
use Rattle.gradients.specs.Gradient.{input_gradient, back_layer}

-- the inputs stand in l, before the cut at `to`; behind it, d was filled to e; after it, r begins with the gradients
-- from above
pub back_written : (B : Basis) (ps W l rest d e r : List Float) (from w to n i : ℕ) → l ≡ take to W → rest ≡ drop to W → r ≡ drop w rest
    → length d ≡ w → i ≡ w → from + w ≤ to → to + w + n ≤ length W
    → e ≡ tabulate (input_gradient B ps (take (from + w - from) (drop from l)) (take n r)) i ++ drop i d
    → l ++ (e ++ r) ≡ written_at W to (back_layer B ps (part_at W from w) (part_at W (to + w) n))
unfolding written_at back_layer
back_written B ps W l rest d e r from w to n i p q q' s m h k g =
    let f = input_gradient B ps (part_at W from w) (part_at W (to + w) n) in
    let behind : r ≡ drop (to + w) W = q' ∙ ap (drop w) q ∙ drop-drop w to W in
    let above : take n r ≡ part_at W (to + w) n = ap (take n) behind in
    let whole : e ≡ tabulate f w =
    tab_whole _ i d e g (m ∙ sym s) ∙ rw (piece_before W l from w to p h, above, s) in
    let wide : length (part_at W from w) ≡ w = part_length W from w (omega arith) in
    rw (whole, behind, p, wide, tab_length f w)
