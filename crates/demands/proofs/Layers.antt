-- Two edges that differ only in coefficients that are silent at x, and two layers of such edges: the same values, and the same
-- gradients. `dot_same` is the one law used of them. Assumes nothing.
use Prim.Native.Nat.{ℕ, zero, suc, ◌+◌, ◌*◌, ◌<◌}
use native.Mathlib.Nat.{mul_assoc, add-mul}
use mathlib.Core.Path.{◌≡◌, refl, sym, ap, ◌∙◌}
use mathlib.Core.List.{List}
use lib.ListN.{length, drop}
use lib.Seq.{drop-drop}
use lib.Ieee.{Float}
use Rattle.floats.specs.Binary32.{◌⊗◌, zero32}
use Rattle.floats.specs.Sums.{at}
use Rattle.floats.proofs.Sums.{Plain, Swap, dot_same, sum_ext}
use Rattle.floats.proofs.Loops.{tab_ext}
use Rattle.layers.specs.Basis.{Basis}
use Rattle.layers.specs.Layer.{dot_of, edge_with, edge_of, node_of, layer_of}
use Rattle.gradients.specs.Gradient.{slot_of, back_of, input_gradient, back_layer, edge_slots, node_slots, layer_slots}
use Rattle.gradients.proofs.Adding.{flat_ext}

-- the weights are the same, and each coefficient is, or its value and slope at x are zero and both are finite
pub record EdgeAlike (B : Basis) (x : Float) (es fs : List Float) : Type 0 where
  pub base : at es 0 ≡ at fs 0
  pub weight : at es 1 ≡ at fs 1
  pub values : (k : ℕ) → k < B.coefficients → Swap (B.value k x) (at (drop 2 es) k) (at (drop 2 fs) k)
  pub slopes : (k : ℕ) → k < B.coefficients → Swap (B.slope k x) (at (drop 2 es) k) (at (drop 2 fs) k)

-- every edge of a layer of n outputs that reads xs
abbrev pub LayerAlike : Basis → List Float → ℕ → List Float → List Float → Type 0
LayerAlike B xs n ps qs =
    (o i : ℕ) → o < n → i < length xs
    → EdgeAlike B (at xs i) (drop (i * B.stride) (drop (o * (length xs * B.stride)) ps))
    (drop (i * B.stride) (drop (o * (length xs * B.stride)) qs))

-- an edge's place among all edges of its layer, and behind those of its output
edge_place : (o w i s : ℕ) (ps : List Float) → drop ((o * w + i) * s) ps ≡ drop (i * s) (drop (o * (w * s)) ps)
edge_place o w i s ps =
    ap (λ (n : ℕ). drop n ps) (add-mul (o * w) i s ∙ ap (λ (n : ℕ). n + i * s) (mul_assoc o w s)) ∙ sym (drop-drop (i * s) (o * (w * s)) ps)

module _ (B : Basis) (begins : Plain B.start) where
  -- ---- one edge
  dots_same : (f : ℕ → Float → Float) (cs ds : List Float) (x : Float) → ((k : ℕ) → k < B.coefficients → Swap (f k x) (at cs k) (at ds k))
      → dot_of B f cs x ≡ dot_of B f ds x
  unfolding dot_of
  dots_same f cs ds x h = dot_same B.start (at cs) (at ds) (λ k. f k x) B.coefficients begins h

  module _ (x : Float) (es fs : List Float) (alike : EdgeAlike B x es fs) where
    curves_same : dot_of B B.value (drop 2 es) x ≡ dot_of B B.value (drop 2 fs) x
    curves_same = dots_same B.value (drop 2 es) (drop 2 fs) x alike.values

    edge_same : edge_of B es x ≡ edge_of B fs x
    unfolding edge_of edge_with
    edge_same = rw (alike.base, alike.weight, curves_same)

    slot_same : (up : Float) (s : ℕ) → slot_of B es x up s ≡ slot_of B fs x up s
    unfolding slot_of
    slot_same up zero = refl
    slot_same up (suc zero) = ap (λ (c : Float). up ⊗ c) curves_same
    slot_same up (suc (suc k)) = ap (λ (w : Float). up ⊗ w ⊗ B.value k x) alike.weight

    back_same : (up : Float) → back_of B es x up ≡ back_of B fs x up
    unfolding back_of
    back_same up = rw (alike.base, alike.weight, dots_same B.slope (drop 2 es) (drop 2 fs) x alike.slopes)

  -- ---- one layer
  pub layer_same : (ps qs xs : List Float) (n : ℕ) → LayerAlike B xs n ps qs → layer_of B ps xs n ≡ layer_of B qs xs n
  unfolding layer_of node_of
  layer_same ps qs xs n h =
      tab_ext _ _ n (λ o ol. sum_ext zero32 _ _ (length xs) (λ i il. edge_same (at xs i) _ _ (h o i ol il)))

  pub slots_same : (ps qs xs ups : List Float) → LayerAlike B xs (length ups) ps qs → layer_slots B ps xs ups ≡ layer_slots B qs xs ups
  unfolding layer_slots
  slots_same ps qs xs ups h =
      flat_ext (node_slots B ps xs ups) (node_slots B qs xs ups) (length ups) (λ o ol.
      flat_ext (edge_slots B (drop (o * (length xs * B.stride)) ps) xs (at ups o))
      (edge_slots B (drop (o * (length xs * B.stride)) qs) xs (at ups o)) (length xs) (λ i il.
      tab_ext _ _ B.stride (λ s sl. slot_same (at xs i) _ _ (h o i ol il) (at ups o) s)))

  pub backs_same : (ps qs xs ups : List Float) → LayerAlike B xs (length ups) ps qs → back_layer B ps xs ups ≡ back_layer B qs xs ups
  unfolding back_layer
  backs_same ps qs xs ups h =
      tab_ext (input_gradient B ps xs ups) (input_gradient B qs xs ups) (length xs) (λ i il.
      sum_ext zero32 _ _ (length ups) (λ o ol.
      ap (λ (e : List Float). back_of B e (at xs i) (at ups o)) (edge_place o (length xs) i B.stride ps)
      ∙ back_same (at xs i) _ _ (h o i ol il) (at ups o)
      ∙ ap (λ (e : List Float). back_of B e (at xs i) (at ups o)) (sym (edge_place o (length xs) i B.stride qs))))
