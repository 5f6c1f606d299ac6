-- R17.7: the call that shows where `dot` starts, from both starts, computed in stages. Assumes nothing.
use Prim.Native.Nat.{ℕ}
use mathlib.Core.Path.{◌≡◌, refl, sym, ap, ◌∙◌}
use mathlib.Core.Bool.{true}
use mathlib.Core.List.{List, [], ◌∷◌}
use lib.Ieee.{Float, of_bits, round, add, sub, mul, div, neg, sum, eq, lt, le, of_int}
use Rattle.floats.specs.Binary32.{◌⊕◌, ◌⊖◌, ◌⊗◌, zero32, one32, minus_zero32}
use Rattle.floats.specs.Sums.{at, zeros, sum_from, tabulate, all_to, all_finite, flat_to}
use Rattle.refusals.specs.Refusals.{first_to}
use Rattle.refusals.proofs.Firsts.{both_pass}
use Rattle.exponential.specs.Exponential.{exp_of}
use Rattle.spline.specs.Spline.{width_of, knot_of, portion_of, indicator_of, blend_of, cox_of, outside_of, value_of}
use Rattle.spline.specs.Activation.{silu_of}
use Rattle.layers.specs.Net.{Net, basis_at, net_of}
use Rattle.layers.specs.Widths.{params_to, widest_to, widths_to}
use Rattle.layers.specs.Layer.{dot_of, edge_with, edge_of, node_of, layer_of}
use Rattle.batches.specs.Batch.{rows_in, row_fault, rows_fault, batch_fault}
use Rattle.passes.specs.Pass.{nodes_of, nodes_finite, from11_to18, finite_row}
use Rattle.config.specs.Config.{unit_grid, config_fault, shape_sound, products_fit, intervals_sound}
use Rattle.config.specs.Config.{ends_sound, steps_sound, domain_sound}
use Rattle.admission.specs.Admission.{up_to8, up_to9_for_nodes}
use Rattle.gradients.specs.Gradient.{slot_of, layer_slots}
use Rattle.row_gradients.specs.Backward.{ups_of, row_gradient}
use Rattle.batch_gradients.specs.Accumulate.{scale_of, gathered}
use Rattle.demands.specs.Start.{from_minus_zero}
use Rattle.examples.specs.Starred.{bits, one_to_one, weighted}
use Rattle.split_training.specs.Accumulating.{total_fault, from11_to28, up_to28, accumulate_fault}
use Rattle.split_demands.specs.Start.{Shown, StartShown}

-- Z of R16.3 with -0.0 for every coefficient, and the lent gradients
abbrev model : List Float
model = weighted (tabulate (λ (k : ℕ). minus_zero32) 5)

abbrev lent : List Float
lent = tabulate (λ (k : ℕ). minus_zero32) 7

-- what the row adds, and what it leaves, where `slot` is the spline weight's
abbrev row_adds : Float → List Float
row_adds slot = minus_zero32 ∷ slot ∷ minus_zero32 ∷ bits 0xbeaa_aaab ∷ bits 0xbfaa_aaab ∷ bits 0xbeaa_aaab ∷ minus_zero32 ∷ []

-- the call on the network N: the output, the gradient there, what the row adds, and the slice left
record Walk (N : Net) (slot : Float) : Type 0 where
  output : layer_of (basis_at N 0) model (zero32 ∷ []) 1 ≡ zero32 ∷ []
  error : scale_of 1 ⊗ (zero32 ⊖ one32) ≡ bits 0xc000_0000
  slots : layer_slots (basis_at N 0) model (zero32 ∷ []) (bits 0xc000_0000 ∷ []) ≡ row_adds slot
  added : tabulate (λ (p : ℕ). at lent p ⊕ at (row_adds slot) p) 7 ≡ row_adds slot

module _ {N : Net} {slot : Float} (w : Walk N slot) where
  nodes : nodes_of N model one_to_one (zero32 ∷ []) 1 ≡ zero32 ∷ []
  unfolding nodes_of params_to
  nodes = w.output

  ups : ups_of N model one_to_one (zero32 ∷ []) (one32 ∷ []) (scale_of 1) 1 0 ≡ bits 0xc000_0000 ∷ []
  unfolding ups_of tabulate
  ups = ap (λ (n : List Float). (scale_of 1 ⊗ (at n 0 ⊖ one32)) ∷ []) nodes ∙ ap (λ (x : Float). x ∷ []) w.error

  row : row_gradient N model one_to_one (zero32 ∷ []) (one32 ∷ []) (scale_of 1) ≡ row_adds slot
  unfolding row_gradient flat_to params_to nodes_of
  row = ap (λ (us : List Float). layer_slots (basis_at N 0) model (zero32 ∷ []) us) ups ∙ w.slots

  left : gathered N model one_to_one (zero32 ∷ []) (one32 ∷ []) 1 (scale_of 1) lent 1 ≡ row_adds slot
  unfolding gathered sum_from tabulate
  left = ap (λ (ds : List Float). tabulate (λ (p : ℕ). at lent p ⊕ at ds p) 7) row ∙ w.added

  passes : all_to (finite_row N model one_to_one (zero32 ∷ [])) 1 ≡ true
  unfolding nodes_finite all_to all_finite of_bits
  passes = rw nodes

-- ---- the checks, which do not look at the network
checked : (N : Net) → up_to28 N one_to_one (unit_grid 2) model (zero32 ∷ []) (one32 ∷ []) 1 lent (zeros 4) ≡ 0
unfolding of_bits round add sub mul div neg sum eq lt le of_int tabulate all_to all_finite width_of knot_of params_to widest_to widths_to
    rows_in row_fault first_to rows_fault batch_fault config_fault shape_sound products_fit intervals_sound ends_sound steps_sound
    domain_sound up_to8 up_to9_for_nodes from11_to18 total_fault from11_to28 up_to28
checked N = refl

shown : {N : Net} {slot : Float} → Walk N slot → Shown N slot
unfolding accumulate_fault rows_in up_to28 params_to widths_to tabulate
shown {N} {slot} w =
    let to28 = checked N in
    let to9 = (both_pass (up_to9_for_nodes one_to_one (unit_grid 2) 7 4) _ to28).0 in
    record {
      answer = rw (to28, passes w);
      gradients = rw (to28, passes w) (sym (left w));
      work = rw to9;
    }

-- ---- from both starts
walks : Walk (net_of (unit_grid 2)) minus_zero32 × Walk (from_minus_zero (unit_grid 2)) zero32
unfolding of_bits round add sub mul div neg sum eq lt le of_int sum_from tabulate flat_to exp_of width_of knot_of portion_of indicator_of
    blend_of cox_of outside_of value_of silu_of dot_of edge_with edge_of node_of layer_of slot_of layer_slots
walks = (
  record { output = refl; error = refl; slots = refl; added = refl },
  record { output = refl; error = refl; slots = refl; added = refl },
)

pub start_shown : StartShown
start_shown = record { here = shown walks.0; from_minus_zero = shown walks.1 }
