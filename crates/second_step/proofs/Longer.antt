-- Why R17.4 stops at one step: each step computed in stages, since the definitions work a node out anew for every parameter
-- that it moves; the rest from what the stages leave, from R17.4 and from demand 3. Assumes nothing.
use Rattle.std.specs.Prelude.{Ok}
use Prim.Native.Nat.{ℕ, ◌<◌}
use native.Mathlib.Omega.{arith}
use mathlib.Core.Path.{◌≡◌, refl, sym, ap, ◌∙◌, subst}
use mathlib.Core.Bool.{true, false, true≢false}
use mathlib.Core.List.{List, [], ◌∷◌, ◌++◌}
use lib.Dec.{T}
use lib.Seq.{get_or-set_other}
use lib.ListN.{length, drop, get_or-eq_default}
use lib.Ieee.{Float, nan, binary32, fits, of_bits, round, add, sub, mul, div, neg, sum, eq, ne, lt, le, of_int}
use Rattle.floats.specs.Binary32.{◌⊕◌, ◌⊖◌, ◌⊗◌, zero32, one32}
use Rattle.floats.specs.Sums.{at, zeros, sum_from, tabulate, all_to, all_finite, flat_to}
use Rattle.floats.proofs.Loops.{all_each}
use Rattle.refusals.specs.Refusals.{first_to, done_to}
use Rattle.refusals.proofs.Firsts.{both_pass, first_more, done_all}
use Rattle.exponential.specs.Exponential.{exp_of}
use Rattle.spline.specs.Spline.{width_of, knot_of, portion_of, indicator_of, blend_of, cox_of, outside_of, value_of, rise_of, slope_of}
use Rattle.spline.specs.Activation.{silu_of, silu_derivative_of}
use Rattle.layers.specs.Basis.{Basis}
use Rattle.layers.specs.Net.{basis_of}
use Rattle.layers.specs.Widths.{params_to, widest_to, widths_to}
use Rattle.layers.specs.Layer.{dot_of, edge_with, edge_of, node_of, layer_of}
use Rattle.batches.specs.Batch.{rows_in, row_fault, rows_fault, batch_fault}
use Rattle.passes.specs.Pass.{nodes_of, nodes_finite, row_refusal, from11_to18}
use Rattle.config.specs.Config.{unit_grid, config_fault, shape_sound, products_fit, intervals_sound, ends_sound, steps_sound, domain_sound}
use Rattle.admission.specs.Admission.{up_to8, up_to9, up_to9_for_nodes, up_to9_in_training}
use Rattle.touched_layer.specs.Touched.{blank, touches_by, touches, edge_touched, node_touched, layer_touched}
use Rattle.touched_row.specs.Touched.{row_touched}
use Rattle.visit_map.specs.Visits.{any_to, marks_of, map_up_to11, visit_refusal, visit_carried, visit_marks, Visited}
use Rattle.gradients.specs.Gradient.{slot_of, back_of, back_layer, layer_slots}
use Rattle.row_gradients.specs.Backward.{ups_of, row_gradient}
use Rattle.batch_gradients.specs.Accumulate.{scale_of, gathered}
use Rattle.update.specs.Update.{rate_sound, moved_of}
use Rattle.training_step.specs.Step.{gradient_of, step_fault, stepped}
use Rattle.training.specs.Train.{from11_to19, model_after, fault_at, up_to19, train_fault, train_done}
use Rattle.demands.specs.Silent.{Differ}
use Rattle.demands.specs.Unmarked.{unmarked}
use Rattle.demands.proofs.Cells.{by_length}
use Rattle.demands.proofs.Marked.{unmarked_byte}
use Rattle.demands.proofs.Unmarked.{map_shows}
use Rattle.demands.proofs.Demand.{demand_3}
use Rattle.examples.specs.Starred.{bits}
use Rattle.second_step.specs.Longer.{deep, deep_net, ending, rate, Trains, marked, after_one, first_after_two, second_after_two}
use Rattle.second_step.specs.Longer.{SilentFor, AlikeAfter, Longer}

-- ---- one step on any model, in stages
abbrev B : Basis
B = basis_of (unit_grid 2)

-- what the one row adds to each gradient, from the hidden value h and the gradients at the output, u, and at the hidden node, v
abbrev slots_by : List Float → Float → Float → Float → List Float
slots_by ps h u v = layer_slots B ps (zero32 ∷ []) (v ∷ []) ++ layer_slots B (drop 7 ps) (h ∷ []) (u ∷ [])

abbrev moved_by : List Float → List Float → List Float
moved_by ps slots = moved_of ps (tabulate (λ (p : ℕ). at (zeros (length ps)) p ⊕ at slots p) (length (zeros (length ps)))) rate

-- the step on the model ps: the hidden value, the output, the gradients at both, the model left, and that all is finite
record Walk (ps : List Float) (h o u v : Float) (left : List Float) : Type 0 where
  hidden : layer_of B ps (zero32 ∷ []) 1 ≡ h ∷ []
  output : layer_of B (drop 7 ps) (h ∷ []) 1 ≡ o ∷ []
  error : scale_of 1 ⊗ (o ⊖ one32) ≡ u
  back : back_layer B (drop 7 ps) (h ∷ []) (u ∷ []) ≡ v ∷ []
  moved : moved_by ps (slots_by ps h u v) ≡ left
  finite : (all_finite (h ∷ []) ≡ true) × (all_finite (o ∷ []) ≡ true) × (all_finite left ≡ true)

module _ {ps : List Float} {h o u v : Float} {left : List Float} (w : Walk ps h o u v left) where
  nodes_1 : nodes_of deep_net ps deep (zero32 ∷ []) 1 ≡ h ∷ []
  unfolding nodes_of params_to
  nodes_1 = w.hidden

  nodes_2 : nodes_of deep_net ps deep (zero32 ∷ []) 2 ≡ o ∷ []
  unfolding nodes_of params_to
  nodes_2 = ap (λ (n : List Float). layer_of B (drop 7 ps) n 1) nodes_1 ∙ w.output

  ups_2 : ups_of deep_net ps deep (zero32 ∷ []) (one32 ∷ []) (scale_of 1) 2 0 ≡ u ∷ []
  unfolding ups_of tabulate
  ups_2 = ap (λ (n : List Float). (scale_of 1 ⊗ (at n 0 ⊖ one32)) ∷ []) nodes_2 ∙ ap (λ (x : Float). x ∷ []) w.error

  ups_1 : ups_of deep_net ps deep (zero32 ∷ []) (one32 ∷ []) (scale_of 1) 1 1 ≡ v ∷ []
  unfolding ups_of params_to
  ups_1 = rw (nodes_1, ups_2) w.back

  row : row_gradient deep_net ps deep (zero32 ∷ []) (one32 ∷ []) (scale_of 1) ≡ slots_by ps h u v
  unfolding row_gradient flat_to params_to nodes_of
  row = rw (ups_1, ups_2, nodes_1)

  step : stepped deep_net ps deep (zero32 ∷ []) (one32 ∷ []) rate ≡ left
  unfolding stepped gradient_of gathered rows_in sum_from
  step = ap (moved_by ps) row ∙ w.moved

  fault : step_fault deep_net ps deep (zero32 ∷ []) (one32 ∷ []) rate ≡ 0
  unfolding step_fault nodes_finite all_to rows_in
  fault = rw (nodes_1, nodes_2, step, w.finite.0, w.finite.1, w.finite.2)

-- ---- both steps on both models, computed
abbrev First : Float → Type 0
First last = Walk (ending last) zero32 zero32 (bits 0xc000_0000) (bits 0xbf80_0000) (after_one last)

walks : (First zero32 × Walk (after_one zero32) (bits 0x3f10_0000) (bits 0x3f9b_b1c0) (bits 0x3edd_8e00) (bits 0xbc29_9a1f) first_after_two)
    × (First one32 × Walk (after_one one32) (bits 0x3f10_0000) (bits 0x3f9f_7dc0) (bits 0x3efb_ee00) (bits 0x3d87_5145) second_after_two)
unfolding of_bits round add sub mul div neg sum eq lt le of_int sum_from tabulate all_to all_finite flat_to exp_of width_of knot_of portion_of
    indicator_of blend_of cox_of outside_of value_of rise_of slope_of silu_of silu_derivative_of dot_of edge_with edge_of node_of layer_of slot_of
    back_of back_layer layer_slots moved_of
walks = (
  (
    record { hidden = refl; output = refl; error = refl; back = refl; moved = refl; finite = (refl, refl, refl) },
    record { hidden = refl; output = refl; error = refl; back = refl; moved = refl; finite = (refl, refl, refl) },
  ),
  (
    record { hidden = refl; output = refl; error = refl; back = refl; moved = refl; finite = (refl, refl, refl) },
    record { hidden = refl; output = refl; error = refl; back = refl; moved = refl; finite = (refl, refl, refl) },
  ),
)

-- ---- the call: its checks, then n steps
abbrev checks : Float → ℕ
checks last = up_to19 deep_net deep (unit_grid 2) (ending last) (zero32 ∷ []) (one32 ∷ []) rate (zeros 14) (zeros 6)

abbrev faults : Float → ℕ → ℕ
faults last s = fault_at deep_net (ending last) deep (zero32 ∷ []) (one32 ∷ []) rate s

abbrev after : Float → ℕ → List Float
after last n = model_after deep_net (ending last) deep (zero32 ∷ []) (one32 ∷ []) rate n

begun : (checks zero32 ≡ 0) × (checks one32 ≡ 0)
unfolding of_bits round add sub mul div neg sum eq lt le of_int tabulate all_to all_finite width_of knot_of params_to widest_to widths_to rows_in
    row_fault first_to rows_fault batch_fault config_fault shape_sound products_fit intervals_sound ends_sound steps_sound domain_sound up_to8
    up_to9_for_nodes up_to9_in_training from11_to18 rate_sound from11_to19 up_to19
begun = (refl, refl)

trains : (last : Float) (n : ℕ) (left : List Float) → checks last ≡ 0 → first_to (faults last) n ≡ 0 → after last n ≡ left → Trains last n left
unfolding train_fault train_done up_to19 tabulate params_to widths_to
trains last n left sound clear e =
    let to9 = (both_pass (up_to9_in_training deep (unit_grid 2) 14 14 6) _ sound).0 in
    let done = done_all (faults last) n clear in
    record {
      answer = rw (sound, clear, done);
      leaves = record { model = rw (sound, done) (sym e); gradients = rw to9; work = rw to9 };
    }

module _ (last : Float) (sound : checks last ≡ 0) (w : First last) where
  after_1 : after last 1 ≡ after_one last
  unfolding model_after
  after_1 = step w

  clear_1 : first_to (faults last) 1 ≡ 0
  unfolding first_to model_after
  clear_1 = fault w

  trains_1 : Trains last 1 (after_one last)
  trains_1 = trains last 1 (after_one last) sound clear_1 after_1

  trains_2 : {h o u v : Float} {left : List Float} → Walk (after_one last) h o u v left → Trains last 2 left
  unfolding model_after
  trains_2 {left = left} again =
      trains last 2 left sound (first_more (faults last) 1 clear_1 (rw after_1 (fault again))) (rw after_1 (step again))

-- ---- the map, computed
map_done : Visited deep_net deep (unit_grid 2) (ending zero32) (zero32 ∷ []) (zeros 1) (zeros 1) (blank 14) (Ok tt) (zeros 1) (zeros 1) marked
unfolding of_bits round add sub mul div neg sum eq ne lt le of_int sum_from tabulate all_to all_finite flat_to exp_of width_of knot_of portion_of
    indicator_of blend_of cox_of outside_of value_of rise_of slope_of silu_of params_to widest_to dot_of edge_with edge_of node_of layer_of
    nodes_of nodes_finite row_fault rows_in first_to done_to config_fault shape_sound products_fit intervals_sound ends_sound steps_sound domain_sound
    up_to8 up_to9 row_refusal touches_by touches edge_touched node_touched layer_touched row_touched any_to marks_of map_up_to11 visit_refusal
    visit_carried visit_marks
map_done = record { answer = refl; map = refl; first = refl; second = refl }

-- ---- the models differ only where it marks 0
unmarked_within : (p : ℕ) → unmarked 7 marked p ≡ true → p < 14
unmarked_within p d =
    by_length p 14 (λ l. l) (λ l. absurd (omega (arith, (unmarked_byte 7 marked p d).1, get_or-eq_default marked 1 l)))

fits_at : (ms : List Float) → all_to (λ (i : ℕ). fits binary32 (at ms i)) 14 ≡ true → (p : ℕ) → p < 14 → T (fits binary32 (at ms p))
fits_at ms all p l = subst T (sym (all_each (λ (i : ℕ). fits binary32 (at ms i)) 14 all p l)) tt

differs : Differ 7 (unmarked 7 marked) (ending zero32) (ending one32)
unfolding tabulate all_finite all_to of_bits fits
differs =
    record {
      size = refl;
      finite = (refl, refl);
      within = unmarked_within;
      coefficient = λ p d. (unmarked_byte 7 marked p d).0;
      others = λ p d.
          sym (get_or-set_other (ending zero32) 13 p one32 nan (λ e. true≢false (subst (λ (q : ℕ). unmarked 7 marked q ≡ false) e d)));
      floats = λ p d. (fits_at (ending zero32) refl p (unmarked_within p d), fits_at (ending one32) refl p (unmarked_within p d));
    }

-- ---- what two steps leave is not alike, say in the middle coefficient below, which is no place of the set
twice : Trains zero32 2 first_after_two × Trains one32 2 second_after_two
twice = (trains_2 zero32 begun.0 walks.0.0 walks.0.1, trains_2 one32 begun.1 walks.1.0 walks.1.1)

apart : at first_after_two 4 ≡ at second_after_two 4 → ⊥
unfolding of_bits eq
apart e = true≢false (ap (eq (at first_after_two 4)) e)

not_alike : AlikeAfter 2 → ⊥
not_alike same = apart ((same _ _ _ _ _ _ _ _ twice.0 twice.1).1.others 4 refl)

-- ---- demand 3 of n steps, and of one step its premise, by R17.4
alike : (n : ℕ) → SilentFor n → AlikeAfter n
alike n silent =
    (demand_3 deep (unit_grid 2) (unmarked 7 marked) (ending zero32) (ending one32) differs).train (zero32 ∷ []) (one32 ∷ []) rate (zeros 14)
    (zeros 6) n (λ sound. silent)

silent_1 : SilentFor 1
silent_1 = (map_shows deep (unit_grid 2) (ending zero32) (zero32 ∷ []) _ _ _ _ _ marked map_done).silent.step (one32 ∷ []) rate

pub longer : Longer
unfolding of_bits round add sub mul div neg sum eq lt le of_int width_of knot_of portion_of indicator_of blend_of cox_of outside_of value_of
longer =
    record {
      visited = map_done;
      differ = differs;
      one = (silent_1, alike 1 silent_1);
      once = (trains_1 zero32 begun.0 walks.0.0, trains_1 one32 begun.1 walks.1.0);
      hidden = (nodes_1 walks.0.0, nodes_1 walks.0.1);
      not_silent = refl;
      twice = twice;
      two = (λ silent. not_alike (alike 2 silent), not_alike);
    }
