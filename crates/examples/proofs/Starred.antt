-- R16.1 to R16.3: the examples marked * in one theorem, each computed from the definitions. Assumes nothing.
use mathlib.Core.Path.{refl}
use lib.Ieee.{of_bits, round, add, sub, mul, div, neg, sum, eq, lt, le, of_int}
use Rattle.floats.specs.Sums.{sum_from, tabulate, all_to, all_finite, flat_to}
use Rattle.exponential.specs.Exponential.{exp_of}
use Rattle.spline.specs.Spline.{width_of, knot_of, portion_of, indicator_of, blend_of, cox_of, outside_of, value_of, rise_of, slope_of}
use Rattle.spline.specs.Activation.{silu_of, silu_derivative_of}
use Rattle.layers.specs.Widths.{params_to, widest_to, widths_to}
use Rattle.layers.specs.Layer.{dot_of, edge_with, edge_of, node_of, layer_of}
use Rattle.refusals.specs.Refusals.{first_to, done_to}
use Rattle.batches.specs.Batch.{rows_in, row_fault, rows_fault, batch_fault}
use Rattle.passes.specs.Pass.{nodes_of, nodes_finite, from11_to18}
use Rattle.config.specs.Config.{config_fault, shape_sound, products_fit, intervals_sound, ends_sound, steps_sound, domain_sound}
use Rattle.admission.specs.Admission.{up_to8, up_to9, up_to9_for_nodes, up_to9_in_training}
use Rattle.loss.specs.Loss.{sum_after}
use Rattle.gradients.specs.Gradient.{slot_of, back_of, back_layer, layer_slots}
use Rattle.row_gradients.specs.Backward.{ups_of, row_gradient}
use Rattle.batch_gradients.specs.Accumulate.{gathered}
use Rattle.update.specs.Update.{rate_sound, moved_of}
use Rattle.training_step.specs.Step.{gradient_of, step_fault, stepped}
use Rattle.training.specs.Train.{from11_to19, model_after, up_to19, train_fault, train_done}
use Rattle.examples.specs.Starred.{Starred}

pub starred : Starred
unfolding of_bits round add sub mul div neg sum eq lt le of_int sum_from tabulate all_to all_finite flat_to exp_of width_of knot_of portion_of
    indicator_of blend_of cox_of outside_of value_of rise_of slope_of silu_of silu_derivative_of params_to widest_to widths_to dot_of edge_with edge_of node_of
    layer_of nodes_of nodes_finite row_fault rows_in first_to done_to rows_fault batch_fault config_fault shape_sound products_fit intervals_sound
    ends_sound steps_sound domain_sound up_to8 up_to9 up_to9_for_nodes up_to9_in_training sum_after from11_to18 slot_of back_of back_layer layer_slots ups_of
    row_gradient gathered moved_of gradient_of step_fault stepped rate_sound from11_to19 model_after up_to19 train_fault
    train_done
starred =
    record {
      largest = refl;
      too_large = refl;
      size_first = refl;
      moves = refl;
      stuck = refl;
      edges = refl;
      layer = refl;
      widths = refl;
      last_grid = refl;
      no_grid = refl;
      values = refl;
      slopes = refl;
      above = (refl, refl);
      below = (refl, refl);
      exponential = refl;
      derivative = refl;
      loss = refl;
      accepted = refl;
      stepped = refl;
    }
