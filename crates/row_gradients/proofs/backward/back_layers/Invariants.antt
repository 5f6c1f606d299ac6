-- The gradients stand in the work from the cursor's nodes on.
use Rattle.std.proofs.Common.{take}
use Rattle.layers.specs.Widths.{input_width}
use Rattle.row_gradients.proofs.Ups.{Led}
use Rattle.row_gradients.proofs.backward.back_layers.Given as goal

abbrev pub invariant-loop : goal.invariant-loop
invariant-loop l =
    Led l.grid l.model l.widths (take (input_width l.widths) l.initial.work) l.targets l.scale l.initial.work l.counter
    l.layer l.work
