-- The rows so far have passed 20, and are added where they are to be.
use Rattle.layers.specs.Net.{net_of}
use Rattle.batch_gradients.proofs.Turns.{Taken}
use Rattle.batch_gradients.proofs.taking.take_rows.Given as goal

abbrev pub invariant-loop-r : goal.invariant-loop-r
invariant-loop-r l =
    Taken (net_of l.grid) l.model l.widths l.inputs l.targets l.scale l.add l.clean l.initial.gradients l.initial.work l.r
    l.gradients l.work
