-- The model is as the steps so far left it.
use Rattle.layers.specs.Net.{net_of}
use Rattle.training.proofs.Steps.{Going}
use Rattle.training.proofs.calls.run_steps.Given as goal

abbrev pub invariant-loop-done : goal.invariant-loop-done
invariant-loop-done l =
    Going (net_of l.grid) l.widths l.initial.model l.inputs l.targets l.rate l.initial.gradients l.initial.work l.done
    l.model l.gradients l.work
