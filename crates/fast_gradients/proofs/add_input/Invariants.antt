use Rattle.std.proofs.Common.{ℕ, ◌+◌, ◌*◌, length}
use Rattle.layers.specs.Net.{basis_of}
use Rattle.fast_gradients.specs.Adding.{input_slots}
use Rattle.fast_gradients.proofs.Rows.{Each}
use Rattle.fast_gradients.proofs.add_input.Given as goal

abbrev pub invariant-loop-o : goal.invariant-loop-o
invariant-loop-o l =
    Each (λ (j : ℕ). j * l.row + l.first) (input_slots (basis_of l.mesh.grid) l.params l.w l.fn.i l.x l.ups)
    (length l.ups) l.fn.gradients l.gradients l.o
