-- The loop adds to the front alone; what lies behind it is as it was.
use Rattle.std.proofs.Common.{◌≡◌, ℕ, ◌+◌, ◌∙◌, List, ◌++◌, Float, take, drop, ap, rules}
use Rattle.floats.specs.Sums.{tabulate}
use Rattle.floats.proofs.Loops.{tab_length}
use Rattle.layers.specs.Net.{basis_of}
use Rattle.gradients.specs.Steps.{plus_of, weighted}
use Rattle.gradients.proofs.Adding.{plus_front}
use Rattle.gradients.proofs.add_coefficients.Goals as goal

pub returns : goal.returns
returns c =
    let n = c.args.grid.intervals + 3 in
    let gs = c.args.gradients.now in
    let f : ℕ → Float = weighted (basis_of c.args.grid) c.args.u c.args.x in
    let last : c.loop-k.k ≡ n = search rules in
    ap (λ (l : List Float). l ++ drop n gs) (c.loop-k.invariant ∙ ap (λ (k : ℕ). plus_of (take n gs) (tabulate f k)) last)
    ∙ plus_front gs (tabulate f n) n (tab_length f n) c.requires.1
