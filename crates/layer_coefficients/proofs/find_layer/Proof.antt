-- `layer_coefficients::find_layer` meets its contract: after k turns the cursor stands at layer k. Assumes nothing.
use mathlib.Core.Path.{◌≡◌, sym, subst}
use mathlib.Core.List.{List}
use Prim.Native.Nat.{ℕ, ◌-◌, ◌≤◌}
use native.Mathlib.Omega.{arith}
use Rattle.spline.specs.declared.Grid.{Grid}
use Rattle.layer_cursor.specs.declared.Layer.{Layer}
use Rattle.layer_cursor.specs.Cursor.{Stands}
use Rattle.layer_coefficients.proofs.find_layer.Statement.{statement}
use Rattle.layer_coefficients.proofs.find_layer.Tie as tie

abbrev invariant-loop : tie.invariant-loop
invariant-loop widths grid layer found₀ counter₀ found counter = (counter ≤ layer) × Stands grid widths counter found

abbrev decreases-loop : tie.decreases-loop
decreases-loop widths grid layer found₀ counter₀ found counter = layer - counter

-- the number of a cursor that stands at layer l is l
here : {g : Grid} {ws : List ℕ} {l : ℕ} {c : Layer} → Stands g ws l c → Stands g ws c.index c
here {g} {ws} {l} {c} s = subst (λ (i : ℕ). Stands g ws i c) (sym s.index) s

first_requires : tie.Need-first-found-requires invariant-loop decreases-loop
first_requires c κs = c.requires.0.grid

loop_holds : tie.Need-loop-init invariant-loop decreases-loop
loop_holds c = (omega arith, c.first-found.ensures)

next_requires : tie.Need-next-found-requires invariant-loop decreases-loop
next_requires c κs =
    let at-loop = c.before in
    let stands = at-loop.loop.invariant.1 in
    (at-loop.requires.0, omega (arith, stands.index, at-loop.requires.1), here stands)

add_counter : tie.Need-overflow_step invariant-loop decreases-loop
add_counter c = omega arith

loop_less : tie.Need-loop-smaller invariant-loop decreases-loop
loop_less c = omega arith

loop_again : tie.Need-loop-preserved invariant-loop decreases-loop
loop_again c =
    (omega arith, rw c.loop.invariant.1.index at c.next-found.ensures)

returns : tie.Need-returns invariant-loop decreases-loop
returns c =
    let last : c.loop.counter ≡ c.args.layer = omega arith in
    rw last at c.loop.invariant.1

pub find_layer_spec : {M : Type 1} → statement M
find_layer_spec =
    tie.close
    (tie.spec
    invariant-loop
    decreases-loop
    first_requires
    loop_holds
    next_requires
    add_counter
    loop_less
    loop_again
    returns)
