-- Outside the limits the answer is a constant; inside, `below_zero` and `from_zero` say what the tests give.
use Rattle.std.proofs.Common.{ℕ, ◌-◌, ◌*◌, ◌^◌, sym, ap, ◌∙◌, arith}
use lib.Ieee.{neg, of_bits}
use Rattle.exponential.specs.Steps.{raised_of}
use Rattle.exponential.proofs.Whole.{at_high, at_low, below_zero, from_zero}
use Rattle.exponential.proofs.table.PowerTable.exponential.Goals as goal

-- ---- outside the limits
pub returns-then-x : goal.returns-then-x
unfolding of_bits neg
returns-then-x c = at_high c.args.x c.if-x.true

pub returns-then-x-2 : goal.returns-then-x-2
unfolding of_bits neg
returns-then-x-2 c = at_low c.args.x c.if-x.false c.if-x-2.true

-- ---- a negative x
pub scaled_size-requires : goal.scaled_size-requires
unfolding of_bits neg
scaled_size-requires c = (below_zero c.args.x c.if-x.false c.if-x-2.false c.if-x-3.true).small

pub overflow_mul-scaled_size : goal.overflow_mul-scaled_size
unfolding of_bits neg
overflow_mul-scaled_size c =
    omega (arith, (below_zero c.args.x c.if-x.false c.if-x-2.false c.if-x-3.true).size, c.scaled_size.ensures)

pub overflow_sub-scaled_size : goal.overflow_sub-scaled_size
unfolding of_bits neg
overflow_sub-scaled_size c =
    omega (arith, (below_zero c.args.x c.if-x.false c.if-x-2.false c.if-x-3.true).size, c.scaled_size.ensures)

pub returns-then-x-3 : goal.returns-then-x-3
unfolding of_bits neg
returns-then-x-3 c =
    c.from_raised.ensures ∙ ap (λ (n : ℕ). raised_of (151 * 2 ^ 56 - n * 1549082005) 0) c.scaled_size.ensures
    ∙ sym (below_zero c.args.x c.if-x.false c.if-x-2.false c.if-x-3.true).value

-- ---- any other x
pub scaled_size-requires-else-x-3 : goal.scaled_size-requires-else-x-3
unfolding of_bits neg
scaled_size-requires-else-x-3 c = (from_zero c.args.x c.is_nan.ensures.value c.if-is_nan.false c.if-x.false c.if-x-2.false c.if-x-3.false).small

pub overflow_mul-scaled_size-else-x-3 : goal.overflow_mul-scaled_size-else-x-3
unfolding of_bits neg
overflow_mul-scaled_size-else-x-3 c =
    omega (arith, (from_zero c.args.x c.is_nan.ensures.value c.if-is_nan.false c.if-x.false c.if-x-2.false c.if-x-3.false).size, c.scaled_size-else-x-3.ensures)

pub from_raised-requires-else-x-3 : goal.from_raised-requires-else-x-3
unfolding of_bits neg
from_raised-requires-else-x-3 c =
    omega (arith, (from_zero c.args.x c.is_nan.ensures.value c.if-is_nan.false c.if-x.false c.if-x-2.false c.if-x-3.false).size, c.scaled_size-else-x-3.ensures)

pub returns-else-x-3 : goal.returns-else-x-3
unfolding of_bits neg
returns-else-x-3 c =
    c.from_raised-else-x-3.ensures ∙ ap (λ (n : ℕ). raised_of (n * 1549082005) 151) c.scaled_size-else-x-3.ensures
    ∙ sym (from_zero c.args.x c.is_nan.ensures.value c.if-is_nan.false c.if-x.false c.if-x-2.false c.if-x-3.false).value
