-- The digits behind `from` are written, and the rest of the number is to go before them.
use Rattle.std.proofs.Common.{◌≡◌, ◌≤◌, ◌<◌, ◌^◌, length, drop}
use Rattle.text.specs.Text.{decimal_to, decimal_of}
use Rattle.text.proofs.append_decimal.Given as goal

abbrev pub invariant-loop-rest : goal.invariant-loop-rest
invariant-loop-rest l = record {
  long : length l.digits ≡ 20;
  some : 0 < l.from;
  within : l.from ≤ 20;
  room : l.rest < 10 ^ l.from;
  same : decimal_to l.from l.rest (drop l.from l.digits) ≡ decimal_of l.n;
}

abbrev pub decreases-loop-rest : goal.decreases-loop-rest
decreases-loop-rest l = l.from
