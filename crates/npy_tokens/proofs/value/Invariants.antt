-- The digits so far are counted.
use Rattle.std.proofs.Common.{◌≡◌, take}
use Rattle.npy_tokens.specs.Tokens.{value_of}
use Rattle.npy_tokens.specs.Places.{counted}
use Rattle.npy_tokens.proofs.value.Given as goal

abbrev pub invariant-loop-digit : goal.invariant-loop-digit
invariant-loop-digit l = l.n ≡ counted (value_of (take l.digit-index l.digit-items))
