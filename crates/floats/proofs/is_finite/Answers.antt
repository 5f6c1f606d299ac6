-- What lies strictly between the two infinities is finite.
use Rattle.std.proofs.Common.{◌≡◌, true, false, refl, sym, ◌∙◌, rules}
use Rattle.std.specs.Float.{Float, nan, inf, fin, binary32}
use Rattle.std.specs.Float.Ieee.{lt, of_bits, nan_bits}
use Rattle.std.specs.Float.Ieee.Scale.{finite}
use Rattle.floats.proofs.is_finite.Goals as goal

below : (x : Float) → lt x (of_bits binary32 0x7f80_0000) ≡ true → lt (of_bits binary32 0xff80_0000) x ≡ finite x
unfolding lt of_bits
below nan h = refl
below (inf true) h = refl
below (inf false) h = sym h
below (fin s m e) h = refl

not_below : (x : Float) → lt x (of_bits binary32 0x7f80_0000) ≡ false → false ≡ finite x
unfolding lt of_bits
not_below nan h = refl
not_below (inf s) h = refl
not_below (fin s m e) h = sym h

pub float_from_bits-t-3 : goal.float_from_bits-t-3
unfolding nan_bits
float_from_bits-t-3 c = search rules

pub float_from_bits-result : goal.float_from_bits-result
unfolding nan_bits
float_from_bits-result c = search rules

pub returns-then-x : goal.returns-then-x
returns-then-x c = below _ c.if-x.true

pub returns-else-x : goal.returns-else-x
returns-else-x c = c.if-x.false ∙ not_below _ c.if-x.false
