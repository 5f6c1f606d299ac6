-- Both parts of v are exact in an f32, and so are their quotients.
use Rattle.std.specs.Float.Ieee.{of_bits}
use Rattle.generator.proofs.Once.{once}
use Rattle.generator.proofs.fraction.Goals as goal

pub returns : goal.returns
unfolding of_bits
returns c = once c.args.v c.requires
