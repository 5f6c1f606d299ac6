-- The exact product lies in the range of the cast, and its whole part is `size_of x`.
use Rattle.std.proofs.Common.{T, sym, ◌∙◌, subst}
use lib.Ieee.{Float, binary32, of_bits, mul, fits}
use Rattle.exponential.specs.Exponential.{size_of}
use Rattle.exponential.specs.Steps.{Small}
use Rattle.exponential.proofs.Cut.{Cuts, size_cuts}
use Rattle.exponential.proofs.scaled_size.Goals as goal

-- 0x4c80_0000 is 2 ^ 26
cuts : (x : Float) → T (fits binary32 x) → Small x → Cuts (mul binary32 x (of_bits binary32 0x4c80_0000)) (size_of x)
unfolding of_bits
cuts x = size_cuts x

pub truncating_f32_to_u64-requires : goal.truncating_f32_to_u64-requires
truncating_f32_to_u64-requires c =
    let cut = cuts c.args.x (subst T (sym c.well_formed.0.1) tt) c.requires in
    record { lower_bound = cut.above; upper_bound = cut.below }

pub returns : goal.returns
returns c =
    c.truncating_f32_to_u64.ensures ∙ (cuts c.args.x (subst T (sym c.well_formed.0.1) tt) c.requires).whole
