use mathlib.Core.Path.{sym, ◌∙◌}
use native.Mathlib.Omega.{arith}
use Rattle.npy_header.proofs.Frames.{accepted_inside}
use Rattle.npy_header.proofs.frame.check_header.Goals as goal

pub body_at-end-requires : goal.body_at-end-requires
body_at-end-requires c =
    omega (arith, accepted_inside _ _ c.is_framed.ensures (sym c.refuse_unless.ensures ∙ c.in_ok-refuse_unless.was))
