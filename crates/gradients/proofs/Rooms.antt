-- Where one edge's parameters lie among a layer's. Assumes nothing.
use mathlib.Core.Path.{refl, sym}
use Prim.Native.Nat.{ℕ, ◌+◌, ◌*◌, ◌≤◌, ◌<◌}
use native.Mathlib.Nat.{le_trans, le_of_eq, mul_assoc, mul-one, mul-le-mul_left}
use native.Mathlib.Omega.{arith}
use Rattle.floats.proofs.Loops.{room}

-- the edge of output o and input i lies within the parameters of n outputs of w inputs each, and its number is no
-- larger
pub edge_room : (o n i w s L : ℕ) → o < n → i < w → n * (w * s) ≤ L → (o * w + i) * s + s ≤ L
edge_room o n i w s L a b h =
    let r : o * w + w ≤ n * w = room o n w (n * w) a (le_of_eq refl) in
    room (o * w + i) (n * w) s L (omega arith) (rw mul_assoc h)

pub grow : (a s : ℕ) → 0 < s → a ≤ a * s
grow a s h = le_trans (le_of_eq (sym (mul-one a))) (mul-le-mul_left a h)
