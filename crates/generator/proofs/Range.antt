-- `root_of` from 1 to 41,666, and elsewhere.
use Rattle.std.proofs.Common.{◌≡◌, ℕ, ◌+◌, ◌*◌, ◌^◌, ◌≤◌, Bool, true, false, cond, ◌&&◌, T, leb, refl, leb→le, le-leb}
use lib.Ieee.{binary32, of_bits, round}
use Rattle.generator.specs.Root.{whole_root, root_of}

pub root_within : (n : ℕ) → 1 ≤ n → n ≤ 41666 → root_of n ≡ round binary32 false (2 * whole_root (n * 2 ^ 48) + 1) (2 ^ 25)
unfolding root_of
root_within n h k = rw (le-leb 1 n h, le-leb n 41666 k)

-- R11.3: any other n gives +0.0
pub root_elsewhere : (n : ℕ) → ¬ ((1 ≤ n) × (n ≤ 41666)) → root_of n ≡ of_bits binary32 0
unfolding root_of
root_elsewhere n h = go (leb 1 n) (leb n 41666) (leb→le 1 n) (leb→le n 41666)
  where
    go : (x y : Bool) → (T x → 1 ≤ n) → (T y → n ≤ 41666)
        → cond (x && y) (round binary32 false (2 * whole_root (n * 2 ^ 48) + 1) (2 ^ 25)) (of_bits binary32 0) ≡ of_bits binary32 0
    go true true a b = absurd (h (a tt, b tt))
    go true false a b = refl
    go false y a b = refl
