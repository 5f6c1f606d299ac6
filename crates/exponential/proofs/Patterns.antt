-- The pattern that `nearest_pattern` answers, with the kept number r as the division gives it. Assumes nothing.
use Rattle.std.proofs.Common.{◌≡◌, ℕ, ◌+◌, ◌-◌, ◌*◌, ◌%◌, ◌^◌, ◌<◌, ◌≤◌, false, sym, ap, ◌∙◌, subst, one-mul, arith, lit<, lit≤, shl_exact}
use lib.Ieee.{binary32, round, to_bits}
use lib.Ieee.Nearest.{closest}
use Rattle.exponential.proofs.Round.{kept_small, bits_normal, bits_beyond, bits_small, none_left}

-- the unit that the shift makes
unit : (k : ℕ) → (k ≡ 0 → ⊥) → 1 * 2 ^ (64 - k) % 2 ^ 64 ≡ 2 ^ (64 - k)
unit k h = shl_exact 1 (64 - k) 64 (lit< tt) (omega arith) ∙ one-mul (2 ^ (64 - k))

pub finite : (p k r b : ℕ) → 2 ^ 62 ≤ p → p < 2 ^ 63 → 25 ≤ k → r ≡ closest p (2 ^ 39) → b ≡ (k - 25) * 8388608 + r
    → b < 2139095040 → b ≡ to_bits binary32 (round binary32 false (p * 2 ^ k) (2 ^ 213))
finite p k r b lo hi g e f h =
    let d : 25 + (k - 25) ≡ k = omega arith in
    let w : b ≡ (k - 25) * 8388608 + closest p (2 ^ 39) = f ∙ ap (λ (z : ℕ). (k - 25) * 8388608 + z) e in
    w ∙ sym (bits_normal p (k - 25) lo hi (subst (λ (z : ℕ). z < 2139095040) w h))
    ∙ ap (λ (z : ℕ). to_bits binary32 (round binary32 false (p * 2 ^ z) (2 ^ 213))) d

pub infinite : (p k r : ℕ) → 2 ^ 62 ≤ p → p < 2 ^ 63 → 25 ≤ k → r ≡ closest p (2 ^ 39) → 2139095040 ≤ (k - 25) * 8388608 + r
    → 2139095040 ≡ to_bits binary32 (round binary32 false (p * 2 ^ k) (2 ^ 213))
infinite p k r lo hi g e h =
    let d : 25 + (k - 25) ≡ k = omega arith in
    sym (bits_beyond p (k - 25) lo hi (subst (λ (z : ℕ). 2139095040 ≤ (k - 25) * 8388608 + z) e h))
    ∙ ap (λ (z : ℕ). to_bits binary32 (round binary32 false (p * 2 ^ z) (2 ^ 213))) d

pub nothing : (p k : ℕ) → p < 2 ^ 63 → k ≡ 0 → 0 ≡ to_bits binary32 (round binary32 false (p * 2 ^ k) (2 ^ 213))
nothing p k hi e = sym (bits_small p k 64 hi (omega arith) (lit≤ tt) ∙ none_left p hi)

module _ (p k r : ℕ) (hi : p < 2 ^ 63) (l : k < 25) (n : k ≡ 0 → ⊥) (e : r ≡ closest p (1 * 2 ^ (64 - k) % 2 ^ 64)) where
  kept : r ≡ closest p (2 ^ (64 - k))
  kept = e ∙ ap (closest p) (unit k n)

  pub little : r ≡ to_bits binary32 (round binary32 false (p * 2 ^ k) (2 ^ 213))
  little = kept ∙ sym (bits_small p k (64 - k) hi (omega arith) (omega arith))

  pub little_fits : r ≤ 8388608
  little_fits = omega (arith, kept, kept_small p (64 - k) hi (omega arith))
