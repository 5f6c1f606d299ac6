-- A product of two 64-bit numbers by their 32-bit halves.
use Rattle.std.proofs.Common.{◌≡◌, ℕ, ◌+◌, ◌-◌, ◌*◌, ◌/◌, ◌%◌, ◌^◌, ◌<◌, ◌≤◌}
use Rattle.std.proofs.Common.{sym, ap, ◌∙◌, mul-le-mul, div-add-mod', arith}

-- two halves: their product is below 2 ^ 64
pub halves_fit : {a b : ℕ} → a < 2 ^ 32 → b < 2 ^ 32 → a * b < 2 ^ 64
halves_fit {a} {b} h k =
    let x : a ≤ 2 ^ 32 - 1 = omega arith in
    let y : b ≤ 2 ^ 32 - 1 = omega arith in
    omega (arith, mul-le-mul x y)

expand : (h l k m : ℕ) → (h * 2 ^ 32 + l) * (k * 2 ^ 32 + m) ≡ h * k * 2 ^ 64 + (h * m + l * k) * 2 ^ 32 + l * m
expand h l k m = omega arith

wraps : (s p w : ℕ) → (p + (s % 2 ^ 64) % 2 ^ 32 * 2 ^ 32) % 2 ^ 64 ≡ (w * 2 ^ 64 + s * 2 ^ 32 + p) % 2 ^ 64
wraps s p w = omega arith

joined : (h l k m : ℕ) → (l * m + (h * m + l * k) % 2 ^ 64 % 2 ^ 32 * 2 ^ 32) % 2 ^ 64 ≡ (h * 2 ^ 32 + l) * (k * 2 ^ 32 + m) % 2 ^ 64
joined h l k m = wraps (h * m + l * k) (l * m) (h * k) ∙ ap (λ (z : ℕ). z % 2 ^ 64) (sym (expand h l k m))

-- c is the sum of the two cross products, wrapped, and r the sum of the low product and c's low half, moved up and wrapped
pub product : (a b c r : ℕ) → c ≡ (a / 2 ^ 32 * (b % 2 ^ 32) + a % 2 ^ 32 * (b / 2 ^ 32)) % 2 ^ 64
    → r ≡ (a % 2 ^ 32 * (b % 2 ^ 32) + c % 2 ^ 32 * 2 ^ 32) % 2 ^ 64 → r ≡ a * b % 2 ^ 64
product a b c r e f =
    f
    ∙ ap (λ (z : ℕ). (a % 2 ^ 32 * (b % 2 ^ 32) + z % 2 ^ 32 * 2 ^ 32) % 2 ^ 64) e
    ∙ joined (a / 2 ^ 32) (a % 2 ^ 32) (b / 2 ^ 32) (b % 2 ^ 32)
    ∙ ap (λ (z : ℕ). z * (b / 2 ^ 32 * 2 ^ 32 + b % 2 ^ 32) % 2 ^ 64) (div-add-mod' a (2 ^ 32))
    ∙ ap (λ (z : ℕ). a * z % 2 ^ 64) (div-add-mod' b (2 ^ 32))
