-- `whole_root n` is the one whole number whose square is at most n while the next one's is above it. And a square that is a multiple of
-- 4 ^ k has a root that is a multiple of 2 ^ k.
use Rattle.std.proofs.Common.{◌≡◌, ℕ, zero, suc, ◌+◌, ◌*◌, ◌/◌, ◌%◌, ◌^◌, ◌<◌, ◌≤◌, Bool, true, false, cond, not, T, leb, sym, ap, ◌∙◌, subst, zero-le, lt_of_le_of_lt, le_of_lt, add_assoc, mul-le-mul, mul-le-mul_left, mul-lt-mul_of_pos_right, pow-suc, lt_of_not-le, mul-one, not-le_of_lt, arith, leb→le}
use native.Mathlib.Nat.{two-pow-succ}
use lib.Dec.{nleb→lt}
use Rattle.generator.specs.Root.{root_digits, whole_root}

-- ---- a number and its square
pub square_lt : (x y : ℕ) → x < y → x * x < y * y
square_lt x y h = lt_of_le_of_lt (mul-le-mul_left x (le_of_lt h)) (mul-lt-mul_of_pos_right h (lt_of_le_of_lt zero-le h))

pub root_lt : (n t u : ℕ) → t * t ≤ n → n < u * u → t < u
root_lt n t u h k = lt_of_not-le (λ (g : u ≤ t). not-le_of_lt (lt_of_le_of_lt h k) (mul-le-mul g g))

-- ---- the whole part of a root
abbrev pub IsRoot : ℕ → ℕ → Type 0
IsRoot n t = (t * t ≤ n) × (n < (t + 1) * (t + 1))

unique : (n t u : ℕ) → IsRoot n t → IsRoot n u → t ≡ u
unique n t u h k =
    let x = root_lt n t (u + 1) h.0 k.1 in
    let y = root_lt n u (t + 1) k.0 h.1 in
    omega arith

-- the root lies from t and below t + 2 ^ j: the digits that are left find it
found : (j n t : ℕ) → t * t ≤ n → n < (t + 2 ^ j) * (t + 2 ^ j) → IsRoot n (root_digits j n t)
unfolding root_digits
found zero n t h k = (h, k)
found (suc j) n t h k = go (leb (u * u) n) (leb→le (u * u) n) (nleb→lt (u * u) n) (found j n)
  where
    u : ℕ
    u = t + 2 ^ j

    two_halves : t + 2 ^ suc j ≡ u + 2 ^ j
    two_halves = ap (λ (x : ℕ). t + x) (two-pow-succ j) ∙ sym (add_assoc t (2 ^ j) (2 ^ j))

    go : (b : Bool) → (T b → u * u ≤ n) → (T (not b) → n < u * u)
        → ((v : ℕ) → v * v ≤ n → n < (v + 2 ^ j) * (v + 2 ^ j) → IsRoot n (root_digits j n v))
        → IsRoot n (root_digits j n (cond b u t))
    go true l g ih = ih u (l tt) (subst (λ (x : ℕ). n < x * x) two_halves k)
    go false l g ih = ih t h (g tt)

pub whole_root_is : (n : ℕ) → n < 2 ^ 64 → IsRoot n (whole_root n)
unfolding whole_root
whole_root_is n h = found 32 n 0 zero-le h

pub whole_root_only : (n t : ℕ) → n < 2 ^ 64 → IsRoot n t → t ≡ whole_root n
whole_root_only n t h k = unique n t (whole_root n) k (whole_root_is n h)

pub whole_root_below : (n : ℕ) → n < 2 ^ 64 → whole_root n < 2 ^ 32
whole_root_below n h = root_lt n (whole_root n) (2 ^ 32) (whole_root_is n h).0 h

-- ---- a square that is a multiple of 4 ^ k
odd_square : (h x : ℕ) → (2 * h + 1) * (2 * h + 1) ≡ 4 * x → ⊥
odd_square h x e = omega arith

-- h and d are the half and the last digit of s
even : (s h d x : ℕ) → s ≡ 2 * h + d → d < 2 → s * s ≡ 4 * x → s ≡ 2 * h
even s h zero x w l e = omega arith
even s h (suc zero) x w l e = absurd (odd_square h x (sym (ap (λ (v : ℕ). v * v) w) ∙ e))
even s h (suc (suc d)) x w l e = omega arith

quarter : (k n : ℕ) → n * (2 ^ suc k * 2 ^ suc k) ≡ 4 * (n * (2 ^ k * 2 ^ k))
quarter k n = rw pow-suc (omega arith)

double : (k t : ℕ) → 2 * (t * 2 ^ k) ≡ t * 2 ^ suc k
double k t = rw pow-suc (omega arith)

pub root_multiple : (k s n : ℕ) → s * s ≡ n * (2 ^ k * 2 ^ k) → (t : ℕ) × (s ≡ t * 2 ^ k)
root_multiple zero s n e = (s, sym (mul-one s))
root_multiple (suc k) s n e = go (s / 2) (even s (s / 2) (s % 2) x (omega arith) (omega arith) fourfold) (root_multiple k (s / 2) n)
  where
    x : ℕ
    x = n * (2 ^ k * 2 ^ k)

    fourfold : s * s ≡ 4 * x
    fourfold = e ∙ quarter k n

    go : (h : ℕ) → s ≡ 2 * h → (h * h ≡ x → (t : ℕ) × (h ≡ t * 2 ^ k)) → (t : ℕ) × (s ≡ t * 2 ^ suc k)
    go h w ih =
        let q : 2 * h * (2 * h) ≡ 4 * x = sym (ap (λ (v : ℕ). v * v) w) ∙ fourfold in
        let r = ih (omega arith) in
        (r.0, omega (arith, r.1, double k r.0))
