-- `round` gives the nearest: no other value of the format lies nearer to the fraction.
use Rattle.std.proofs.Common.{◌≡◌, ℕ, ◌+◌, ◌-◌, ◌*◌, ◌/◌, ◌%◌, ◌^◌, ◌<◌, ◌≤◌, false, not, T, sym, subst, inl, inr, ⊎_elim, lt_trans, le_of_eq, le_of_lt, mul-le-mul_right, mod-lt, lt_of_mul-lt-mul_right, eq-or-lt_of_le, mul-pos, div-add-mod', le-div_iff_mul-le, not-le_of_lt, le_of_mul-le-mul_right, arith, eqb→eq, leb→le, pow_pos, pow-add}
use Prim.Native.Nat.{compare, Ordering}
use lib.Dec.{is_le, compare_is_eq, nleb→lt}
use lib.Ieee.{Float, Format, prec, low, size, nearest, fits}
use lib.Ieee.Digits.{size_reaches}
use lib.Ieee.Fits.{two, two-le_pos}
use lib.Ieee.Exact.{HasValue}
use lib.Ieee.Nearest.{closest}
use lib.Ieee.Order.{drop, kept}
use lib.Ieee.Scale.{grid}
use Rattle.generator.proofs.Steps.{Stepped, stepped_of}

-- ---- `closest n u` is within a half of n / u
abbrev Beside : Ordering → ℕ → ℕ → Type 0
Beside Ordering.lt a b = a ≤ b
Beside Ordering.eq a b = a ≡ b
Beside Ordering.gt a b = b < a

beside : (a b : ℕ) → Beside (compare a b) a b
beside a b = go (compare a b) (leb→le a b) (nleb→lt a b) (eqb→eq a b)
  where
    go : (o : Ordering) → (T (is_le o) → a ≤ b) → (T (not (is_le o)) → b < a) → (T (compare_is_eq o) → a ≡ b) → Beside o a b
    go Ordering.lt h k e = h tt
    go Ordering.eq h k e = e tt
    go Ordering.gt h k e = k tt

abbrev Within : ℕ → ℕ → ℕ → Type 0
Within q n u = (2 * n ≤ (2 * q + 1) * u) × (2 * q * u ≤ 2 * n + u)

half : (w r u : ℕ) (o : Ordering) → r < u → Beside o (r * 2) u → Within (nearest w o) (w * u + r) u
half w r u Ordering.lt l h = (omega arith, omega arith)
half w r u Ordering.eq l h =
    let t : w % 2 ≤ 1 = omega arith in
    let x = mul-le-mul_right u t in
    (omega arith, omega arith)
half w r u Ordering.gt l h = (omega arith, omega arith)

within : (n u : ℕ) → 0 < u → Within (closest n u) n u
within n u U =
    subst (λ (z : ℕ). Within (closest n u) z u) (div-add-mod' n u)
    (half (n / u) (n % u) u (compare (n % u * 2) u) (mod-lt n U) (beside (n % u * 2) u))

-- ---- q steps of 2 ^ k, within a half step of n / den, against a stepped number b; where k is not 0, n / den has all p digits
module _ (p q k n den : ℕ) (D : 0 < den) (near : Within q n (den * 2 ^ k)) (all : 0 < k → 2 ^ (p - 1) * 2 ^ k * den ≤ n) where
  -- b is at most c steps, for some c below q
  under : (b c : ℕ) → c < q → b ≤ c * 2 ^ k → (q * 2 ^ k + b) * den ≤ 2 * n
  under b c l g =
      let x : (q + c + 1) * (den * 2 ^ k) ≤ 2 * q * (den * 2 ^ k) = mul-le-mul_right (den * 2 ^ k) (omega arith) in
      let y = mul-le-mul_right den g in
      omega arith

  -- b and q are at most c steps, and n / den at least as many
  level : (b c : ℕ) → c * 2 ^ k * den ≤ n → q ≤ c → b ≤ c * 2 ^ k → (q * 2 ^ k + b) * den ≤ 2 * n
  level b c h l g =
      let x = mul-le-mul_right den (mul-le-mul_right (2 ^ k) l) in
      let y = mul-le-mul_right den g in
      omega arith

  over : (c : ℕ) → q < c → 2 * n ≤ (q * 2 ^ k + c * 2 ^ k) * den
  over c l =
      let x : (2 * q + 1) * (den * 2 ^ k) ≤ (q + c) * (den * 2 ^ k) = mul-le-mul_right (den * 2 ^ k) (omega arith) in
      omega arith

  -- c steps are at most n / den: then c is at most q
  reached : (c : ℕ) → c * 2 ^ k * den ≤ n → c ≤ q
  reached c l =
      let x : 2 * c * (den * 2 ^ k) ≤ (2 * q + 1) * (den * 2 ^ k) = omega arith in
      let y = le_of_mul-le-mul_right x (mul-pos D (pow_pos k)) in
      omega arith

  below : (b : ℕ) → Stepped p k b → b < q * 2 ^ k → (q * 2 ^ k + b) * den ≤ 2 * n
  below b (inl (c, e)) l = under b c (lt_of_mul-lt-mul_right (2 ^ k) (rw e at l)) (le_of_eq e)
  below b (inr (K, s)) l =
      ⊎_elim (λ (e : 2 ^ (p - 1) ≡ q). level b (2 ^ (p - 1)) (all K) (le_of_eq (sym e)) (le_of_lt s))
      (λ (g : 2 ^ (p - 1) < q). under b (2 ^ (p - 1)) g (le_of_lt s)) (eq-or-lt_of_le (reached (2 ^ (p - 1)) (all K)))

  above : (b : ℕ) → Stepped p k b → q * 2 ^ k < b → 2 * n ≤ (q * 2 ^ k + b) * den
  above b (inl (c, e)) l = rw e (over c (lt_of_mul-lt-mul_right (2 ^ k) (rw e at l)))
  above b (inr (K, s)) l = absurd (not-le_of_lt (lt_trans l s) (mul-le-mul_right (2 ^ k) (reached (2 ^ (p - 1)) (all K))))

-- ---- `round`
in_use : (z p : ℕ) → 0 < p → 0 < z - p → p - 1 + (z - p) < z
in_use z p P h = omega arith

-- where digits are dropped, all p are in use
all_digits : (p n den : ℕ) → 0 < p → 0 < den → 0 < drop p n den → 2 ^ (p - 1) * 2 ^ drop p n den * den ≤ n
all_digits p n den P D K =
    let k = drop p n den in
    (le-div_iff_mul-le D).0 (rw (← pow-add 2 (p - 1) k) (size_reaches (n / den) (p - 1 + k) (in_use (size (n / den)) p P K)))

-- `grid f num den` is the rounded num / den in units of the smallest value, and num * 2 ^ low f / den the exact one
pub round_nearest : (f : Format) (num den : ℕ) → 0 < den → (y : Float) (b : ℕ) → T (fits f y) → HasValue y false b (2 ^ low f)
    → (b < grid f num den → (grid f num den + b) * den ≤ 2 * (num * 2 ^ low f))
    × (grid f num den < b → 2 * (num * 2 ^ low f) ≤ (grid f num den + b) * den)
round_nearest f num den D y b t v =
    let p = prec f in
    let n = num * 2 ^ low f in
    let k = drop p n den in
    let w = within n (den * 2 ^ k) (mul-pos D (pow_pos k)) in
    let u = all_digits p n den (two-le_pos p (two f)) D in
    let s = stepped_of f k y b t v in
    (below p (kept p n den) k n den D w u b s, above p (kept p n den) k n den D w u b s)
