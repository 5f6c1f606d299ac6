-- A value that fits has few digits and trailing zeros, in units of the format's smallest value: so it is a whole number of steps of
-- 2 ^ k units, or it lies below 2 ^ (prec - 1) of these steps.
use Rattle.std.proofs.Common.{◌≡◌, ℕ, zero, suc, ◌+◌, ◌-◌, ◌*◌, ◌%◌, ◌^◌, ◌<◌, ◌≤◌, Bool, true, false, not, ◌&&◌, T, eqb, ltb, leb, ◌⊎◌, ℤ, pos, negsuc, sym, ap, ◌∙◌, subst, inl, inr, true≢false, zero-le, lt_of_lt_of_le, le_of_suc-le-suc, lt_of_le_of_lt, mul_assoc, mul-lt-mul_of_pos_right, lt_of_not-le, zero-mul, mul-one, sub-add_cancel, not-le_of_lt, arith, ltb→lt, leb→le, pow_pos, pow_mono, pow-add}
use native.Mathlib.Nat.{eq_of_mul-eq-mul_right}
use lib.Dec.{nleb→lt}
use lib.Pow.{pow-lt}
use lib.Ieee.{Float, nan, inf, fin, Format, prec, emax, low, up, down, fits}
use lib.Ieee.Fits.{and_l, and_r, down_pos, two, two-le_pos}
use lib.Ieee.Exact.{HasValue}

-- ---- powers of two
pow_split : (j k : ℕ) → k ≤ j → 2 ^ j ≡ 2 ^ (j - k) * 2 ^ k
pow_split j k h = ap (λ (z : ℕ). 2 ^ z) (sym (sub-add_cancel h)) ∙ pow-add 2 (j - k) k

pow_back : (i j : ℕ) → 2 ^ i ≤ 2 ^ j → i ≤ j
pow_back i j h = le_of_suc-le-suc (lt_of_not-le (λ (g : suc j ≤ i). not-le_of_lt (pow-lt g) h))

-- ---- b is m * 2 ^ j, with an m of at most p digits
record Digits (p b : ℕ) : Type 0 where
  m : ℕ
  j : ℕ
  few : m < 2 ^ p
  same : b ≡ m * 2 ^ j

-- what `fits` says of a value that is not zero
small : (f : Format) (m : ℕ) (e : ℤ) → T (fits f (fin false (suc m) e)) → (suc m < 2 ^ prec f) × (down e ≤ 2 ^ low f)
unfolding fits
small f m e t =
    let A = eqb (suc m % 2) 1 in
    let B = ltb (suc m) (2 ^ prec f) in
    let C = leb (down e) (2 ^ low f) in
    let abc = and_l (A && B && C) (ltb (suc m * up e) (2 ^ suc (emax f) * down e)) t in
    (ltb→lt (suc m) (2 ^ prec f) (and_r A B (and_l (A && B) C abc)), leb→le (down e) (2 ^ low f) (and_r (A && B) C abc))

digits_of : (f : Format) (y : Float) (b : ℕ) → T (fits f y) → HasValue y false b (2 ^ low f) → Digits (prec f) b
digits_of f nan b t v = absurd v
digits_of f (inf s) b t v = absurd v
digits_of f (fin true m e) b t v = absurd (true≢false v.0)
digits_of f (fin false zero e) b t v = record {
  m = 0;
  j = 0;
  few = pow_pos (prec f);
  same = eq_of_mul-eq-mul_right (down e) (down_pos e) b 0 (sym v.1 ∙ simp zero-mul);
}
digits_of f (fin false (suc m) (pos i)) b t v = record {
  m = suc m;
  j = i + low f;
  few = (small f m (pos i) t).0;
  same = sym (v.1 ∙ mul-one b) ∙ mul_assoc (suc m) (2 ^ i) (2 ^ low f) ∙ ap (λ (x : ℕ). suc m * x) (sym (pow-add 2 i (low f)));
}
digits_of f (fin false (suc m) (negsuc i)) b t v =
    let s = small f m (negsuc i) t in
    let j = low f - suc i in
    let e = pow_split (low f) (suc i) (pow_back (suc i) (low f) s.1) in
    let w : b * 2 ^ suc i ≡ suc m * 2 ^ j * 2 ^ suc i =
    sym v.1
    ∙ ap (λ (x : ℕ). x * 2 ^ low f) (mul-one (suc m))
    ∙ ap (λ (x : ℕ). suc m * x) e
    ∙ sym (mul_assoc (suc m) (2 ^ j) (2 ^ suc i)) in
    record { m = suc m; j = j; few = s.0; same = eq_of_mul-eq-mul_right (2 ^ suc i) (pow_pos (suc i)) b (suc m * 2 ^ j) w }

-- ---- in steps of 2 ^ k
abbrev pub Stepped : ℕ → ℕ → ℕ → Type 0
Stepped p k b = ((c : ℕ) × (b ≡ c * 2 ^ k)) ⊎ ((0 < k) × (b < 2 ^ (p - 1) * 2 ^ k))

fewer : (p j k : ℕ) → 0 < p → j < k → p + j ≤ p - 1 + k
fewer p j k P l = omega arith

stepped : (p k m j : ℕ) → 0 < p → m < 2 ^ p → Stepped p k (m * 2 ^ j)
stepped p k m j P h = go (leb k j) (leb→le k j) (nleb→lt k j)
  where
    go : (t : Bool) → (T t → k ≤ j) → (T (not t) → j < k) → Stepped p k (m * 2 ^ j)
    go true a b = inl (m * 2 ^ (j - k), ap (λ (x : ℕ). m * x) (pow_split j k (a tt)) ∙ sym (mul_assoc m (2 ^ (j - k)) (2 ^ k)))
    go false a b =
        let l : 2 ^ p * 2 ^ j ≤ 2 ^ (p - 1) * 2 ^ k = rw (← pow-add 2 p j, ← pow-add 2 (p - 1) k) (pow_mono (fewer p j k P (b tt))) in
        inr (lt_of_le_of_lt zero-le (b tt), lt_of_lt_of_le (mul-lt-mul_of_pos_right h (pow_pos j)) l)

pub stepped_of : (f : Format) (k : ℕ) (y : Float) (b : ℕ) → T (fits f y) → HasValue y false b (2 ^ low f) → Stepped (prec f) k b
stepped_of f k y b t v =
    let d = digits_of f y b t v in
    subst (Stepped (prec f) k) (sym d.same) (stepped (prec f) k d.m d.j (two-le_pos (prec f) (two f)) d.few)
