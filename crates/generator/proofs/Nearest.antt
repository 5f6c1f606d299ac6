-- `root_of n` is the f32 nearest the root of n, for n from 1 to 41,666, and the root never lies at a midpoint.
-- Sizes are in units of 2 ^ -149, the smallest f32. From 1.0 on every f32 is a whole number of steps, of 2 ^ 126 units each, and the root
-- lies from s and below s + 1 half steps. So does s + 1/2, which `round` takes to the f32 that is nearest to it.
use Rattle.std.proofs.Common.{◌≡◌, ℕ, ◌+◌, ◌*◌, ◌^◌, ◌<◌, ◌≤◌, false, T, sym, ap, ◌∙◌, subst, ⊎_elim, zero-le, le_trans, lt_trans, le_of_eq, le_refl, lt_of_lt_of_le, le_of_suc-le-suc, le-add_right, lt_of_le_of_lt, le_of_lt, add-le-add, lt_irrefl, mul-le-mul_right, mul_assoc, eq-zero-or-pos, mul-le-mul, add_comm, le_antisymm, lt_of_mul-lt-mul_right, eq-or-lt_of_le, mul-le-mul_left, mul-lt-mul_of_pos_right, lt_of_not-le, not-le_of_lt, le_of_mul-le-mul_right, mul_left_comm, add-one, arith, lit<, lit≤, pow_pos, pow_mono}
use lib.Ieee.{Float, binary32, round, odd, fits}
use lib.Ieee.Fits.{odd-fits, round-fits}
use lib.Ieee.Exact.{HasValue, odd_sign}
use lib.Ieee.Scale.{grid, round_val}
use Rattle.generator.specs.Root.{whole_root, root_of, Nearer, NearestRoot}
use Rattle.generator.proofs.Squares.{root_lt, square_lt, root_multiple, whole_root_is, whole_root_below}
use Rattle.generator.proofs.Range.{root_within}
use Rattle.generator.proofs.Steps.{stepped_of}
use Rattle.generator.proofs.Rounded.{round_nearest}

-- ---- b units are the size of an f32
record Held (b : ℕ) : Type 0 where
  float : Float
  holds : T (fits binary32 float)
  value : HasValue float false b (2 ^ 149)

held : (q k : ℕ) → q < 2 ^ 24 → k ≤ 253 → Held (q * 2 ^ k)
held q k h l =
    let u : 2 ^ 24 * 2 ^ k ≤ 2 ^ 277 = le_trans (mul-le-mul_left (2 ^ 24) (pow_mono l)) (lit≤ tt) in
    record {
      float = odd 24 false q k 149;
      holds = odd-fits binary32 24 false q k h (le_of_lt h) (lt_of_lt_of_le (mul-lt-mul_of_pos_right h (pow_pos k)) u);
      value = odd_sign 24 false q k 149;
    }

one : Held (2 ^ 149)
one = held 1 149 (lit< tt) (lit≤ tt)

-- ---- s + 1/2 half steps, rounded
abbrev rounded : ℕ → ℕ
rounded s = grid binary32 (2 * s + 1) (2 ^ 25)

-- no f32 lies nearer than a to s + 1/2 half steps, which are (2 * s + 1) * 2 ^ 124 units
abbrev Closest : ℕ → ℕ → Type 0
Closest s a = (b : ℕ) → Held b → (b < a → a + b ≤ (2 * s + 1) * 2 ^ 125) × (a < b → (2 * s + 1) * 2 ^ 125 ≤ a + b)

regroup : (v : ℕ) → 2 * (v * 2 ^ 149) ≡ v * 2 ^ 125 * 2 ^ 25
regroup v = mul_left_comm 2 v (2 ^ 149) ∙ sym (mul_assoc v (2 ^ 125) (2 ^ 25))

closest : (s : ℕ) → Closest s (rounded s)
closest s b h =
    let w = round_nearest binary32 (2 * s + 1) (2 ^ 25) (pow_pos 25) h.float b h.holds h.value in
    let e = regroup (2 * s + 1) in (
      λ (l : b < rounded s). le_of_mul-le-mul_right (le_trans (w.0 l) (le_of_eq e)) (pow_pos 25),
      λ (l : rounded s < b). le_of_mul-le-mul_right (le_trans (le_of_eq (sym e)) (w.1 l)) (pow_pos 25),
    )

-- so it does not overflow: +0.0 is no nearer
at_most : (s : ℕ) → rounded s ≤ (2 * s + 1) * 2 ^ 125
at_most s =
    let zero = held 0 0 (lit< tt) (lit≤ tt) in
    ⊎_elim (λ (e : rounded s ≡ 0). le_trans (le_of_eq e) zero-le)
    (λ (l : 0 < rounded s). le_trans (le-add_right (rounded s) 0) ((closest s 0 zero).0 l)) (eq-zero-or-pos (rounded s))

rounded_value : (s : ℕ) → s < 2 ^ 32 → HasValue (round binary32 false (2 * s + 1) (2 ^ 25)) false (rounded s) (2 ^ 149)
rounded_value s h =
    let l : 2 * s + 1 ≤ 2 ^ 33 = omega arith in
    round_val binary32 (2 * s + 1) (2 ^ 25) (lt_of_le_of_lt (le_trans (at_most s) (mul-le-mul_right (2 ^ 125) l)) (lit< tt))

-- ---- a steps and c steps, with half steps of u units: their sum in half steps against s
low_side : (a c s u : ℕ) → 0 < u → a * (2 * u) + c * (2 * u) ≤ (2 * s + 1) * u → a + c ≤ s
low_side a c s u U h =
    let k : 2 * (a + c) * u ≤ (2 * s + 1) * u = omega arith in
    let l = le_of_mul-le-mul_right k U in
    omega arith

high_side : (a c s u : ℕ) → 0 < u → (2 * s + 1) * u ≤ a * (2 * u) + c * (2 * u) → s + 1 ≤ a + c
high_side a c s u U h =
    let k : (2 * s + 1) * u ≤ 2 * (a + c) * u = omega arith in
    let l = le_of_mul-le-mul_right k U in
    omega arith

-- the square of the sum, in units
square_sum : (a c u : ℕ) → (a * u + c * u) * (a * u + c * u) ≡ (a + c) * (a + c) * (u * u)
square_sum a c u = omega arith

units_low : (n a c : ℕ) → (a + c) * (a + c) < n * 2 ^ 48 → (a * 2 ^ 126 + c * 2 ^ 126) * (a * 2 ^ 126 + c * 2 ^ 126) < n * 2 ^ 300
units_low n a c h =
    lt_of_le_of_lt (le_of_eq (square_sum a c (2 ^ 126)))
    (lt_of_lt_of_le (mul-lt-mul_of_pos_right h (pow_pos 252)) (le_of_eq (mul_assoc n (2 ^ 48) (2 ^ 252))))

units_high : (n a c : ℕ) → n * 2 ^ 48 < (a + c) * (a + c) → n * 2 ^ 300 < (a * 2 ^ 126 + c * 2 ^ 126) * (a * 2 ^ 126 + c * 2 ^ 126)
units_high n a c h =
    lt_of_le_of_lt (le_of_eq (sym (mul_assoc n (2 ^ 48) (2 ^ 252))))
    (lt_of_lt_of_le (mul-lt-mul_of_pos_right h (pow_pos 252)) (le_of_eq (sym (square_sum a c (2 ^ 126)))))

-- ---- below 1.0, which is 2 ^ 24 half steps of u units
under_one : (a s u : ℕ) → 2 ^ 24 ≤ s → a < 2 ^ 24 * u → (2 * s + 1) * u ≤ a + 2 ^ 24 * u → ⊥
under_one a s u S l h =
    let x : (2 * 2 ^ 24 + 1) * u ≤ (2 * s + 1) * u = mul-le-mul_right u (omega arith) in
    omega arith

twice : (a b u : ℕ) → u ≡ a → b < u → a + b < 2 * u
twice a b u e l = omega arith

-- ---- the root of n lies from s and below s + 1 half steps
module _ (n s : ℕ) (N : 1 ≤ n) (S : s < 2 ^ 32) (from : s * s ≤ n * 2 ^ 48) (to : n * 2 ^ 48 < (s + 1) * (s + 1)) where
  -- a steps are an f32 nearest to s + 1/2 half steps, and c steps another f32
  module _ (a : ℕ) (near : Closest s (a * 2 ^ 126)) where
    sum_low : (c : ℕ) → Held (c * 2 ^ 126) → c < a → a + c ≤ s
    sum_low c h l = low_side a c s (2 ^ 125) (pow_pos 125) ((near (c * 2 ^ 126) h).0 (mul-lt-mul_of_pos_right l (pow_pos 126)))

    sum_high : (c : ℕ) → Held (c * 2 ^ 126) → a < c → s + 1 ≤ a + c
    sum_high c h l = high_side a c s (2 ^ 125) (pow_pos 125) ((near (c * 2 ^ 126) h).1 (mul-lt-mul_of_pos_right l (pow_pos 126)))

    -- the root is not the midpoint: whole in half steps, it would be a whole number t, which is an f32 nearer than a
    no_meeting : (c : ℕ) → c < a → a + c ≡ s → s * s ≡ n * 2 ^ 48 → ⊥
    no_meeting c l e f =
        let r = root_multiple 24 s n f in
        let t = r.0 in
        let w : s ≡ t * 2 ^ 24 = r.1 in
        let exact : Held (t * 2 ^ 23 * 2 ^ 126) = subst Held (sym (mul_assoc t (2 ^ 23) (2 ^ 126))) (held t 149 (omega arith) (lit≤ tt)) in
        let k = sum_low (t * 2 ^ 23) exact (omega arith) in
        omega arith

    square_low_lem : (c : ℕ) → Held (c * 2 ^ 126) → c < a → (a + c) * (a + c) < n * 2 ^ 48
    square_low_lem c h l = ⊎_elim at_s (λ (g : a + c < s). lt_of_lt_of_le (square_lt (a + c) s g) from) (eq-or-lt_of_le (sum_low c h l))
      where
        at_s : a + c ≡ s → (a + c) * (a + c) < n * 2 ^ 48
        at_s e =
            lt_of_le_of_lt (le_of_eq (ap (λ (x : ℕ). x * x) e))
            (⊎_elim (λ (f : s * s ≡ n * 2 ^ 48). absurd (no_meeting c l e f)) (λ (g : s * s < n * 2 ^ 48). g) (eq-or-lt_of_le from))

    nearer_step : (c : ℕ) → Held (c * 2 ^ 126) → Nearer n (a * 2 ^ 126) (c * 2 ^ 126)
    nearer_step c h = (
      λ (l : c * 2 ^ 126 < a * 2 ^ 126). units_low n a c (square_low_lem c h (lt_of_mul-lt-mul_right (2 ^ 126) l)),
      λ (l : a * 2 ^ 126 < c * 2 ^ 126).
          let g = sum_high c h (lt_of_mul-lt-mul_right (2 ^ 126) l) in units_high n a c (lt_of_lt_of_le to (mul-le-mul g g)),
    )

  -- the same in units: a is an f32 nearest to s + 1/2 half steps, and b any f32
  module _ (a : ℕ) (near : Closest s a) (own : Held a) where
    from_one : 2 ^ 149 ≤ a
    from_one =
        let l : 2 ^ 24 * 2 ^ 24 ≤ n * 2 ^ 48 = omega arith in
        let w : 2 ^ 24 ≤ s = le_of_suc-le-suc (rw add-one at (root_lt (n * 2 ^ 48) (2 ^ 24) (s + 1) l to)) in
        le_of_suc-le-suc (lt_of_not-le (λ (g : a < 2 ^ 149). under_one a s (2 ^ 125) w g ((near (2 ^ 149) one).1 g)))

    steps : (c : ℕ) × (a ≡ c * 2 ^ 126)
    steps =
        ⊎_elim (λ (x : (c : ℕ) × (a ≡ c * 2 ^ 126)). x) (λ (x : (0 < 126) × (a < 2 ^ 149)). absurd (not-le_of_lt x.1 from_one))
        (stepped_of binary32 126 own.float a own.holds own.value)

    nearer_whole : (c : ℕ) → Held (c * 2 ^ 126) → Nearer n a (c * 2 ^ 126)
    nearer_whole c h =
        subst (λ (x : ℕ). Nearer n x (c * 2 ^ 126)) (sym steps.1) (nearer_step steps.0 (subst (Closest s) steps.1 near) c h)

    -- what lies below 1.0 is further off than 1.0
    nearer_small : (b : ℕ) → b < 2 ^ 149 → Nearer n a b
    nearer_small b l = (
      λ (g : b < a). ⊎_elim at_one past_one (eq-or-lt_of_le from_one),
      λ (g : a < b). absurd (not-le_of_lt (lt_trans g l) from_one),
    )
      where
        at_one : 2 ^ 149 ≡ a → (a + b) * (a + b) < n * 2 ^ 300
        at_one e = lt_of_lt_of_le (square_lt (a + b) (2 ^ 150) (twice a b (2 ^ 149) e l)) (mul-le-mul_right (2 ^ 300) N)

        past_one : 2 ^ 149 < a → (a + b) * (a + b) < n * 2 ^ 300
        past_one k =
            let x : a + b ≤ a + 2 ^ 149 = add-le-add (le_refl a) (le_of_lt l) in
            lt_of_le_of_lt (mul-le-mul x x) ((nearer_whole (2 ^ 23) one).0 k)

    nearer : (b : ℕ) → Held b → Nearer n a b
    nearer b h =
        ⊎_elim (λ (x : (c : ℕ) × (b ≡ c * 2 ^ 126)). subst (Nearer n a) (sym x.1) (nearer_whole x.0 (subst Held x.1 h)))
        (λ (x : (0 < 126) × (b < 2 ^ 149)). nearer_small b x.1) (stepped_of binary32 126 h.float b h.holds h.value)

-- ---- R11.3: the root of a whole n from 1 to 41,666 is the f32 nearest to the exact root; no midpoint is met
pub root_nearest : (n : ℕ) → 1 ≤ n → n ≤ 41666 → NearestRoot n (root_of n)
root_nearest n h k =
    let l : n * 2 ^ 48 < 2 ^ 64 = omega arith in
    let s = whole_root (n * 2 ^ 48) in
    let S = whole_root_below (n * 2 ^ 48) l in
    let r = whole_root_is (n * 2 ^ 48) l in
    let root = round binary32 false (2 * s + 1) (2 ^ 25) in
    let t : T (fits binary32 root) = round-fits binary32 false (2 * s + 1) (2 ^ 25) in
    let v = rounded_value s S in
    let own : Held (rounded s) = record { float = root; holds = t; value = v } in
    subst (NearestRoot n) (sym (root_within n h k))
    (record {
      held = t;
      size = rounded s;
      value = v;
      nearest = λ y b t' v'.
          nearer n s h S r.0 r.1 (rounded s) (closest s) own b (record { float = y; holds = t'; value = v' });
    })

-- no two sizes are nearest
pub nearest_only : (n : ℕ) (x y : Float) (p : NearestRoot n x) (q : NearestRoot n y) → p.size ≡ q.size
nearest_only n x y p q = le_antisymm (no_less x y p q) (no_less y x q p)
  where
    no_less : (x y : Float) (p : NearestRoot n x) (q : NearestRoot n y) → p.size ≤ q.size
    no_less x y p q =
        le_of_suc-le-suc
        (lt_of_not-le
        (λ (g : q.size < p.size).
        let high : n * 2 ^ 300 < (q.size + p.size) * (q.size + p.size) = (q.nearest x p.size p.held p.value).1 g in
        let low = (p.nearest y q.size q.held q.value).0 g in
        lt_irrefl (n * 2 ^ 300) (lt_trans (rw (add_comm q.size p.size) at high) low)))
