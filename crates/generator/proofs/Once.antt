-- A number of at most 34 digits over 2 ^ 25, by two exact quotients and one rounded sum.
use Rattle.std.proofs.Common.{◌≡◌, ℕ, ◌+◌, ◌*◌, ◌/◌, ◌%◌, ◌^◌, ◌<◌, ◌≤◌, true, false, pos, sym, refl, ap, ◌∙◌, subst, true≢false, le_trans, lt_of_lt_of_le, le_of_lt, mul_assoc, mul-le-mul_left, mul-lt-mul_of_pos_right, mul-pos, one-mul, div-add-mod', arith, lit<, lit≤, pow_pos, pow_mono, pow-add}
use lib.Ieee.{Float, nan, inf, fin, Format, binary32, up, down, round, add, div, of_int}
use lib.Ieee.Fits.{down_pos}
use lib.Ieee.Exact.{HasValue, round_exact}
use lib.Ieee.Back.{round_whole}
use lib.Ieee.Scale.{round_same}

-- ---- a quotient by 2 ^ i and a sum, of values that are not negative, by any fractions that they equal
div_has : (f : Format) (x : Float) (a c i : ℕ) → 0 < c → HasValue x false a c → div f x (fin false 1 (pos i)) ≡ round f false a (c * 2 ^ i)
unfolding div
div_has f nan a c i C h = absurd h
div_has f (inf s) a c i C h = absurd h
div_has f (fin true m e) a c i C h = absurd (true≢false h.0)
div_has f (fin false m e) a c i C h =
    let k = ap (λ (z : ℕ). z * 2 ^ i) h.1 in
    let D : 0 < 1 * 2 ^ i * down e = mul-pos (mul-pos (lit< tt) (pow_pos i)) (down_pos e) in
    round_same f false (m * up e * 1) (1 * 2 ^ i * down e) a (c * 2 ^ i) D (mul-pos C (pow_pos i)) (omega arith)

cross : (x y p q a b c d : ℕ) → x * c ≡ a * p → y * d ≡ b * q → (x * q + y * p) * (c * d) ≡ (a * d + b * c) * (p * q)
cross x y p q a b c d h k =
    let u = ap (λ (z : ℕ). z * (q * d)) h in
    let v = ap (λ (z : ℕ). z * (p * c)) k in
    omega arith

add_has : (f : Format) (x y : Float) (a c b d : ℕ) → 0 < c → 0 < d → HasValue x false a c → HasValue y false b d
    → add f x y ≡ round f false (a * d + b * c) (c * d)
unfolding add
add_has f nan y a c b d C D h k = absurd h
add_has f (inf s) y a c b d C D h k = absurd h
add_has f (fin true m e) y a c b d C D h k = absurd (true≢false h.0)
add_has f (fin false m e) nan a c b d C D h k = absurd k
add_has f (fin false m e) (inf s) a c b d C D h k = absurd k
add_has f (fin false m e) (fin true n g) a c b d C D h k = absurd (true≢false k.0)
add_has f (fin false m e) (fin false n g) a c b d C D h k =
    round_same f false (m * up e * down g + n * up g * down e) (down e * down g) (a * d + b * c) (c * d)
    (mul-pos (down_pos e) (down_pos g)) (mul-pos C D) (cross (m * up e) (n * up g) (down e) (down g) a b c d h.1 k.1)

-- ---- n / 2 ^ i is exact, for an n of at most 24 digits
over : (n i j : ℕ) → n < 2 ^ 24 → j + i ≡ 149 → HasValue (div binary32 (of_int binary32 (pos n)) (fin false 1 (pos i))) false n (2 ^ i)
unfolding of_int
over n i j h e =
    let w : 2 ^ 149 ≡ 2 ^ j * 2 ^ i = sym (ap (λ (z : ℕ). 2 ^ z) e) ∙ pow-add 2 j i in
    let l : j ≤ 149 = omega arith in
    let u = lt_of_lt_of_le (mul-lt-mul_of_pos_right h (pow_pos j)) (le_trans (mul-le-mul_left (2 ^ 24) (pow_mono l)) (lit≤ tt)) in
    let q = div_has binary32 (round binary32 false n 1) n 1 i (lit< tt) (round_whole binary32 false n (le_of_lt h)) in
    subst (λ (x : Float). HasValue x false n (2 ^ i)) (sym (q ∙ ap (round binary32 false n) (one-mul (2 ^ i))))
    (round_exact binary32 false n (2 ^ i) n j (pow_pos i) h u (ap (λ (z : ℕ). n * z) w ∙ sym (mul_assoc n (2 ^ j) (2 ^ i))))

whole : (h l v : ℕ) → h * 2 ^ 16 + l ≡ v → (h * 2 ^ 25 + l * 2 ^ 9) * 2 ^ 25 ≡ v * (2 ^ 9 * 2 ^ 25)
whole h l v e = omega arith

pub once : (v : ℕ) → v < 2 ^ 34
    → add binary32 (div binary32 (of_int binary32 (pos (v / 2 ^ 16))) (fin false 1 (pos 9)))
    (div binary32 (of_int binary32 (pos (v % 2 ^ 16))) (fin false 1 (pos 25)))
    ≡ round binary32 false v (2 ^ 25)
once v h =
    let a = v / 2 ^ 16 in
    let b = v % 2 ^ 16 in
    let x = div binary32 (of_int binary32 (pos a)) (fin false 1 (pos 9)) in
    let y = div binary32 (of_int binary32 (pos b)) (fin false 1 (pos 25)) in
    let e = whole a b v (div-add-mod' v (2 ^ 16)) in
    add_has binary32 x y a (2 ^ 9) b (2 ^ 25) (pow_pos 9) (pow_pos 25) (over a 9 140 (omega arith) refl) (over b 25 124 (omega arith) refl)
    ∙ round_same binary32 false (a * 2 ^ 25 + b * 2 ^ 9) (2 ^ 9 * 2 ^ 25) v (2 ^ 25) (lit< tt) (pow_pos 25) e
