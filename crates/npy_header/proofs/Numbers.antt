-- The numbers of a shape one by one: a bound on their count that is large enough does not show. Assumes nothing.
use Prim.Native.Nat.{ℕ, zero, suc, ◌<◌}
use native.Mathlib.Nat.{le_refl}
use native.Mathlib.Omega.{arith}
use mathlib.Core.Path.{◌≡◌, refl, ap}
use mathlib.Core.Bool.{Bool, true, false, cond}
use mathlib.Core.List.{List, [], ◌∷◌}
use lib.ListN.{length}
use Rattle.npy_tokens.specs.declared.Class.TheVariants.{Space}
use Rattle.npy_tokens.specs.Tokens.{behind, after_token, begins_with, number_in, after_number}
use Rattle.npy_tokens.proofs.Readings.{after_number_no_longer, token_shorter}
use Rattle.npy_header.specs.Reading.{numbers_to, after_numbers_to, numbers_in, after_numbers}

-- behind a number and the comma that follows it
abbrev pub further : List ℕ → List ℕ
further bs = after_token 44 (after_number bs)

abbrev pub comma_after : List ℕ → Bool
comma_after bs = begins_with 44 (behind Space (after_number bs))

pub further_shorter : (bs : List ℕ) → comma_after bs ≡ true → length (further bs) < length bs
further_shorter bs e = omega (arith, token_shorter 44 (after_number bs) e, after_number_no_longer bs)

-- ---- with any bound above the length
module _ {A : Type 0} (k m : ℕ) (bs : List ℕ) (f : ℕ → List ℕ → A) (h : length bs < suc k) (l : length bs < suc m)
    (more : length (further bs) < k → length (further bs) < m → f k (further bs) ≡ f m (further bs)) where
  only_behind_comma : (t : Bool) → comma_after bs ≡ t → (other : A)
      → cond t (f k (further bs)) other ≡ cond t (f m (further bs)) other
  only_behind_comma true e other =
      let shorter = further_shorter bs e in
      more (omega arith) (omega arith)
  only_behind_comma false e other = refl

numbers_enough : (k m : ℕ) (bs : List ℕ) → length bs < k → length bs < m → numbers_to k bs ≡ numbers_to m bs
unfolding numbers_to
numbers_enough zero m bs h l = absurd (omega (arith, h))
numbers_enough (suc k) zero bs h l = absurd (omega (arith, l))
numbers_enough (suc k) (suc m) bs h l =
    ap (λ (ns : List ℕ). cond (begins_with 41 (behind Space bs)) [] (number_in bs ∷ ns))
    (only_behind_comma k m bs numbers_to h l (numbers_enough k m (further bs)) (comma_after bs) refl [])

after_enough : (k m : ℕ) (bs : List ℕ) → length bs < k → length bs < m → after_numbers_to k bs ≡ after_numbers_to m bs
unfolding after_numbers_to
after_enough zero m bs h l = absurd (omega (arith, h))
after_enough (suc k) zero bs h l = absurd (omega (arith, l))
after_enough (suc k) (suc m) bs h l =
    ap (λ (r : List ℕ). cond (begins_with 41 (behind Space bs)) (after_token 41 bs) r)
    (only_behind_comma k m bs after_numbers_to h l (after_enough k m (further bs)) (comma_after bs) refl
    (after_token 41 (after_number bs)))

-- ---- the parenthesis alone; a number and a comma; a number and no comma
module _ (bs : List ℕ) where
  pub close_numbers : begins_with 41 (behind Space bs) ≡ true → numbers_in bs ≡ []
  unfolding numbers_to
  close_numbers e = rw e

  pub close_rest : begins_with 41 (behind Space bs) ≡ true → after_numbers bs ≡ after_token 41 bs
  unfolding after_numbers_to
  close_rest e = rw e

  module _ (o : begins_with 41 (behind Space bs) ≡ false) where
    module _ (e : comma_after bs ≡ true) where
      pub comma_numbers : numbers_in bs ≡ number_in bs ∷ numbers_in (further bs)
      unfolding numbers_to
      comma_numbers =
          rw (o, e)
          (ap (λ (ns : List ℕ). number_in bs ∷ ns)
          (numbers_enough (length bs) (suc (length (further bs))) (further bs) (further_shorter bs e) (le_refl _)))

      pub comma_rest : after_numbers bs ≡ after_numbers (further bs)
      unfolding after_numbers_to
      comma_rest =
          rw (o, e)
          (after_enough (length bs) (suc (length (further bs))) (further bs) (further_shorter bs e) (le_refl _))

    pub last_numbers : comma_after bs ≡ false → numbers_in bs ≡ number_in bs ∷ []
    unfolding numbers_to
    last_numbers e = rw (o, e)

    pub last_rest : comma_after bs ≡ false → after_numbers bs ≡ after_token 41 (after_number bs)
    unfolding after_numbers_to
    last_rest e = rw (o, e)
