-- Whole numbers: their reader finds them where no digit follows, and what it finds is one. Assumes nothing.
use Prim.Native.Nat.{ℕ}
use mathlib.Core.Path.{◌≡◌, refl, ap, ◌∙◌}
use mathlib.Core.Bool.{Bool, true, false, cond, false≢true}
use mathlib.Core.List.{List, [], ◌∷◌, ◌++◌}
use borrow.Author.Tests.{ne_eqb}
use Rattle.npy_tokens.specs.declared.Class.TheVariants.{Space, Digit}
use Rattle.npy_tokens.specs.Tokens.{belongs, behind, plain, value_of, digits_in, number_in, after_number, begins_with}
use Rattle.npy_header.specs.Grammar.{Many, Decimal, Number}
use Rattle.npy_grammar.proofs.Pieces.{Reads, retold, both, Filled}
use Rattle.npy_grammar.proofs.Spans.{Stops, behind_is, front_is, span}
use Rattle.npy_grammar.proofs.Marks.{apart, past_spaces}

-- ---- found where they stand
-- a number begins with a digit: no space, and no parenthesis
begins_otherwise : (c n : ℕ) {m r : List ℕ} → belongs Digit c ≡ false → Reads (Decimal n) m r → begins_with c m ≡ false
unfolding plain Many begins_with
begins_otherwise c n {m} {r} e p =
    ap (begins_with c) p.split ∙ go p.piece p.holds.digits p.holds.written
  where
    go : (ds : List ℕ) → Many Digit ds → plain ds ≡ true → begins_with c (ds ++ r) ≡ false
    go [] h w = absurd (false≢true w)
    go (d ∷ ds) h w = ne_eqb d c (apart (belongs Digit) d c h.0 e)

no_space : (m : List ℕ) → begins_with 32 m ≡ false → Stops Space m
unfolding begins_with belongs
no_space [] e = tt
no_space (b ∷ m) e = e

module _ {n : ℕ} {bs r : List ℕ} (p : Reads (Number n) bs r) where
  decimal : Reads (Decimal n) (behind Space bs) r
  unfolding belongs
  decimal = past_spaces p (λ m q. no_space m (begins_otherwise 32 n refl q))

  abbrev digits : Reads (Many Digit) (behind Space bs) r
  digits = retold (Many Digit) decimal decimal.holds.digits

  pub number_no_close : begins_with 41 (behind Space bs) ≡ false
  unfolding belongs
  number_no_close = begins_otherwise 41 n refl decimal

  digits_are : Stops Digit r → digits_in bs ≡ decimal.piece
  digits_are s = front_is Digit digits s

  pub number_is : Stops Digit r → number_in bs ≡ n
  number_is s = ap value_of (digits_are s) ∙ decimal.holds.value

  pub after_number_lem : Stops Digit r → after_number bs ≡ r
  after_number_lem s = rw (digits_are s, decimal.holds.written) (behind_is Digit digits s)

-- ---- what is found is one
decimal_at : (bs : List ℕ) (t : Bool) → plain (digits_in bs) ≡ t → Filled (cond t (behind Digit (behind Space bs)) [])
    → Reads (Decimal (number_in bs)) (behind Space bs) (cond t (behind Digit (behind Space bs)) [])
decimal_at bs true e f =
    let p = span Digit (behind Space bs) in
    retold (Decimal (number_in bs)) p (record { digits = p.holds; written = e; value = refl })
decimal_at bs false e f = absurd f

pub number_at : (bs : List ℕ) → Filled (after_number bs) → Reads (Number (number_in bs)) bs (after_number bs)
number_at bs h = both (span Space bs) (decimal_at bs (plain (digits_in bs)) refl h)
