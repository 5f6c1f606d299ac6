-- How many outputs rows have. Assumes nothing.
use Rattle.std.specs.Prelude.{Some, None}
use Rattle.std.specs.declared.option.Option.{Option}
use Rattle.std.specs.Option.{SomeIff, option_eq}
use mathlib.Core.Path.{◌≡◌, refl, sym, ◌∙◌}
use mathlib.Core.Bool.{Bool, true, false}
use Prim.Native.Nat.{ℕ, ◌*◌, ◌<◌}
use native.Mathlib.Omega.{arith}
use lib.Dec.{eqb}
use borrow.Author.Tests.{eq-eqb, ne_eqb, eqb-true, eqb-false}

-- ---- m is n times v, which is more than a word where the product is none
pub same_product : (n v m : ℕ) (o : Option ℕ) → m < 18446744073709551616 → SomeIff o (n * v < 18446744073709551616) (n * v)
    → option_eq eqb o (Some m) ≡ eqb m (n * v)
same_product n v m None h s = sym (ne_eqb m (n * v) (λ (e : m ≡ n * v). s (omega (arith, e))))
same_product n v m (Some x) h s = rw s.1 (go (eqb m (n * v)) refl)
  where
    go : (t : Bool) → eqb m (n * v) ≡ t → eqb (n * v) m ≡ eqb m (n * v)
    go true e = eq-eqb (n * v) m (sym (eqb-true m (n * v) e)) ∙ sym e
    go false e = ne_eqb (n * v) m (λ (q : n * v ≡ m). eqb-false m (n * v) e (sym q)) ∙ sym e
