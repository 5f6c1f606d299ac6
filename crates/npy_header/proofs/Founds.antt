-- What was found of the entries follows what is read of them, value by value. Assumes nothing.
use Rattle.std.specs.Prelude.{Some}
use Prim.Native.Nat.{ℕ}
use native.Mathlib.Omega.{arith}
use mathlib.Core.Path.{◌≡◌, sym, ap, ◌∙◌}
use mathlib.Core.Bool.{Bool, false, false≢true}
use mathlib.Core.List.{List}
use mathlib.Core.Option.{Option as Perhaps, none, some}
use lib.Seq.{drop-length}
use Rattle.std.specs.Option.{is_some}
use Rattle.npy_tokens.specs.Tokens.{string_in, after_string, same}
use Rattle.npy_tokens.specs.Places.{Place}
use Rattle.npy_header.specs.declared.entries.Found.{Found}
use Rattle.npy_header.specs.Dictionary.{single_word}
use Rattle.npy_header.specs.Reading.{Read, failed, with_descr}
use Rattle.npy_header.specs.Steps.{answered, Follows, Fails}

module _ (text sizes : List ℕ) (s : Read) (f : Found) (w : Follows text sizes s f) where
  pub fails : (r : Found) → Fails text f r → Follows text sizes (failed s) r
  fails r e = record {
    place = record { inside = omega (arith, e.next); rest = rw e.next (drop-length text) };
    descr = e.descr ∙ w.descr;
    order = e.order ∙ w.order;
    shape = e.shape ∙ w.shape;
  }

  module _ (bs : List ℕ) where
    -- ---- a key that was not there is taken, with the test of its value
    module _ (next : ℕ) (test : Bool) where
      pub takes_descr : is_some f.descr ≡ false → Place text next (after_string bs) → test ≡ same (string_in bs) single_word
          → Follows text sizes (with_descr s.descr s bs)
          (record { next = next; descr = Some test; order = f.order; shape = f.shape })
      takes_descr t p v = by_value s.descr w.descr
        where
          by_value : (o : Perhaps (List ℕ)) → f.descr ≡ answered (λ (x : List ℕ). same x single_word) o
              → Follows text sizes (with_descr o s bs)
              (record { next = next; descr = Some test; order = f.order; shape = f.shape })
          by_value none h = record { place = p; descr = ap Some v; order = w.order; shape = w.shape }
          by_value (some x) h = absurd (false≢true (sym t ∙ ap is_some h))
