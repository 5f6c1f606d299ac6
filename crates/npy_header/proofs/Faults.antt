-- 29 or 30 of a header's text, from what was found of its entries. Assumes nothing.
use Prim.Native.Nat.{ℕ}
use mathlib.Core.Path.{◌≡◌, refl, sym, ap}
use mathlib.Core.Bool.{Bool, true, false, not}
use mathlib.Core.List.{List}
use mathlib.Core.Option.{Option as Perhaps, none, some}
use lib.ListN.{drop}
use Rattle.refusals.specs.Refusals.{◌otherwise◌, ◌then◌}
use Rattle.npy_tokens.specs.Tokens.{same}
use Rattle.npy_header.specs.declared.entries.Found.{Found}
use Rattle.npy_header.specs.Dictionary.{single_word}
use Rattle.npy_header.specs.Reading.{entries_of, is_closed, gathered, header_of, asked, header_fault}
use Rattle.npy_header.specs.Steps.{answered, found_fault, Follows}

module _ (sizes : List ℕ) where
  gathered_fault : (d : Perhaps (List ℕ)) (o : Perhaps Bool) (s : Perhaps (List ℕ))
      → header_fault sizes (gathered d o s)
      ≡ found_fault (answered (λ (x : List ℕ). same x single_word) d) (answered not o) (answered (λ (x : List ℕ). same x sizes) s)
  unfolding header_fault asked
  gathered_fault none o s = refl
  gathered_fault (some d) none s = refl
  gathered_fault (some d) (some o) none = refl
  gathered_fault (some d) (some o) (some s) = refl

-- a text that is not closed is no header
pub judged : (text sizes : List ℕ) (f : Found) → Follows text sizes (entries_of text) f
    → header_fault sizes (header_of text)
    ≡ (is_closed (drop f.next text) otherwise 29 then found_fault f.descr f.order f.shape)
unfolding header_of header_fault
judged text sizes f w =
    by_test (is_closed (drop f.next text)) (ap is_closed (sym w.place.rest))
  where
    by_test : (t : Bool) → is_closed (entries_of text).rest ≡ t
        → header_fault sizes (header_of text) ≡ (t otherwise 29 then found_fault f.descr f.order f.shape)
    by_test false e = rw e
    by_test true e =
        rw (e, w.descr, w.order, w.shape)
        (gathered_fault sizes (entries_of text).descr (entries_of text).fortran_order (entries_of text).shape)
