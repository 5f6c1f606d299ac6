-- A file whose header's text lies within it. Assumes nothing.
use Prim.Native.Nat.{ℕ, ◌≤◌, ◌<◌}
use native.Mathlib.Omega.{arith}
use mathlib.Core.Path.{◌≡◌, sym, ◌∙◌}
use mathlib.Core.Bool.{Bool, true, false, and-false, and-eq-true_iff}
use mathlib.Core.List.{List}
use lib.ListN.{length, take}
use borrow.Author.Tests.{leb-true, lt-leb}
use Rattle.std.specs.Prelude.{Ok}
use Rattle.refusals.specs.Refusals.{◌otherwise◌, outcome_of}
use Rattle.refusals.proofs.Firsts.{test_passes, not_refused, both_pass}
use Rattle.npy_tokens.specs.Tokens.{same}
use Rattle.npy_header.specs.Reading.{header_of, header_fault}
use Rattle.npy_header.specs.File.{magic, text_in, body_at, is_framed, file_fault}

pub framed_inside : (bs : List ℕ) → is_framed bs ≡ true → body_at bs ≤ length bs
unfolding is_framed
framed_inside bs e = leb-true (body_at bs) (length bs) ((and-eq-true_iff (same (take 8 bs) magic) _).0 e).1

-- a file without room for a length
pub too_short : (bs : List ℕ) → length bs < 10 → is_framed bs ≡ false
unfolding is_framed
too_short bs h = rw (lt-leb (body_at bs) (length bs) (omega arith)) (and-false (same (take 8 bs) magic))

-- a file that is not refused
pub accepted_inside : (bs : List ℕ) (framed : Bool) → framed ≡ is_framed bs → outcome_of (framed otherwise 29) 0 ≡ Ok tt
    → body_at bs ≤ length bs
accepted_inside bs framed e a = framed_inside bs (sym e ∙ test_passes framed 28 (not_refused (framed otherwise 29) 0 a))

pub not_refused_inside : (shape bs : List ℕ) → outcome_of (file_fault shape bs) 0 ≡ Ok tt → body_at bs ≤ length bs
unfolding file_fault
not_refused_inside shape bs a =
    framed_inside bs
    (test_passes (is_framed bs) 28
    (both_pass (is_framed bs otherwise 29) (header_fault shape (header_of (text_in bs))) (not_refused (file_fault shape bs) 0 a)).0)
