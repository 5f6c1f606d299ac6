-- What a file is refused for, one check after the other. Assumes nothing.
use Rattle.std.specs.Prelude.{Ok}
use Prim.Native.Nat.{ℕ, zero, suc, ◌+◌, ◌*◌, ◌<◌}
use native.Mathlib.Nat.{mul_assoc, mul_comm}
use native.Mathlib.Omega.{arith}
use mathlib.Core.Path.{◌≡◌, sym, ap, ◌∙◌}
use mathlib.Core.List.{List, [], ◌∷◌}
use lib.Dec.{eqb}
use lib.ListN.{length, get_or}
use borrow.Author.Tests.{eqb-true}
use Rattle.floats.specs.Sums.{all_finite}
use Rattle.refusals.specs.Refusals.{◌otherwise◌, ◌then◌, outcome_of}
use Rattle.refusals.proofs.Firsts.{both_pass, test_passes, not_refused}
use Rattle.words.specs.Words.{floats_in}
use Rattle.floats.proofs.Loops.{rest}
use Rattle.npy_header.specs.Steps.{Small}
use Rattle.npy_header.proofs.Frames.{not_refused_inside}
use Rattle.npy_header.specs.File.{body_at, file_fault}
use Rattle.npy_reading.specs.Reader.{body_in, bytes_fault}

-- an accepted file is as long as its shape says
module _ (shape : List ℕ) (n c : ℕ) (bs : List ℕ) where
  pub accepted_whole : bytes_fault shape n c bs ≡ 0 → length bs ≡ body_at bs + n * (4 * c)
  unfolding bytes_fault
  accepted_whole e =
      let long = eqb (length bs) (body_at bs + n * (4 * c)) otherwise 29 in
      let sound = all_finite (floats_in (body_in bs) (n * c)) otherwise 11 in
      let rest = both_pass (file_fault shape bs) (long then sound) e in
      eqb-true (length bs) (body_at bs + n * (4 * c))
      (test_passes (eqb (length bs) (body_at bs + n * (4 * c))) 28 (both_pass long sound rest.1).0)

  pub accepted_length : outcome_of (bytes_fault shape n c bs) 0 ≡ Ok tt → length bs ≡ body_at bs + n * (4 * c)
  accepted_length e = accepted_whole (not_refused _ 0 e)

-- as many bytes as words
pub in_words : (n c : ℕ) → n * (4 * c) ≡ n * c * 4
in_words n c = ap (λ (m : ℕ). n * m) (mul_comm 4 c) ∙ sym (mul_assoc n c 4)

-- ---- what is behind a header that is not refused
pub ruleset bodies = (not_refused_inside, rest)
