-- A header's pieces put one behind the other. Assumes nothing.
use Prim.Native.Nat.{ℕ, ◌+◌, ◌-◌, ◌≤◌}
use native.Mathlib.Omega.{arith}
use mathlib.Core.Path.{◌≡◌, sym, ◌∙◌}
use mathlib.Core.List.{List, [], ◌∷◌, ◌++◌}
use lib.ListN.{length, drop, replicate, length-replicate}
use Rattle.text.specs.Appended.{Appended}
use Rattle.text.proofs.Appends.{both, retold}
use Rattle.npy_front.specs.Front.{dictionary_text, header_bytes}
use Rattle.npy_front.proofs.Lengths.{Fits, header_is, header_size}

-- ---- up to a place
pub spaces_end : {out out' : List ℕ} {at to next : ℕ} → at ≤ to → Appended out at (replicate (to - at) 32) out' next
    → next ≡ to
spaces_end {at = at} {to} h p = omega (arith, p.place, length-replicate {A = ℕ} (to - at) 32)

-- ---- all of them
module _ {file f1 f2 f3 f4 : List ℕ} {n1 n2 n3 n4 : ℕ} (a b c : ℕ) (f : Fits a b c) where
  pub pieces : Appended file 0 (147 ∷ 78 ∷ 85 ∷ 77 ∷ 80 ∷ 89 ∷ 1 ∷ 0 ∷ 118 ∷ 0 ∷ []) f1 n1
      → Appended f1 n1 (dictionary_text a b c) f2 n2 → Appended f2 n2 (replicate (127 - n2) 32) f3 n3
      → Appended f3 n3 (10 ∷ []) f4 n4 → f4 ≡ header_bytes a b c ++ drop 128 file
  pieces p q r s =
      let place : n2 ≡ 10 + length (dictionary_text a b c) = q.place ∙ rw p.place in
      let whole : Appended file 0 (header_bytes a b c) f4 n4 =
      retold (both p (both q (both r s))) (rw place (sym (header_is a b c f))) in
      whole.bytes ∙ rw (header_size a b c f)
