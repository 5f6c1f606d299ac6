-- A test of many places: over a range with no way out, and block by block. Assumes nothing.
use Rattle.std.proofs.Common.{◌≡◌, sym, ◌∙◌, Bool, true, ◌&&◌, ℕ, zero, suc, ◌+◌, ◌*◌}
use Rattle.std.proofs.Math.Bool.{and-true, and_assoc}
use Rattle.std.proofs.Math.Nat.{suc-mul, zero-mul, add-zero, add-suc}
use Rattle.std.specs.List.{fold, range_with_len}
use Rattle.floats.specs.Sums.{all_to}
use Rattle.floats.proofs.Loops.{fold_all}
use Rattle.words.proofs.Tables.{all_range}

module _ (p : ℕ → Bool) where
  -- a test so far, and of one more place
  abbrev pub also : Bool → ℕ → Bool
  also so_far k = so_far && p k

  -- a fold over a range tests every place of it
  pub fold_range : (n : ℕ) → fold also true (range_with_len 0 n) ≡ all_to p n
  fold_range n = fold_all p true (range_with_len 0 n) ∙ all_range p n

  -- a test of n places, and of m more
  all_split : (n m : ℕ) → all_to p (n + m) ≡ (all_to p n && all_to (λ (k : ℕ). p (n + k)) m)
  unfolding all_to
  all_split n zero = rw add-zero (sym (and-true (all_to p n)))
  all_split n (suc m) = rw (add-suc, all_split n m) (and_assoc (all_to p n) _ _)

  -- the b places of block j
  abbrev pub block : ℕ → ℕ → Bool
  block b j = all_to (λ (k : ℕ). p (j * b + k)) b

  all_blocks : (b n : ℕ) → all_to (block b) n ≡ all_to p (n * b)
  unfolding all_to
  all_blocks b zero = rw zero-mul
  all_blocks b (suc n) = rw (all_blocks b n, suc-mul n b) (sym (all_split (n * b) b))

  -- n places as q blocks of b places and r more from `from` on; the rest counts where all blocks passed
  pub all_parts : (b q from r n : ℕ) (passed rest : Bool) → passed ≡ all_to (block b) q → rest ≡ all_to (λ (k : ℕ). p (from + k)) r
      → from ≡ q * b → q * b + r ≡ n → (passed && rest) ≡ all_to p n
  all_parts b q from r n passed rest blocks more at all = rw (blocks, all_blocks b q, more, at, ← all) (sym (all_split (q * b) r))
