-- What a batch with no fault has, for inner functions to ask for; no part of the meaning. Definitions only.
use Rattle.std.specs.Prelude.{◌≡◌, ℕ, ◌*◌, ◌≤◌, ◌<◌, List, length, Float}
use Rattle.batches.specs.Batch.{rows_in, row_at, row_fault}

-- the refusal of row r
abbrev pub row_fault_at : ℕ → ℕ → ℕ → List Float → ℕ → ℕ
row_fault_at w not_wide not_finite xs r = row_fault w not_wide not_finite (row_at xs w r)

pub record SoundBatch (w v : ℕ) (xs ts : List Float) : Type 0 where
  pub same_rows : rows_in (length xs) w ≡ rows_in (length ts) v
  pub some : 0 < rows_in (length xs) w
  pub inputs : (r : ℕ) → r < rows_in (length xs) w → row_fault_at w 14 15 xs r ≡ 0
  pub targets : (r : ℕ) → r < rows_in (length ts) v → row_fault_at v 16 17 ts r ≡ 0
  pub whole_inputs : length xs ≡ rows_in (length xs) w * w
  pub whole_targets : length ts ≡ rows_in (length ts) v * v
  pub few : length ts ≤ 16777216
