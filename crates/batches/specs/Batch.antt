-- R5.1, R5.2: a flat batch stands for rows of a width, of which the last may be short; R5.3, R5.4: the checks that
-- calls make of its rows. Definitions only.
use Rattle.std.specs.Prelude.{ℕ, ◌+◌, ◌*◌, ◌/◌, ◌%◌, cond, not, List, eqb, leb, length, take, drop, Float}
use Rattle.floats.specs.Sums.{all_finite}
use Rattle.refusals.specs.Refusals.{◌otherwise◌, ◌then◌, first_to}

-- R5.2: how many rows of a width stand in n numbers, a short last one counted
unfoldable pub rows_in : ℕ → ℕ → ℕ
rows_in n w = n / w + cond (eqb (n % w) 0) 0 1

-- R5.1: row r
abbrev pub row_at : List Float → ℕ → ℕ → List Float
row_at xs w r = take w (drop (r * w) xs)

-- R5.3: the refusal of one row: its width, then its numbers; 14, 15 of inputs, 16, 17 of targets
unfoldable pub row_fault : ℕ → ℕ → ℕ → List Float → ℕ
row_fault width not_wide not_finite xs = eqb (length xs) width otherwise not_wide then all_finite xs otherwise not_finite

-- R5.3: row by row
unfoldable pub rows_fault : ℕ → ℕ → ℕ → List Float → ℕ
rows_fault w not_wide not_finite xs = first_to (λ (r : ℕ). row_fault w not_wide not_finite (row_at xs w r)) (rows_in (length xs) w)

-- R5.4: 12, row counts that differ; 13, no rows; all inputs, then all targets; 18, more than 16,777,216 target values
unfoldable pub batch_fault : ℕ → ℕ → List Float → List Float → ℕ
batch_fault w v xs ts =
    eqb (rows_in (length xs) w) (rows_in (length ts) v) otherwise 12
    then not (eqb (rows_in (length xs) w) 0) otherwise 13
    then rows_fault w 14 15 xs
    then rows_fault v 16 17 ts
    then leb (length ts) 16777216 otherwise 18
