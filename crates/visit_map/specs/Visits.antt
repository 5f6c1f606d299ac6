-- R12.1 to R12.4: the visit map, one byte for each parameter. Definitions only.
use Rattle.std.specs.Prelude.{ℕ, zero, suc, ◌≡◌, Bool, true, false, ◌||◌, List, eqb, length, get_or, Float}
use Rattle.floats.specs.Sums.{tabulate, all_finite}
use Rattle.refusals.specs.Refusals.{◌otherwise◌, ◌then◌, past, Outcome, outcome_of}
use Rattle.spline.specs.declared.Grid.{Grid}
use Rattle.layers.specs.Net.{Net}
use Rattle.layers.specs.Widths.{input_width, widest_in}
use Rattle.batches.specs.Batch.{row_at}
use Rattle.config.specs.Config.{row_carried, parameters_for}
use Rattle.admission.specs.Admission.{up_to9, swept}
use Rattle.passes.specs.Pass.{rows_of, rows_refusal, rows_done}
use Rattle.touched_layer.specs.Touched.{blank}
use Rattle.touched_row.specs.Touched.{row_touched}

-- ---- the bytes of the first `rows` rows
-- notation: a test passes at one of 0, 1, .., n - 1
unfoldable pub any_to : (ℕ → Bool) → ℕ → Bool
any_to f zero = false
any_to f (suc n) = any_to f n || f n

-- R12.2, R12.3: whether row r touches parameter p
abbrev pub touched_in : Net → List Float → List ℕ → List Float → ℕ → ℕ → Bool
touched_in N ps ws xs p r = get_or (row_touched N ps ws (row_at xs (input_width ws) r)) p false

-- R12.1: 1 or 0: 1 where one of the rows touches the parameter
abbrev pub byte_of : Bool → ℕ
byte_of false = 0
byte_of true = 1

abbrev pub byte_at : Net → List Float → List ℕ → List Float → ℕ → ℕ → ℕ
byte_at N ps ws xs rows p = byte_of (any_to (touched_in N ps ws xs p) rows)

-- R12.1: of the first n parameters
unfoldable pub marks_of : Net → List Float → List ℕ → List Float → ℕ → ℕ → List ℕ
marks_of N ps ws xs rows n = tabulate (byte_at N ps ws xs rows) n

-- ---- R3.4: the checks before the rows: 10, the map is not P bytes (R3.5), then 11
unfoldable pub map_up_to11 : List ℕ → Grid → List Float → ℕ → ℕ → ℕ → ℕ
map_up_to11 ws g ps first second map =
    up_to9 ws g (length ps) first second
    then eqb map (parameters_for ws g) otherwise 10
    then all_finite ps otherwise 11

-- ---- R12.1, R3.4: the whole call: the answer, and all lent memory
module _ (N : Net) (ws : List ℕ) (g : Grid) (ps xs a b : List Float) (ms : List ℕ) where
  abbrev P : ℕ
  P = parameters_for ws g

  abbrev checks : ℕ
  checks = map_up_to11 ws g ps (length a) (length b) (length ms)

  unfoldable pub visit_refusal : ℕ
  visit_refusal = checks then rows_refusal N ps ws xs

  -- R3.2: 7 carries the total, and a row's refusal the row
  unfoldable pub visit_carried : ℕ
  visit_carried = row_carried checks P (rows_done N ps ws xs)

  -- R12.4: all 0 after 14, 15 or 20, unchanged after any other refusal
  unfoldable pub visit_marks : List ℕ
  visit_marks = past checks (past (rows_refusal N ps ws xs) (marks_of N ps ws xs (rows_of ws xs) P) (blank P)) ms

  -- R12.1, R3.6: the answer, the map and both work slices
  pub record Visited (r : Outcome) (a' b' : List Float) (ms' : List ℕ) : Type 0 where
    pub answer : r ≡ outcome_of visit_refusal visit_carried
    pub map : ms' ≡ visit_marks
    pub first : a' ≡ swept (up_to9 ws g (length ps) (length a) (length b)) (widest_in ws) a
    pub second : b' ≡ swept (up_to9 ws g (length ps) (length a) (length b)) (widest_in ws) b
