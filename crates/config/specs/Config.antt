-- R3.4, R4.1 to R4.9: the configuration checks in their order, and what `check` and `parameter_count` answer.
-- Definitions only.
use Rattle.std.specs.Prelude.{ℕ, ◌+◌, ◌-◌, ◌*◌, ◌^◌, Bool, cond, not, ◌&&◌, List, leb, ltb, eqb, length, Err, Ok}
use Rattle.std.specs.declared.result.Result.{Result}
use Rattle.std.specs.Float.{binary32}
use Rattle.std.specs.Float.Ieee.{le, of_bits}
use Rattle.std.specs.Float.Ieee.Scale.{finite}
use Rattle.floats.specs.Binary32.{◌⊕◌, ◌⊖◌, ◌⊗◌, zero32, one32, three32}
use Rattle.floats.specs.Sums.{all_to}
use Rattle.refusals.specs.declared.Refusal.{Refusal}
use Rattle.refusals.specs.Refusals.{◌otherwise◌, ◌then◌, first_to, past, answer_of}
use Rattle.spline.specs.declared.Grid.{Grid}
use Rattle.spline.specs.Spline.{width_of}
use Rattle.layers.specs.Widths.{width_at, layer_size, params_to, parameters_in, widest_in, nodes_in}
use Rattle.config.specs.declared.Sizes.{Sizes}

-- ---- R4.1: 1, fewer than two widths, or a zero width
unfoldable pub shape_sound : List ℕ → Bool
unfolding all_to
shape_sound ws = leb 2 (length ws) && all_to (λ (i : ℕ). not (eqb (width_at ws i) 0)) (length ws)

-- R4.2: 2, a product of neighbouring widths is 2^64 or more
unfoldable pub products_fit : List ℕ → Bool
unfolding all_to
products_fit ws = all_to (λ (l : ℕ). ltb (width_at ws l * width_at ws (l + 1)) (2 ^ 64)) (length ws - 1)

-- R4.3: 3, g is 0 or above 2^63 - 8
unfoldable pub intervals_sound : ℕ → Bool
intervals_sound g = leb 1 g && leb g (2 ^ 63 - 8)

-- R4.4: the domain test, of the ends and of the steps from them
unfoldable pub ends_sound : Grid → Bool
ends_sound g = finite g.lo && finite g.hi && not (le g.hi g.lo)

unfoldable pub steps_sound : Grid → Bool
unfolding width_of
steps_sound g =
    let w = width_of g in
    let a = g.lo ⊖ (three32 ⊗ w) in
    let b = g.hi ⊕ (three32 ⊗ w) in
    finite w && not (le w zero32) && finite a && finite b && not (le (g.lo ⊕ w) g.lo) && not (le g.hi (g.hi ⊖ w))
    && not (le g.lo a) && not (le b g.hi)

unfoldable pub domain_sound : Grid → Bool
domain_sound g = ends_sound g && steps_sound g

-- R4.5: g intervals over [-1, 1]; that the test refuses exactly from g = 67,108,862 on: proofs/Threshold.antt
abbrev pub unit_grid : ℕ → Grid
unit_grid g = record { intervals = g; lo = of_bits binary32 0xbf80_0000; hi = one32 }

-- R4.6: 5 and 6 of layer l: its parameters, then those up to and with it, are 2^64 or more
abbrev pub size_fault : ℕ → List ℕ → ℕ → ℕ
size_fault per ws l = ltb (layer_size per ws l) (2 ^ 64) otherwise 5 then ltb (params_to per ws (l + 1)) (2 ^ 64) otherwise 6

-- R2.4: P
abbrev pub parameters_for : List ℕ → Grid → ℕ
parameters_for ws g = parameters_in (g.intervals + 5) ws

-- ---- R3.4: all checks in their order; 4 with the domain [-1, 1] is R4.5, 7 is R4.7, 4 with the given domain R4.8
unfoldable pub config_fault : List ℕ → Grid → ℕ
config_fault ws g =
    shape_sound ws otherwise 1
    then products_fit ws otherwise 2
    then intervals_sound g.intervals otherwise 3
    then domain_sound (unit_grid g.intervals) otherwise 4
    then first_to (size_fault (g.intervals + 5) ws) (length ws - 1)
    then leb (parameters_for ws g) 250000 otherwise 7
    then domain_sound g otherwise 4

-- ---- R4.9: the sizes that an accepted configuration has; R4.7: of the refusals 7 carries the total, no other anything
abbrev pub sizes_of : List ℕ → Grid → Sizes
sizes_of ws g = record { parameters = parameters_for ws g; widest = widest_in ws; nodes = nodes_in ws }

abbrev pub carried_by : ℕ → ℕ → ℕ
carried_by n total = cond (eqb n 7) total 0

-- R3.2: of a call whose rows carry their number, counted from 0: `checks` is what comes before the rows
abbrev pub row_carried : ℕ → ℕ → ℕ → ℕ
row_carried checks total row = past checks row (carried_by checks total)

-- R4.9, R3.2: the sizes, or the refusal with what it carries
abbrev pub checked_of : ℕ → Sizes → Result Sizes Refusal
checked_of n s = answer_of n (carried_by n s.parameters) s

-- R4.9: `check`
abbrev pub check_of : List ℕ → Grid → Result Sizes Refusal
check_of ws g = checked_of (config_fault ws g) (sizes_of ws g)

-- R4.9: `parameter_count` answers P, or is refused alike
abbrev pub count_of : Result Sizes Refusal → Result ℕ Refusal
count_of (Ok s) = Ok s.parameters
count_of (Err r) = Err r
