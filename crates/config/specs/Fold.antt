-- R4.1 to R4.8 one width at a time: what the fold over the widths promises, step by step. The checks' meaning is
-- Config.antt: proofs/Folded.antt ties each field of the state to the plain definitions there and in Widths.antt.
-- Definitions only.
use Rattle.std.specs.Prelude.{ℕ, zero, suc, ◌+◌, ◌-◌, ◌*◌, ◌^◌, max, min, Bool, true, false, cond, not, ◌&&◌, ◌||◌, List, leb, ltb, eqb, Err, None, Ok, Some}
use Rattle.std.specs.declared.option.Option.{Option}
use Rattle.std.specs.declared.result.Result.{Result}
use Rattle.refusals.specs.declared.Refusal.{Refusal}
use Rattle.refusals.specs.Refusals.{◌otherwise◌, ◌then◌, plain}
use Rattle.spline.specs.declared.Grid.{Grid}
use Rattle.layers.specs.Widths.{width_at}
use Rattle.config.specs.declared.Shape.{Shape}
use Rattle.config.specs.declared.Sizes.{Sizes}
use Rattle.config.specs.Config.{intervals_sound, domain_sound, unit_grid, checked_of}

-- ---- one step
-- R4.2, R4.6: a whole number as the machine holds it: itself below 2^64
unfoldable pub whole_of : ℕ → Option ℕ
whole_of n = cond (ltb n (2 ^ 64)) (Some n) None

abbrev pub is_too_large : Option ℕ → Bool
is_too_large (Some n) = false
is_too_large None = true

-- R2.4: a layer's parameters, from how many edges it has
abbrev pub layer_of : Option ℕ → ℕ → Option ℕ
layer_of (Some edges) per = whole_of (edges * per)
layer_of None per = None

-- R4.6: a refusal that carries nothing
abbrev pub uncount : ℕ → Result ℕ Refusal
uncount n = Err (plain n)

-- R4.6: the running total with one more layer: the first refusal stays, 5 comes before 6
abbrev pub add_sum : Option ℕ → Result ℕ Refusal
add_sum (Some sum) = Ok sum
add_sum None = uncount 6

abbrev pub add_size : ℕ → Option ℕ → Result ℕ Refusal
add_size before (Some size) = add_sum (whole_of (before + size))
add_size before None = uncount 5

abbrev pub add_layer : Result ℕ Refusal → Option ℕ → Result ℕ Refusal
add_layer (Ok before) layer = add_size before layer
add_layer (Err r) layer = Err r

-- R2.2: one more width: with the width before it, it makes a layer
unfoldable pub step_of : ℕ → Shape → ℕ → Shape
step_of per s w =
    let edges = whole_of (s.last * w) in
    record {
      last = w;
      zero = s.zero || eqb w 0;
      wide = s.wide || is_too_large edges;
      total = add_layer s.total (layer_of edges per);
      widest = max s.widest w;
      nodes = min (s.nodes + w) (2 ^ 64 - 1);
    }

-- ---- the fold
-- R2.2: before the first width, which counts as preceded by 0 and so makes a layer with no edge
unfoldable pub empty_shape : Shape
empty_shape = record { last = 0; zero = false; wide = false; total = Ok 0; widest = 0; nodes = 0 }

-- R2.3: g + 5, and 0 for a grid that is refused whatever its parameters are
unfoldable pub per_edge_of : ℕ → ℕ
per_edge_of g = cond (intervals_sound g) (g + 5) 0

-- R2.2: after the first n widths
unfoldable pub shape_to : ℕ → List ℕ → ℕ → Shape
shape_to per ws zero = empty_shape
shape_to per ws (suc n) = step_of per (shape_to per ws n) (width_at ws n)

-- R4.6: the running total as the plain definitions have it: the first of 5 and 6, and where there is none `params_to`
unfoldable pub total_of : ℕ → ℕ → Result ℕ Refusal
total_of zero total = Ok total
total_of (suc n) total = uncount (suc n)

-- ---- the answer from the last state, in the order of `config_fault`
-- R4.8: 4 for the given domain; no list of widths passes 7 with more intervals than 250,000
unfoldable pub given_sound : Grid → Bool
given_sound g = leb g.intervals 250000 && domain_sound g

-- R4.7, R4.8: 7, then 4 for the given domain
unfoldable pub limits_fault : ℕ → Grid → ℕ
limits_fault total g = leb total 250000 otherwise 7 then given_sound g otherwise 4

abbrev pub counted_fault : Result ℕ Refusal → Grid → ℕ
counted_fault (Err r) g = r.number
counted_fault (Ok total) g = limits_fault total g

-- R3.4: all checks in their order
unfoldable pub shape_fault : Shape → ℕ → Grid → ℕ
shape_fault s count g =
    not (ltb count 2 || s.zero) otherwise 1
    then not s.wide otherwise 2
    then intervals_sound g.intervals otherwise 3
    then domain_sound (unit_grid g.intervals) otherwise 4
    then counted_fault s.total g

-- R4.9: the sizes, with no parameters where the total is refused
abbrev pub counted : Result ℕ Refusal → ℕ
counted (Err r) = 0
counted (Ok total) = total

abbrev pub shape_sizes : Shape → Sizes
shape_sizes s = record { parameters = counted s.total; widest = s.widest; nodes = s.nodes }

unfoldable pub verdict_of : Shape → ℕ → Grid → Result Sizes Refusal
verdict_of s count g = checked_of (shape_fault s count g) (shape_sizes s)
