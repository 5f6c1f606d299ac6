-- Which numbers the checks have: 7 is the configuration's alone, and 25 the trailer's. Assumes nothing.
use Prim.Native.Nat.{ℕ, ◌+◌, ◌-◌, ◌≤◌}
use native.Mathlib.Omega.{arith}
use mathlib.Core.Path.{◌≡◌}
use mathlib.Core.Bool.{Bool, true, false}
use mathlib.Core.List.{List}
use lib.Dec.{leb, ltb, eqb}
use lib.ListN.{length}
use Rattle.refusals.specs.Refusals.{◌otherwise◌, ◌then◌, first_to}
use Rattle.refusals.proofs.Firsts.{test_at_most, then_at_most, first_at_most}
use Rattle.spline.specs.declared.Grid.{Grid}
use Rattle.layers.specs.Widths.{layer_size, params_to, parameters_in}
use Rattle.config.specs.Config.{shape_sound, products_fit, intervals_sound, domain_sound, unit_grid, size_fault, config_fault}
use Rattle.image_layout.specs.declared.Trailer.{Trailer}
use Rattle.image_layout.specs.Trailer.{widths_distance}
use Rattle.image_reading.specs.Image.{trailer_fault}

pub trailer_not_7 : (t : Trailer) (n : ℕ) → trailer_fault t n ≡ 7 → ⊥
unfolding trailer_fault
trailer_not_7 t n =
    by (eqb t.version 1) (eqb t.degree 3) (eqb t.widths (widths_distance t.count)) (leb t.widths n)
  where
    by : (a b c d : Bool) → (a otherwise 25 then b otherwise 26 then c otherwise 27 then d otherwise 27) ≡ 7 → ⊥
    by false b c d e = omega (arith, e)
    by true false c d e = omega (arith, e)
    by true true false d e = omega (arith, e)
    by true true true false e = omega (arith, e)
    by true true true true e = omega (arith, e)

pub config_to_7 : (ws : List ℕ) (g : Grid) → config_fault ws g ≤ 7
unfolding config_fault
config_to_7 ws g =
    let per = g.intervals + 5 in
    let each : (l : ℕ) → size_fault per ws l ≤ 7 =
    λ l. one (ltb (layer_size per ws l) _) 5 _ (omega arith) (last (ltb (params_to per ws (l + 1)) _) 6 (omega arith)) in
    let sizes = first_at_most 7 (size_fault per ws) (length ws - 1) each in
    one (shape_sound ws) 1 _ (omega arith)
    (one (products_fit ws) 2 _ (omega arith)
    (one (intervals_sound g.intervals) 3 _ (omega arith)
    (one (domain_sound (unit_grid g.intervals)) 4 _ (omega arith)
    (then_at_most 7 (first_to (size_fault per ws) (length ws - 1)) _ sizes
    (one (leb (parameters_in per ws) 250000) 7 _ (omega arith) (last (domain_sound g) 4 (omega arith)))))))
  where
    last : (b : Bool) (n : ℕ) → n ≤ 7 → (b otherwise n) ≤ 7
    last b n h = test_at_most 7 b n h

    one : (b : Bool) (n next : ℕ) → n ≤ 7 → next ≤ 7 → (b otherwise n then next) ≤ 7
    one b n next h k = then_at_most 7 (b otherwise n) next (test_at_most 7 b n h) k
