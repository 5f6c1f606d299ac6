-- A configuration that is not refused is `Sized`, and its layers lie within P. Assumes nothing.
use Prim.Native.Nat.{ℕ, suc, ◌+◌, ◌-◌, ◌≤◌, ◌<◌}
use native.Mathlib.Nat.{le_trans}
use native.Mathlib.Omega.{arith}
use mathlib.Core.Path.{◌≡◌}
use mathlib.Core.Bool.{true, ◌&&◌}
use mathlib.Core.List.{List}
use lib.Dec.{leb}
use lib.ListN.{length}
use borrow.Author.Tests.{leb-true}
use Rattle.floats.specs.Sums.{all_to}
use Rattle.refusals.specs.Refusals.{◌otherwise◌, first_to}
use Rattle.refusals.proofs.Firsts.{both_pass, test_passes}
use Rattle.spline.specs.declared.Grid.{Grid}
use Rattle.layers.specs.Widths.{layer_size, params_to, parameters_in}
use Rattle.layers.proofs.Widths.{params_room}
use Rattle.config.specs.Config.{config_fault, shape_sound, products_fit, intervals_sound, ends_sound}
use Rattle.config.specs.Config.{steps_sound, domain_sound, unit_grid, size_fault}
use Rattle.config.specs.Sized.{Sized}
use Rattle.config.proofs.Tests.{both_true, holds, intervals_between, ends_finite}
use Rattle.config.proofs.Totals.{some_wide, small_of, positive_at, widest_at, widest_within}

-- ---- what the checks that were passed say
record Passed (ws : List ℕ) (g : Grid) : Type 0 where
  shape : leb 2 (length ws) && all_to (some_wide ws) (length ws) ≡ true
  intervals : intervals_sound g.intervals ≡ true
  total : leb (parameters_in (g.intervals + 5) ws) 250000 ≡ true
  domain : ends_sound g && steps_sound g ≡ true

all_passed : (ws : List ℕ) (g : Grid) → config_fault ws g ≡ 0 → Passed ws g
unfolding config_fault shape_sound domain_sound
all_passed ws g e =
    let after1 = both_pass (shape_sound ws otherwise 1) _ e in
    let after2 = both_pass (products_fit ws otherwise 2) _ after1.1 in
    let after3 = both_pass (intervals_sound g.intervals otherwise 3) _ after2.1 in
    let after4 = both_pass (domain_sound (unit_grid g.intervals) otherwise 4) _ after3.1 in
    let after6 = both_pass (first_to (size_fault (g.intervals + 5) ws) (length ws - 1)) _ after4.1 in
    let after7 = both_pass (leb (parameters_in (g.intervals + 5) ws) 250000 otherwise 7) _ after6.1 in
    record {
      shape = test_passes _ 0 after1.0;
      intervals = test_passes _ 2 after3.0;
      total = test_passes _ 6 after7.0;
      domain = test_passes _ 3 after7.1;
    }

pub sized : (ws : List ℕ) (g : Grid) → config_fault ws g ≡ 0 → Sized ws g
sized ws g e =
    let p = all_passed ws g e in
    let shape = both_true (leb 2 (length ws)) _ p.shape in
    let some = leb-true 2 (length ws) shape.0 in
    let between = intervals_between g.intervals p.intervals in
    let total = leb-true _ 250000 p.total in
    let few = small_of (g.intervals + 5) ws (length ws) (omega arith) some shape.1 total in
    let domain = both_true (ends_sound g) (steps_sound g) p.domain in
    record {
      some_grid = between.0;
      small_edge = few.0;
      grid = omega arith;
      lo_finite = (ends_finite g domain.0).0;
      hi_finite = (ends_finite g domain.0).1;
      ends = holds (ends_sound g) domain.0;
      steps = holds (steps_sound g) domain.1;
      some = some;
      positive = positive_at ws (length ws) shape.1;
      within = λ j l. widest_at ws j (length ws) l;
      small = total;
      narrow = le_trans (widest_within ws (length ws)) few.1;
      few_nodes = few.1;
    }

-- ---- layer l lies within the flat model
pub layer_room : (per : ℕ) (ws : List ℕ) (l : ℕ) → suc l < length ws
    → params_to per ws l + layer_size per ws l ≤ parameters_in per ws
layer_room per ws l h = params_room per ws l (length ws - 1) (omega arith)
