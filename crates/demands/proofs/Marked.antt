-- A coefficient that a map marks 0 is silent at every number that its edge reads of the map's rows. Assumes nothing.
use Prim.Native.Nat.{ℕ, zero, suc, ◌+◌, ◌-◌, ◌*◌, ◌%◌, ◌≤◌, ◌<◌}
use native.Mathlib.Nat.{le_refl, eq-or-lt_of_le, le_of_suc-le-suc}
use native.Mathlib.Numerals.{add-one}
use native.Mathlib.Omega.{arith}
use mathlib.Core.Path.{◌≡◌, refl, sym, ◌∙◌, subst}
use mathlib.Core.Logic.{⊎_elim}
use mathlib.Core.Bool.{Bool, true, false, ◌&&◌, ◌||◌, true≢false}
use mathlib.Core.List.{List, [], ◌∷◌}
use lib.Dec.{eqb, leb}
use lib.ListN.{length, get_or, get_or-eq_default}
use lib.Seq.{get_or-append-add}
use lib.Ieee.{Float}
use borrow.Author.Tests.{eqb-true, leb-true}
use Rattle.floats.specs.Sums.{at, tabulate}
use Rattle.floats.proofs.Loops.{tab_length, flat_get, flat_place, room, table_get}
use Rattle.spline.specs.declared.Grid.{Grid}
use Rattle.layers.specs.Net.{net_of, basis_of}
use Rattle.layers.specs.Widths.{width_at, input_width}
use Rattle.batches.specs.Batch.{row_at}
use Rattle.passes.specs.Pass.{nodes_of}
use Rattle.passes.proofs.Passes.{nodes_length}
use Rattle.touched_layer.specs.Touched.{touches, edge_touched, node_touched, layer_touched}
use Rattle.touched_layer.proofs.Touching.{zeros_of}
use Rattle.touched_layer.proofs.Layers.{edge_length, node_length, layer_length}
use Rattle.touched_row.specs.Touched.{row_touched}
use Rattle.touched_row.proofs.Rows.{row_layer, row_length}
use Rattle.visit_map.specs.Visits.{any_to, touched_in, byte_of, byte_at, marks_of}
use Rattle.demands.specs.Silent.{place_of, RowSilent}
use Rattle.demands.specs.Unmarked.{unmarked}
use Rattle.demands.proofs.Cells.{by_length}

-- ---- the test of a coefficient, at its place among all that a row touches
module _ (g : Grid) (ps : List Float) (ws : List ℕ) (xs : List Float) (wide : length xs ≡ width_at ws 0) where
  abbrev per : ℕ
  per = g.intervals + 5

  module _ (l o i k : ℕ) (inside : suc l < length ws) (ol : o < width_at ws (suc l)) (il : i < width_at ws l)
      (kl : k < g.intervals + 3) where
    abbrev read : List Float
    read = nodes_of (net_of g) ps ws xs l

    reads : length read ≡ width_at ws l
    reads = nodes_length (net_of g) ps ws xs wide l

    slot : 2 + k < per
    slot = omega arith

    in_edge : get_or (edge_touched (basis_of g) (at read i)) (2 + k) false ≡ touches (basis_of g) k (at read i)
    unfolding edge_touched
    in_edge =
        let test : ℕ → Bool = λ j. touches (basis_of g) j (at read i) in
        get_or-append-add (true ∷ true ∷ []) (tabulate test (g.intervals + 3)) k false ∙ table_get test (g.intervals + 3) k false kl

    in_node : get_or (node_touched (basis_of g) read) (i * per + (2 + k)) false ≡ touches (basis_of g) k (at read i)
    unfolding node_touched
    in_node = flat_place _ per (λ j. edge_length g _) i (length read) (2 + k) false (rw reads il) slot ∙ in_edge

    -- the edge's part of its output's, and the output's of its layer's
    inner : i * per + (2 + k) < width_at ws l * per
    inner = omega (arith, room i (width_at ws l) per (width_at ws l * per) il (le_refl (width_at ws l * per)), slot)

    abbrev outputs : ℕ
    outputs = width_at ws (l + 1)

    output : o < outputs
    output = rw (add-one l) ol

    in_layer : get_or (row_layer (net_of g) ps ws xs l) (o * (width_at ws l * per) + (i * per + (2 + k))) false
        ≡ touches (basis_of g) k (at read i)
    unfolding layer_touched
    in_layer =
        flat_place _ (width_at ws l * per) (λ j. rw (← reads) (node_length g read)) o outputs (i * per + (2 + k)) false output inner
        ∙ in_node

    pub in_row : get_or (row_touched (net_of g) ps ws xs) (place_of per ws l o i (2 + k)) false ≡ touches (basis_of g) k (at read i)
    unfolding row_touched
    in_row =
        let q = o * (width_at ws l * per) + (i * per + (2 + k)) in
        let last = room o outputs (width_at ws l * per) _ output (le_refl (outputs * (width_at ws l * per))) in
        let size : length (row_layer (net_of g) ps ws xs l) ≡ outputs * (width_at ws l * per) = rw (layer_length g, reads) in
        let within : q < length (row_layer (net_of g) ps ws xs l) = rw size (omega (arith, inner, last)) in
        rw (← row_length g ps ws xs wide l) (flat_get (row_layer (net_of g) ps ws xs) l (length ws - 1) q false (omega arith) within)
        ∙ in_layer

-- ---- a byte that is 0
-- a test that passes nowhere below n
any_none : (f : ℕ → Bool) (n : ℕ) → any_to f n ≡ false → (r : ℕ) → r < n → f r ≡ false
unfolding any_to
any_none f zero e r h = absurd (omega arith)
any_none f (suc n) e r h =
    let both = neither (any_to f n) (f n) e in
    ⊎_elim (λ (q : r ≡ n). rw q both.1) (λ l. any_none f n both.0 r l) (eq-or-lt_of_le (le_of_suc-le-suc h))
  where
    neither : (a b : Bool) → (a || b) ≡ false → (a ≡ false) × (b ≡ false)
    neither true b e = absurd (true≢false e)
    neither false b e = (refl, e)

no_byte : (b : Bool) → byte_of b ≡ 0 → b ≡ false
no_byte true e = absurd (omega (arith, e))
no_byte false e = refl

both_true : (a b : Bool) → (a && b) ≡ true → (a ≡ true) × (b ≡ true)
both_true true b e = (refl, e)
both_true false b e = absurd (true≢false (sym e))

-- what it means to be unmarked: a coefficient of the model, whose byte is 0
pub unmarked_byte : (per : ℕ) (map : List ℕ) (p : ℕ) → unmarked per map p ≡ true → (2 ≤ p % per) × (get_or map p 1 ≡ 0)
unmarked_byte per map p e =
    let both = both_true (leb 2 (p % per)) (eqb (get_or map p 1) 0) e in
    (leb-true 2 (p % per) both.0, eqb-true (get_or map p 1) 0 both.1)

-- no row of the map touches such a place
untouched : (g : Grid) (ps : List Float) (ws : List ℕ) (xs : List Float) (rows n p : ℕ)
    → get_or (marks_of (net_of g) ps ws xs rows n) p 1 ≡ 0 → (r : ℕ) → r < rows → touched_in (net_of g) ps ws xs p r ≡ false
unfolding marks_of
untouched g ps ws xs rows n p e =
    let bytes = byte_at (net_of g) ps ws xs rows in
    by_length p n
    (λ h. any_none _ rows (no_byte _ (sym (table_get bytes n p 1 h) ∙ e)))
    (λ h. absurd (one_zero (sym (get_or-eq_default (tabulate bytes n) 1 (subst (λ (m : ℕ). m ≤ p) (sym (tab_length bytes n)) h)) ∙ e)))
  where
    one_zero : ◌≡◌ {A = ℕ} 1 0 → ⊥
    one_zero e = omega arith

-- so it is silent in each of them
pub row_silent : (g : Grid) (ps : List Float) (ws : List ℕ) (xs : List Float) (rows n r : ℕ) → r < rows
    → length (row_at xs (input_width ws) r) ≡ input_width ws
    → RowSilent (net_of g) ws (unmarked (g.intervals + 5) (marks_of (net_of g) ps ws xs rows n)) ps (row_at xs (input_width ws) r)
unfolding touches
row_silent g ps ws xs rows n r h wide l o i k inside ol il kl d reached =
    let row = row_at xs (input_width ws) r in
    let p = place_of (g.intervals + 5) ws l o i (2 + k) in
    let byte = (unmarked_byte (g.intervals + 5) (marks_of (net_of g) ps ws xs rows n) p d).1 in
    zeros_of _ _ (sym (in_row g ps ws row wide l o i k inside ol il kl) ∙ untouched g ps ws xs rows n p byte r h)
