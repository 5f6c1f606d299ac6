-- A row's gradients on two models that differ in silent coefficients: the same, and at those coefficients a zero or a NaN. Assumes
-- nothing.
use Prim.Native.Nat.{ℕ, zero, suc, ◌+◌, ◌-◌, ◌*◌, ◌≤◌, ◌<◌}
use native.Mathlib.Numerals.{add-one}
use native.Mathlib.Omega.{arith}
use mathlib.Core.Path.{◌≡◌, refl, sym, ap, ◌∙◌, subst}
use mathlib.Core.Logic.{inr}
use mathlib.Core.Bool.{true}
use mathlib.Core.List.{List}
use lib.ListN.{length}
use lib.Ieee.{Float, nan}
use Rattle.floats.specs.Sums.{at, tabulate, flat_to}
use Rattle.floats.proofs.Sums.{Dead, mul_dead}
use Rattle.layers.specs.Net.{Net, basis_at}
use Rattle.layers.specs.Widths.{width_at, params_to}
use Rattle.passes.specs.Pass.{nodes_of, finite_after, nodes_finite}
use Rattle.passes.proofs.Passes.{nodes_length}
use Rattle.gradients.specs.Gradient.{slot_of, back_layer, layer_slots}
use Rattle.row_gradients.specs.Backward.{output_gradient, ups_of, row_slots, row_gradient}
use Rattle.gradients.proofs.Adding.{flat_ext}
use Rattle.gradients.proofs.Edges.{layer_length}
use Rattle.row_gradients.proofs.Slots.{flat_params}
use Rattle.row_gradients.proofs.Rows.{ups_length}
use Rattle.demands.specs.Silent.{Places, place_of, Reaches, RowSilent}
use Rattle.demands.proofs.Layers.{LayerAlike, slots_same, backs_same}
use Rattle.demands.proofs.Places.{Siblings, part_of, no_weight}
use Rattle.demands.proofs.Passes.{all_before, alike_at, nodes_same}
use Rattle.demands.proofs.Cells.{Relation, cells_flat, cells_layer}

module _ {N : Net} {ws : List ℕ} {D : Places} {ps qs : List Float} (two : Siblings N ws D ps qs) (xs : List Float)
    (wide : length xs ≡ width_at ws 0) (silent : RowSilent N ws D ps xs) (passed : nodes_finite N ps ws xs ≡ true) (ts : List Float)
    (scale : Float) where
  reached : (l : ℕ) → l ≤ length ws - 1 → Reaches N ps ws xs l
  unfolding nodes_finite
  reached l h = all_before (finite_after N ps ws xs) l (length ws - 1) h passed

  same_nodes : (l : ℕ) → l ≤ length ws - 1 → nodes_of N ps ws xs l ≡ nodes_of N qs ws xs l
  same_nodes l h = nodes_same two xs wide silent l h (reached l h)

  -- layer l, with as many gradients from above as it has outputs
  alike : (l : ℕ) (ups : List Float) → suc l ≤ length ws - 1 → length ups ≡ width_at ws (suc l)
      → LayerAlike (basis_at N l) (nodes_of N ps ws xs l) (length ups) (part_of N ws ps l) (part_of N ws qs l)
  alike l ups h e =
      subst (λ (n : ℕ). LayerAlike (basis_at N l) (nodes_of N ps ws xs l) n (part_of N ws ps l) (part_of N ws qs l)) (sym e)
      (alike_at two xs wide silent l (omega arith) (reached l (omega arith)))

  above_wide : (l k : ℕ) → length (ups_of N ps ws xs ts scale l k) ≡ width_at ws l
  above_wide l k = ups_length N ps ws xs ts scale wide l k

  -- ---- the same gradients
  ups_same : (l k : ℕ) → l + k ≡ length ws - 1 → ups_of N ps ws xs ts scale l k ≡ ups_of N qs ws xs ts scale l k
  unfolding ups_of
  ups_same l zero e = ap (λ (ns : List Float). tabulate (output_gradient ns ts scale) (width_at ws l)) (same_nodes l (omega arith))
  ups_same l (suc k) e =
      let ups = ups_of N ps ws xs ts scale (suc l) k in
      let nodes = same_nodes l (omega arith) in
      let after = ups_same (suc l) k (omega arith) in
      backs_same (basis_at N l) two.begins _ _ (nodes_of N ps ws xs l) ups (alike l ups (omega arith) (above_wide (suc l) k))
      ∙ (λ i. back_layer (basis_at N l) (part_of N ws qs l) (nodes i) (after i))

  row_slots_same : (l : ℕ) → l < length ws - 1
      → row_slots N ps ws xs ts scale (length ws - 1) l ≡ row_slots N qs ws xs ts scale (length ws - 1) l
  row_slots_same l h =
      let k = length ws - 1 - suc l in
      let ups = ups_of N ps ws xs ts scale (suc l) k in
      let nodes = same_nodes l (omega arith) in
      let after = ups_same (suc l) k (omega arith) in
      slots_same (basis_at N l) two.begins _ _ (nodes_of N ps ws xs l) ups (alike l ups h (above_wide (suc l) k))
      ∙ (λ i. layer_slots (basis_at N l) (part_of N ws qs l) (nodes i) (after i))

  pub gradient_same : row_gradient N ps ws xs ts scale ≡ row_gradient N qs ws xs ts scale
  unfolding row_gradient
  gradient_same = flat_ext _ _ (length ws - 1) row_slots_same

  -- ---- at silent coefficients
  -- an edge's cell s is a coefficient's, of which the basis value is zero
  cell_dead : (l o i : ℕ) (es : List Float) (up : Float) → suc l ≤ length ws - 1 → o < width_at ws (suc l) → i < width_at ws l → (s : ℕ)
      → s < N.stride → D (place_of N.stride ws l o i s) ≡ true → Dead (slot_of (basis_at N l) es (at (nodes_of N ps ws xs l) i) up s)
  unfolding slot_of
  cell_dead l o i es up h ol il zero sl d = absurd (no_weight two l o i 0 (omega arith) d)
  cell_dead l o i es up h ol il (suc zero) sl d = absurd (no_weight two l o i 1 (omega arith) d)
  cell_dead l o i es up h ol il (suc (suc k)) sl d =
      mul_dead _ _ (silent l o i k (omega arith) ol il (omega arith) (ap (λ (s : ℕ). D (place_of N.stride ws l o i s)) (omega arith) ∙ d)
      (reached l (omega arith))).0

  -- so all of a row's gradients, at the places of the set
  abbrev Hushed : Relation
  Hushed p y z = D p ≡ true → Dead y

  nothing : (p : ℕ) → Hushed p nan nan
  nothing p d = inr refl

  layer_hushed : (l : ℕ) → l < length ws - 1 → (start : ℕ) → start ≡ params_to N.stride ws l → (p : ℕ) → D (start + p) ≡ true
      → Dead (at (row_slots N ps ws xs ts scale (length ws - 1) l) p)
  layer_hushed l h start e =
      let per = N.stride in
      let ups = ups_of N ps ws xs ts scale (suc l) (length ws - 1 - suc l) in
      let inputs = nodes_length N ps ws xs wide l in
      let outputs = above_wide (suc l) (length ws - 1 - suc l) in
      cells_layer (λ p. Hushed (start + p)) (λ p. nothing (start + p)) (basis_at N l) N.start N.start (part_of N ws ps l)
      (nodes_of N ps ws xs l) ups (λ o i s ol il sl d.
      cell_dead l o i _ _ h (subst (λ (n : ℕ). o < n) outputs ol) (subst (λ (n : ℕ). i < n) inputs il) s sl
      (subst (λ (n : ℕ). D (params_to per ws l + (o * (n * per) + (i * per + s))) ≡ true) inputs
      (subst (λ (n : ℕ). D (n + (o * (length (nodes_of N ps ws xs l) * per) + (i * per + s))) ≡ true) e d)))

  pub gradient_hushed : (p : ℕ) → D p ≡ true → Dead (at (row_gradient N ps ws xs ts scale) p)
  unfolding row_gradient
  gradient_hushed =
      let layers = length ws - 1 in
      cells_flat Hushed nothing (row_slots N ps ws xs ts scale layers) (row_slots N ps ws xs ts scale layers) layers (λ l h. refl) (λ l h.
      layer_hushed l h (length (flat_to (row_slots N ps ws xs ts scale layers) l))
      (flat_params N.stride ws (row_slots N ps ws xs ts scale layers) l (λ j k.
      layer_length (basis_at N j) _ _ _ ∙ rw (nodes_length N ps ws xs wide j, above_wide (suc j) (layers - suc j), add-one j))))
