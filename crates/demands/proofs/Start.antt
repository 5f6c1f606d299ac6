-- A `dot` that starts at -0.0 in place of +0.0 changes no answer and no parameter: what it gives goes, after products, into a sum that
-- began at +0.0. Assumes nothing.
use Prim.Native.Nat.{ℕ, zero, suc, ◌+◌, ◌-◌, ◌*◌, ◌<◌}
use mathlib.Core.Path.{◌≡◌, refl, sym, ap, ◌∙◌, subst}
use mathlib.Core.Logic.{inl}
use mathlib.Core.Bool.{false}
use mathlib.Core.List.{List, ◌++◌}
use lib.Dec.{T}
use lib.ListN.{length, drop, get_or}
use lib.Ieee.{Float, nan, binary32, fits}
use lib.Ieee.Scale.{finite}
use lib.Ieee.Fits.{add-fits, mul-fits}
use Rattle.floats.specs.Binary32.{◌⊕◌, ◌⊗◌, ◌⊘◌, zero32, minus_zero32, whole32}
use Rattle.floats.specs.Sums.{at, sum_from, all_to, all_finite, flat_to, tabulate, zeros}
use Rattle.floats.specs.Zeros.{Alike}
use Rattle.floats.proofs.Sums.{plain_zero, Plain, sum_alike, alike_mul, alike_add, dot_start}
use Rattle.floats.proofs.Loops.{tab_ext, tab_length}
use Rattle.layers.specs.Basis.{Basis}
use Rattle.layers.specs.Net.{Net, basis_at}
use Rattle.layers.specs.Widths.{width_at, input_width, output_width}
use Rattle.layers.specs.Layer.{dot_of, edge_with, edge_of, node_of, layer_of}
use Rattle.spline.specs.declared.Grid.{Grid}
use Rattle.passes.specs.Pass.{nodes_of, outputs_of, nodes_finite, row_refusal, rows_of, rows_refusal, rows_done}
use Rattle.batches.specs.Batch.{row_at}
use Rattle.refusals.specs.Refusals.{◌otherwise◌, ◌then◌, first_to, done_to, past}
use Rattle.admission.specs.Admission.{up_to9_in_training}
use Rattle.gradients.specs.Gradient.{slot_of, back_of, input_gradient, back_layer, layer_slots}
use Rattle.row_gradients.specs.Backward.{output_gradient, ups_of, row_slots, row_gradient}
use Rattle.gradients.proofs.Edges.{layer_length}
use Rattle.batch_gradients.specs.Accumulate.{scale_of, gathered}
use Rattle.update.specs.Update.{moved_of}
use Rattle.forward.specs.Forward.{pass_refusal}
use Rattle.prediction.specs.Predict.{outputs_over}
use Rattle.touched_layer.specs.Touched.{touches, edge_touched, node_touched, layer_touched}
use Rattle.touched_row.specs.Touched.{row_touched}
use Rattle.visit_map.specs.Visits.{any_to, byte_of, marks_of}
use Rattle.loss.specs.Loss.{squared, sum_after, loss_row_fault, rows_loss_fault, mean_error}
use Rattle.training_step.specs.Step.{gradient_of, step_fault, stepped}
use Rattle.training.specs.Train.{from11_to19, model_after, fault_at, up_to19, train_fault, train_done}
use Rattle.demands.specs.Start.{starting_at}
use Rattle.demands.proofs.Places.{part_of}
use Rattle.demands.proofs.Cells.{Relation, table_at, cells_flat, cells_layer}

-- two numbers that a sum from +0.0 does not tell apart
abbrev Hidden : Relation
Hidden p y z = Alike y z × T (fits binary32 y)

nothing : (p : ℕ) → Hidden p nan nan
unfolding fits
nothing p = (inl refl, tt)

-- ---- a layer, as two networks show it that differ in the start of `dot`
module _ (N : Net) (l : ℕ) where
  abbrev B : Basis
  B = basis_at N l

  abbrev up : Basis
  up = basis_at (starting_at N zero32) l

  abbrev down : Basis
  down = basis_at (starting_at N minus_zero32) l

  -- ---- one edge: the same, or two zeros
  dot_alike : (f : ℕ → Float → Float) (cs : List Float) (x : Float) → Alike (dot_of up f cs x) (dot_of down f cs x)
  unfolding dot_of
  dot_alike f cs x = dot_start (at cs) (λ k. f k x) B.coefficients

  edge_alike : (ps : List Float) (x : Float) → Alike (edge_of up ps x) (edge_of down ps x)
  unfolding edge_of edge_with
  edge_alike ps x =
      alike_add _ _ _ (mul-fits binary32 (at ps 0) (B.silu x)) (alike_mul (at ps 1) _ _ (dot_alike B.value (drop 2 ps) x))

  edge_fits : (ps : List Float) (x : Float) → T (fits binary32 (edge_of up ps x))
  unfolding edge_of edge_with
  edge_fits ps x = add-fits binary32 (at ps 0 ⊗ B.silu x) (at ps 1 ⊗ dot_of up B.value (drop 2 ps) x)

  back_alike : (ps : List Float) (x u : Float) → Alike (back_of up ps x u) (back_of down ps x u)
  unfolding back_of
  back_alike ps x u =
      alike_mul u _ _ (alike_add _ _ _ (mul-fits binary32 (at ps 0) (B.silu_slope x))
      (alike_mul (at ps 1) _ _ (dot_alike B.slope (drop 2 ps) x)))

  back_fits : (ps : List Float) (x u : Float) → T (fits binary32 (back_of up ps x u))
  unfolding back_of
  back_fits ps x u = mul-fits binary32 u ((at ps 0 ⊗ B.silu_slope x) ⊕ (at ps 1 ⊗ dot_of up B.slope (drop 2 ps) x))

  -- ---- one layer: a node sums its edges from +0.0, an input its outputs
  layer_start : (ps xs : List Float) (n : ℕ) → layer_of up ps xs n ≡ layer_of down ps xs n
  unfolding layer_of node_of
  layer_start ps xs n =
      tab_ext _ _ n (λ o ol.
      sum_alike zero32 _ _ (length xs) plain_zero (λ i il. edge_fits _ (at xs i)) (λ i il. edge_alike _ (at xs i)))

  back_start : (ps xs us : List Float) → back_layer up ps xs us ≡ back_layer down ps xs us
  unfolding back_layer
  back_start ps xs us =
      tab_ext (input_gradient up ps xs us) (input_gradient down ps xs us) (length xs) (λ i il.
      sum_alike zero32 _ _ (length us) plain_zero (λ o ol. back_fits _ (at xs i) (at us o)) (λ o ol. back_alike _ (at xs i) (at us o)))

  slot_start : (es : List Float) (x u : Float) (p s : ℕ) → Hidden p (slot_of up es x u s) (slot_of down es x u s)
  unfolding slot_of
  slot_start es x u p zero = (inl refl, mul-fits binary32 u (B.silu x))
  slot_start es x u p (suc zero) =
      (alike_mul u _ _ (dot_alike B.value (drop 2 es) x), mul-fits binary32 u (dot_of up B.value (drop 2 es) x))
  slot_start es x u p (suc (suc k)) = (inl refl, mul-fits binary32 (u ⊗ at es 1) (B.value k x))

-- ---- a network
module _ (N : Net) where
  abbrev over : Net
  over = starting_at N zero32

  abbrev under : Net
  under = starting_at N minus_zero32

  -- ---- one row
  module _ (ps : List Float) (ws : List ℕ) where
    nodes_start : (xs : List Float) (l : ℕ) → nodes_of over ps ws xs l ≡ nodes_of under ps ws xs l
    unfolding nodes_of
    nodes_start xs zero = refl
    nodes_start xs (suc l) =
        layer_start N l (part_of N ws ps l) (nodes_of over ps ws xs l) (width_at ws (suc l))
        ∙ ap (λ (ns : List Float). layer_of (basis_at under l) (part_of N ws ps l) ns (width_at ws (suc l))) (nodes_start xs l)

    pub finite_start : (xs : List Float) → nodes_finite over ps ws xs ≡ nodes_finite under ps ws xs
    unfolding nodes_finite
    finite_start xs i = all_to (λ (l : ℕ). all_finite (nodes_start xs (suc l) i)) (length ws - 1)

    refusal_start : (xs : List Float) → row_refusal over ps ws xs ≡ row_refusal under ps ws xs
    unfolding row_refusal
    refusal_start xs = rw (finite_start xs)

    pub outputs_start : (xs : List Float) → outputs_of over ps ws xs ≡ outputs_of under ps ws xs
    outputs_start xs = nodes_start xs (length ws - 1)

    -- ---- `forward` and prediction
    pub pass_start : (xs : List Float) → pass_refusal over ps ws xs ≡ pass_refusal under ps ws xs
    unfolding pass_refusal
    pass_start xs = rw (refusal_start xs)

    module _ (xs : List Float) where
      abbrev row : ℕ → List Float
      row r = row_at xs (input_width ws) r

      pub rows_refusal_start : rows_refusal over ps ws xs ≡ rows_refusal under ps ws xs
      rows_refusal_start i = first_to (λ (r : ℕ). refusal_start (row r) i) (rows_of ws xs)

      pub rows_done_start : rows_done over ps ws xs ≡ rows_done under ps ws xs
      rows_done_start i = done_to (λ (r : ℕ). refusal_start (row r) i) (rows_of ws xs)

      pub outputs_over_start : (ys : List Float) → outputs_over over ps ws xs ys ≡ outputs_over under ps ws xs ys
      unfolding outputs_over
      outputs_over_start ys i =
          flat_to (λ (r : ℕ). outputs_start (row r) i) (rows_done_start i) ++ drop (rows_done_start i * output_width ws) ys

      -- ---- the visit map
      touched_start : (r : ℕ) → row_touched over ps ws (row r) ≡ row_touched under ps ws (row r)
      unfolding row_touched layer_touched node_touched edge_touched touches
      touched_start r i =
          flat_to (λ (l : ℕ). layer_touched (basis_at over l) (nodes_start (row r) l i) (width_at ws (l + 1))) (length ws - 1)

      pub marks_start : (rows n : ℕ) → marks_of over ps ws xs rows n ≡ marks_of under ps ws xs rows n
      unfolding marks_of
      marks_start rows n i = tabulate (λ (p : ℕ). byte_of (any_to (λ (r : ℕ). get_or (touched_start r i) p false) rows)) n

      -- ---- the loss
      module _ (ts : List Float) where
        abbrev target : ℕ → ℕ → Float
        target r k = at (row_at ts (output_width ws) r) k

        sum_start : (r : ℕ) → sum_after over ps ws xs ts r ≡ sum_after under ps ws xs ts r
        unfolding sum_after
        sum_start zero = refl
        sum_start (suc r) =
            let before = sum_start r in
            λ i. sum_from (before i) (λ k. squared (at (outputs_start (row r) i) k) (target r k)) (output_width ws)

        loss_row_start : (r : ℕ) → loss_row_fault over ps ws xs ts r ≡ loss_row_fault under ps ws xs ts r
        loss_row_start r i =
            finite_start (row r) i otherwise 20
            then first_to (λ k. finite (squared (at (outputs_start (row r) i) k) (target r k)) otherwise 21
            then finite (sum_from (sum_start r i) (λ j. squared (at (outputs_start (row r) i) j) (target r j)) (suc k)) otherwise 22)
            (output_width ws)

        pub rows_loss_start : rows_loss_fault over ps ws xs ts ≡ rows_loss_fault under ps ws xs ts
        rows_loss_start i = first_to (λ r. loss_row_start r i) (rows_of ws xs)

        pub mean_start : mean_error over ps ws xs ts ≡ mean_error under ps ws xs ts
        mean_start i = sum_start (rows_of ws xs) i ⊘ whole32 (rows_of ws xs * output_width ws)

    -- ---- a row's gradients: the spline weights' cells may be two zeros, all others are the same
    ups_start : (xs ts : List Float) (scale : Float) (l k : ℕ) → ups_of over ps ws xs ts scale l k ≡ ups_of under ps ws xs ts scale l k
    unfolding ups_of
    ups_start xs ts scale l zero = ap (λ (ns : List Float). tabulate (output_gradient ns ts scale) (width_at ws l)) (nodes_start xs l)
    ups_start xs ts scale l (suc k) =
        let after = ups_start xs ts scale (suc l) k in
        back_start N l (part_of N ws ps l) (nodes_of over ps ws xs l) (ups_of over ps ws xs ts scale (suc l) k)
        ∙ (λ i. back_layer (basis_at under l) (part_of N ws ps l) (nodes_start xs l i) (after i))

    module _ (xs ts : List Float) (scale : Float) where
      slots_start : (l k : ℕ) (p : ℕ)
          → Hidden p (at (layer_slots (basis_at over l) (part_of N ws ps l) (nodes_of over ps ws xs l) (ups_of over ps ws xs ts scale (suc l) k)) p)
          (at (layer_slots (basis_at under l) (part_of N ws ps l) (nodes_of under ps ws xs l) (ups_of under ps ws xs ts scale (suc l) k)) p)
      slots_start l k p =
          let part = part_of N ws ps l in
          let read = nodes_of over ps ws xs l in
          let above = ups_of over ps ws xs ts scale (suc l) k in
          subst (λ (ys : List Float). Hidden p (at (layer_slots (basis_at over l) part read above) p) (at ys p))
          (λ i. layer_slots (basis_at under l) part (nodes_start xs l i) (ups_start xs ts scale (suc l) k i))
          (cells_layer Hidden nothing (basis_at N l) zero32 minus_zero32 part read above
          (λ o i s ol il sl. slot_start N l (drop (i * N.stride) (drop (o * (length read * N.stride)) part)) (at read i) (at above o)
          (o * (length read * N.stride) + (i * N.stride + s)) s) p)

      same_sizes : (l k : ℕ)
          → length (ups_of over ps ws xs ts scale (suc l) k) * (length (nodes_of over ps ws xs l) * N.stride)
          ≡ length (ups_of under ps ws xs ts scale (suc l) k) * (length (nodes_of under ps ws xs l) * N.stride)
      same_sizes l k i = length (ups_start xs ts scale (suc l) k i) * (length (nodes_start xs l i) * N.stride)

      gradient_start : (p : ℕ) → Hidden p (at (row_gradient over ps ws xs ts scale) p) (at (row_gradient under ps ws xs ts scale) p)
      unfolding row_gradient
      gradient_start =
          let layers = length ws - 1 in
          cells_flat Hidden nothing (row_slots over ps ws xs ts scale layers) (row_slots under ps ws xs ts scale layers) layers
          (λ l h. layer_length (basis_at over l) _ _ _ ∙ same_sizes l (layers - suc l) ∙ sym (layer_length (basis_at under l) _ _ _))
          (λ l h. slots_start l (layers - suc l))

    -- ---- gradients added to a slice that has no -0.0: each cell sums its rows from there
    module _ (xs ts : List Float) where
      pub gathered_start : (v : ℕ) (scale : Float) (gs : List Float) (rows : ℕ) → ((p : ℕ) → p < length gs → Plain (at gs p))
          → gathered over ps ws xs ts v scale gs rows ≡ gathered under ps ws xs ts v scale gs rows
      unfolding gathered
      gathered_start v scale gs rows plain =
          let cells : (p r : ℕ) → _ = λ p r. gradient_start (row_at xs (input_width ws) r) (row_at ts v r) scale p in
          tab_ext _ _ (length gs) (λ p h.
          sum_alike (at gs p) _ _ rows (plain p h) (λ r l. (cells p r).1) (λ r l. (cells p r).0))

      -- ---- a step: from +0.0
      gradients_start : gradient_of over ps ws xs ts ≡ gradient_of under ps ws xs ts
      unfolding gradient_of
      gradients_start =
          gathered_start (output_width ws) (scale_of (rows_of ws xs * output_width ws)) (zeros (length ps)) (rows_of ws xs) begins
        where
          begins : (p : ℕ) → p < length (zeros (length ps)) → Plain (at (zeros (length ps)) p)
          begins p h =
              subst Plain (sym (table_at (λ (i : ℕ). zero32) (length ps) p
              (subst (λ (n : ℕ). p < n) (tab_length (λ (i : ℕ). zero32) (length ps)) h))) plain_zero

      stepped_start : (rate : Float) → stepped over ps ws xs ts rate ≡ stepped under ps ws xs ts rate
      unfolding stepped
      stepped_start rate i = moved_of ps (gradients_start i) rate

      step_fault_start : (rate : Float) → step_fault over ps ws xs ts rate ≡ step_fault under ps ws xs ts rate
      unfolding step_fault
      step_fault_start rate i =
          all_to (λ (r : ℕ). finite_start (row_at xs (input_width ws) r) i) (rows_of ws xs) otherwise 20
          then all_finite (stepped_start rate i) otherwise 23

  -- ---- training
  module _ (ws : List ℕ) (ps xs ts : List Float) (rate : Float) where
    model_start : (s : ℕ) → model_after over ps ws xs ts rate s ≡ model_after under ps ws xs ts rate s
    unfolding model_after
    model_start zero = refl
    model_start (suc s) =
        stepped_start (model_after over ps ws xs ts rate s) ws xs ts rate
        ∙ ap (λ (m : List Float). stepped under m ws xs ts rate) (model_start s)

    fault_start : (s : ℕ) → fault_at over ps ws xs ts rate s ≡ fault_at under ps ws xs ts rate s
    fault_start s =
        step_fault_start (model_after over ps ws xs ts rate s) ws xs ts rate
        ∙ ap (λ (m : List Float). step_fault under m ws xs ts rate) (model_start s)

    module _ (g : Grid) (gs W : List Float) (steps : ℕ) where
      pub train_fault_start : train_fault over ws g ps xs ts rate gs W steps ≡ train_fault under ws g ps xs ts rate gs W steps
      unfolding train_fault up_to19
      train_fault_start i =
          (up_to9_in_training ws g (length ps) (length gs) (length W) then from11_to19 ps ws xs ts rate)
          then first_to (λ (s : ℕ). fault_start s i) steps

      pub train_done_start : train_done over ws g ps xs ts rate gs W steps ≡ train_done under ws g ps xs ts rate gs W steps
      unfolding train_done up_to19
      train_done_start i =
          past (up_to9_in_training ws g (length ps) (length gs) (length W) then from11_to19 ps ws xs ts rate)
          (done_to (λ (s : ℕ). fault_start s i) steps) 0

      pub train_model_start : model_after over ps ws xs ts rate (train_done over ws g ps xs ts rate gs W steps)
          ≡ model_after under ps ws xs ts rate (train_done under ws g ps xs ts rate gs W steps)
      train_model_start =
          model_start (train_done over ws g ps xs ts rate gs W steps) ∙ ap (model_after under ps ws xs ts rate) train_done_start
