-- A row's gradient as a whole: made of values and gradients in their places, its length, sums with it that are never
-- -0.0, and a row's way there and back. Assumes nothing.
use Rattle.std.specs.Prelude.{Ok, Err}
use mathlib.Core.Path.{◌≡◌, refl, sym, ap, ◌∙◌}
use mathlib.Core.Bool.{Bool, true, false}
use mathlib.Core.List.{List}
use Prim.Native.Nat.{ℕ, zero, suc, ◌+◌, ◌-◌}
use native.Mathlib.Numerals.{add-one}
use native.Mathlib.Omega.{arith}
use lib.ListN.{length, take, drop}
use lib.Ieee.{Float}
use Rattle.floats.specs.Sums.{flat_to}
use Rattle.floats.proofs.Loops.{tab_length}
use Rattle.refusals.specs.declared.Refusal.{Refusal}
use Rattle.refusals.proofs.Firsts.{test_passes, not_refused}
use Rattle.spline.specs.declared.Grid.{Grid}
use Rattle.layers.specs.Net.{Net, net_of, basis_at}
use Rattle.layers.specs.Widths.{width_at, parameters_in}
use Rattle.passes.specs.Pass.{nodes_finite}
use Rattle.passes.proofs.Passes.{nodes_length}
use Rattle.gradients.specs.Steps.{plus_of}
use Rattle.gradients.proofs.Adding.{flat_ext}
use Rattle.gradients.proofs.Edges.{layer_length}
use Rattle.fast_gradients.specs.Adding.{Clean}
use Rattle.fast_gradients.proofs.Clean.{Held, flat_held, layer_held, clean_plus}
use Rattle.row_gradients.specs.Backward.{ups_of, row_slots, row_gradient}
use Rattle.row_gradients.specs.Calls.{two_n, WorkFits, Nodes, NodesFilled, RowTaken}
use Rattle.row_gradients.specs.Steps.{Ups, Backed, slots_in}
use Rattle.row_gradients.proofs.Slots.{flat_params}
use Rattle.row_gradients.proofs.Spans.{refit}
use Rattle.row_gradients.proofs.Tests.{test_fails}
use Rattle.row_gradients.proofs.Ups.{back_length}
use Rattle.row_gradients.proofs.Values.{row_front, further}

module _ (N : Net) (ps : List Float) (ws : List ℕ) (xs ts : List Float) (scale : Float) where
  -- values and gradients in their places make the row's gradient
  pub row_slots_lem : (W : List Float) → Nodes N ps ws xs W (length ws) → Ups N ps ws xs ts scale W 1
      → flat_to (slots_in N ps ws W) (length ws - 1) ≡ row_gradient N ps ws xs ts scale
  unfolding row_gradient
  row_slots_lem W nodes ups =
      flat_ext (slots_in N ps ws W) (row_slots N ps ws xs ts scale (length ws - 1)) (length ws - 1)
      (λ l h. rw (nodes l (omega arith), ups (l + 1) (omega arith) (omega arith), add-one l))

  module _ (wide : length xs ≡ width_at ws 0) where
    pub ups_length : (l k : ℕ) → length (ups_of N ps ws xs ts scale l k) ≡ width_at ws l
    unfolding ups_of
    ups_length l zero = tab_length _ _
    ups_length l (suc k) = back_length (basis_at N l) _ _ _ ∙ nodes_length N ps ws xs wide l

    -- one number for each parameter
    pub row_length : length (row_gradient N ps ws xs ts scale) ≡ parameters_in N.stride ws
    unfolding row_gradient
    row_length =
        let up : (l : ℕ) → length (ups_of N ps ws xs ts scale (suc l) (length ws - 1 - suc l)) ≡ width_at ws (suc l) =
        λ l. ups_length (suc l) (length ws - 1 - suc l) in
        flat_params N.stride ws (row_slots N ps ws xs ts scale (length ws - 1)) (length ws - 1)
        (λ l h. layer_length (basis_at N l) _ _ _ ∙ rw (nodes_length N ps ws xs wide l, up l, add-one l))

  -- each of them is an f32, as every product is, so that gradients which are never -0.0 stay so
  row_held : Held (row_gradient N ps ws xs ts scale)
  unfolding row_gradient
  row_held = flat_held _ (λ l. layer_held (basis_at N l) _ _ _) (length ws - 1)

  pub row_clean : (n : ℕ) (ds e : List Float) → e ≡ plus_of ds (row_gradient N ps ws xs ts scale) → Clean n ds → Clean n e
  row_clean n ds e p c = rw p (clean_plus n ds (row_gradient N ps ws xs ts scale) row_held c)

-- ---- after the way forward: a row with a value that is not finite adds nothing
pub stopped : {N : Net} {ps : List Float} {ws : List ℕ} {xs ts : List Float} {scale : Float} {add : Bool}
    {gs W W' : List Float} {e : Refusal} → NodesFilled N ps ws xs W W' (Err e)
    → RowTaken N ps ws xs ts scale add gs W gs W' (Err e)
stopped y = record {
  answer = y.answer;
  gradients = rw (test_fails _ 20 0 _ (sym y.answer));
  rest = further y;
}

-- a row that passes has all its values in the work, itself at the front
pub record RowPassed (g : Grid) (ps : List Float) (ws : List ℕ) (xs W W' : List Float) : Type 0 where
  pub fits : WorkFits g ps ws W'
  pub finite : nodes_finite (net_of g) ps ws xs ≡ true
  pub nodes : Nodes (net_of g) ps ws xs W' (length ws)
  pub front : take (width_at ws 0) W' ≡ xs
  pub rest : drop (two_n ws) W' ≡ drop (two_n ws) W

pub passed : {g : Grid} {ps : List Float} {ws : List ℕ} {xs W W' : List Float} → WorkFits g ps ws W
    → length W' ≡ length W → NodesFilled (net_of g) ps ws xs W W' (Ok tt) → RowPassed g ps ws xs W W'
passed f size y =
    let nodes = y.nodes refl in
    let still = refit f size in
    record {
      fits = still;
      finite = test_passes _ 19 (not_refused _ 0 (sym y.answer));
      nodes = nodes;
      front = row_front still nodes;
      rest = further y;
    }

module _ {g : Grid} {ps : List Float} {ws : List ℕ} {xs W W' : List Float} (t : RowPassed g ps ws xs W W') where
  -- the values in the words of the way back, which takes the row from the work
  pub row_nodes : Nodes (net_of g) ps ws (take (width_at ws 0) W') W' (length ws)
  row_nodes = rw t.front t.nodes

  -- there, and no further
  pub only_tested : {ts : List Float} {scale : Float} {add : Bool} {gs : List Float} → add ≡ false
      → RowTaken (net_of g) ps ws xs ts scale add gs W gs W' (Ok tt)
  only_tested e = record { answer = rw t.finite; gradients = rw (t.finite, e); rest = t.rest }

  -- there and back, and every layer's part added
  pub added : {ts : List Float} {scale : Float} {add : Bool} {gs gs' W'' : List Float} → add ≡ true
      → Backed (net_of g) ps ws (take (width_at ws 0) W') ts scale W' W''
      → gs' ≡ plus_of gs (flat_to (slots_in (net_of g) ps ws W'') (length ws - 1))
      → RowTaken (net_of g) ps ws xs ts scale add gs W gs' W'' (Ok tt)
  added {ts} {scale} {gs = gs} {gs'} {W''} e y p =
      let back : Backed (net_of g) ps ws xs ts scale W' W'' = rw t.front at y in
      record {
        answer = rw t.finite;
        gradients = rw (t.finite, e) (p ∙ ap (plus_of gs) (row_slots_lem (net_of g) ps ws xs ts scale W'' back.nodes back.ups));
        rest = back.rest ∙ t.rest;
      }
