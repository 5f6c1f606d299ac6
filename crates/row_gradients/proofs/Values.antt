-- The node values in the work: where a row stands at a layer, and one layer more. Assumes nothing.
use Rattle.std.specs.Prelude.{Ok, Err}
use mathlib.Core.Path.{◌≡◌, refl, sym, ap, ◌∙◌}
use mathlib.Core.Bool.{true}
use mathlib.Core.Logic.{⊎_elim}
use mathlib.Core.List.{List, ◌++◌}
use Prim.Native.Nat.{ℕ, suc, ◌+◌, ◌-◌, ◌*◌, ◌≤◌, ◌<◌}
use native.Mathlib.Nat.{eq-or-lt_of_le}
use native.Mathlib.Numerals.{add-one}
use native.Mathlib.Omega.{arith}
use lib.ListN.{length, take, drop}
use lib.Seq.{take_at, drop-drop}
use lib.Ieee.{Float}
use Rattle.floats.specs.Places.{part_at, written_at}
use Rattle.floats.specs.Sums.{all_to, all_finite}
use Rattle.floats.proofs.Loops.{rest, all_none, all_more, all_stop}
use Rattle.floats.proofs.Places.{part_is, written_length, written_there, written_before, written_after, written_front}
use Rattle.refusals.specs.declared.Refusal.{Refusal}
use Rattle.refusals.specs.Refusals.{◌otherwise◌, Outcome, outcome_of}
use Rattle.refusals.proofs.Firsts.{test_passes, not_refused}
use Rattle.spline.specs.declared.Grid.{Grid}
use Rattle.layers.specs.Basis.{Basis}
use Rattle.layers.specs.Net.{Net, net_of, basis_of}
use Rattle.layers.specs.Widths.{width_at, params_to, widths_to, nodes_in}
use Rattle.layers.specs.Layer.{layer_of}
use Rattle.layer_cursor.specs.declared.Layer.{Layer}
use Rattle.layer_cursor.specs.Cursor.{Stands}
use Rattle.layer_cursor.proofs.Cursors.{widths_room}
use Rattle.passes.specs.Pass.{nodes_of, finite_after, nodes_finite}
use Rattle.passes.proofs.Passes.{layer_length}
use Rattle.row_gradients.specs.Calls.{two_n, WorkFits, Nodes, NodesFilled}
use Rattle.row_gradients.specs.Steps.{LayerFilled}
use Rattle.row_gradients.proofs.Spans.{Lies, lies, refit, first_width}
use Rattle.row_gradients.proofs.Tests.{test_fails, never_ok}

-- 20, where not all values are finite
abbrev finite_or_20 : List Float → Outcome
finite_or_20 xs = outcome_of (all_finite xs otherwise 20) 0

-- a test of what a layer has written is one of its values
pub tested : {B : Basis} {ps : List Float} {from w to n : ℕ} {W W' : List Float} {r : Outcome} → to + n ≤ length W
    → W' ≡ written_at W to (layer_of B ps (part_at W from w) n)
    → r ≡ outcome_of (all_finite (take (to + n - to) (drop to W')) otherwise 20) 0 → LayerFilled B ps from w to n W W' r
tested {B} {ps} {from} {w} {to} {n} {W} {W'} h p q =
    let values = layer_of B ps (part_at W from w) n in
    let long : length values ≡ n = layer_length B ps (part_at W from w) n in
    let there = rw long at (written_there W to values (omega (arith, long))) in
    record { answer = q ∙ ap finite_or_20 (part_is W' to n ∙ rw p there); work = p }

-- ---- at layer l, from the work W₀, which has the row xs at its front
pub record Valued (g : Grid) (ps : List Float) (ws : List ℕ) (xs W₀ : List Float) (l : ℕ) (c : Layer) (W : List Float) :
    Type 0 where
  pub bound : l ≤ length ws - 1
  pub stands : Stands g ws l c
  pub nodes : Nodes (net_of g) ps ws xs W (l + 1)
  pub finite : all_to (finite_after (net_of g) ps ws xs) l ≡ true
  pub size : length W ≡ length W₀
  pub rest : drop (nodes_in ws) W ≡ drop (nodes_in ws) W₀

-- ---- after layer l: the next values stand in their place too, and r is 20 if they are not finite
pub record FilledNext (g : Grid) (ps : List Float) (ws : List ℕ) (xs W₀ : List Float) (l : ℕ) (W : List Float)
    (r : Outcome) : Type 0 where
  pub more : l < length ws - 1
  pub nodes : Nodes (net_of g) ps ws xs W (l + 1 + 1)
  pub finite : all_to (finite_after (net_of g) ps ws xs) l ≡ true
  pub answer : r ≡ finite_or_20 (nodes_of (net_of g) ps ws xs (suc l))
  pub size : length W ≡ length W₀
  pub rest : drop (nodes_in ws) W ≡ drop (nodes_in ws) W₀

module _ {g : Grid} {ps : List Float} {ws : List ℕ} {xs W₀ : List Float} where
  -- the row was copied to the front of the work U
  pub set_out : {c : Layer} (U : List Float) → Stands g ws 0 c → length xs ≡ width_at ws 0
      → W₀ ≡ xs ++ drop (length xs) U → Valued g ps ws xs W₀ 0 c W₀
  unfolding nodes_of widths_to
  set_out U s e p = record {
    bound = omega arith;
    stands = s;
    nodes = λ j h. let z : j ≡ 0 = omega arith in rw (z, p) (take_at xs (drop (length xs) U) (width_at ws 0) e);
    finite = all_none _;
    size = refl;
    rest = refl;
  }

  -- one layer more
  pub one_layer : {l : ℕ} {d : Layer} {W : List Float} → FilledNext g ps ws xs W₀ l W (Ok tt) → Stands g ws (l + 1) d
      → Valued g ps ws xs W₀ (l + 1) d W
  one_layer {l} t s = record {
    bound = omega (arith, t.more);
    stands = s;
    nodes = t.nodes;
    finite = all_more _ l t.finite (test_passes _ 19 (not_refused _ 0 (sym t.answer)));
    size = t.size;
    rest = t.rest;
  }

  -- a stop at a value that is not finite, and the end of the way
  pub stopped : {l : ℕ} {W : List Float} {e : Refusal} → FilledNext g ps ws xs W₀ l W (Err e)
      → NodesFilled (net_of g) ps ws xs W₀ W (Err e)
  unfolding nodes_finite
  stopped {l} t =
      let wrong = test_fails _ 20 0 _ (sym t.answer) in
      record {
        answer = rw (all_stop (finite_after (net_of g) ps ws xs) l (length ws - 1) t.more wrong) (rw wrong at t.answer);
        nodes = λ z. never_ok z;
        rest = t.rest;
      }

  pub arrived : {l : ℕ} {c : Layer} {W : List Float} → length ws - 1 ≤ l → Valued g ps ws xs W₀ l c W
      → NodesFilled (net_of g) ps ws xs W₀ W (Ok tt)
  unfolding nodes_finite
  arrived {l} h k =
      let e : l ≡ length ws - 1 = omega (arith, k.bound) in
      let all : all_to (finite_after (net_of g) ps ws xs) (length ws - 1) ≡ true = rw (← e) k.finite in
      record { answer = rw all; nodes = λ z j i. k.nodes j (omega arith); rest = k.rest }

-- the copy left what lies past the nodes
pub copied : {g : Grid} {ps : List Float} {ws : List ℕ} {xs U W W' : List Float} {r : Outcome} → WorkFits g ps ws U
    → length xs ≡ width_at ws 0 → W ≡ xs ++ drop (length xs) U → NodesFilled (net_of g) ps ws xs W W' r
    → NodesFilled (net_of g) ps ws xs U W' r
copied {g} {ps} {ws} {xs} {U} {W} f e p y =
    let first = first_width f.walkable in
    let fits : 0 + length xs ≤ length U = omega (arith, f.work) in
    let past = written_after U 0 xs fits (nodes_in ws) (omega arith) in
    record { answer = y.answer; nodes = y.nodes; rest = y.rest ∙ rw (written_front U xs W p) past }

-- ---- in a turn at layer l, whose cursor is c, of a row whose model and work fit; the next layer's is d
pub record Filling (g : Grid) (ps : List Float) (ws : List ℕ) (xs W₀ : List Float) (l : ℕ) (c d : Layer)
    (W : List Float) : Type 0 where
  pub fits : WorkFits g ps ws W
  pub more : l < length ws - 1
  pub valued : Valued g ps ws xs W₀ l c W
  pub next : Stands g ws (l + 1) d

pub filling : {g : Grid} {ps : List Float} {ws : List ℕ} {xs U W₀ : List Float} {l : ℕ} {c d : Layer} {W : List Float}
    → WorkFits g ps ws U → length W₀ ≡ length U → l < length ws - 1 → Valued g ps ws xs W₀ l c W
    → Stands g ws (c.index + 1) d → Filling g ps ws xs W₀ l c d W
filling f size h v n = record { fits = refit f (v.size ∙ size); more = h; valued = v; next = rw v.stands.index at n }

module _ {g : Grid} {ps : List Float} {ws : List ℕ} {xs W₀ : List Float} {l : ℕ} {c d : Layer} {W : List Float}
    (t : Filling g ps ws xs W₀ l c d W) where
  -- where the layer lies
  pub lie : Lies g ps ws W c
  lie = lies t.fits t.more t.valued.stands

  -- the layer's values, as the layer has written them just after those that it read
  abbrev from : ℕ
  from = widths_to ws l

  abbrev to : ℕ
  to = widths_to ws (l + 1)

  abbrev values : List Float
  values =
      layer_of (basis_of g) (drop (params_to (g.intervals + 5) ws l) ps) (part_at W from (width_at ws l))
      (width_at ws (l + 1))

  long : length values ≡ width_at ws (l + 1)
  long = layer_length (basis_of g) _ _ (width_at ws (l + 1))

  in_n : to + length values ≤ nodes_in ws
  in_n = omega (arith, long, widths_room ws (l + 1) (length ws) (omega (arith, t.more)))

  room : to + length values ≤ length W
  room = omega (arith, in_n, t.fits.work)

  values_are : values ≡ nodes_of (net_of g) ps ws xs (suc l)
  unfolding nodes_of
  values_are = rw (t.valued.nodes l (omega arith), add-one l)

  module _ {W' : List Float} (p : W' ≡ written_at W to values) where
    next_nodes : Nodes (net_of g) ps ws xs W' (l + 1 + 1)
    next_nodes j i = ⊎_elim new old (eq-or-lt_of_le (omega arith))
      where
        new : j ≡ l + 1 → part_at W' (widths_to ws j) (width_at ws j) ≡ nodes_of (net_of g) ps ws xs j
        new e =
            let there = rw long at (written_there W to values room) in
            rw (e, p) (there ∙ values_are ∙ ap (nodes_of (net_of g) ps ws xs) (sym (add-one l)))

        old : j < l + 1 → part_at W' (widths_to ws j) (width_at ws j) ≡ nodes_of (net_of g) ps ws xs j
        old z =
            rw p (written_before W to values room (widths_to ws j) (width_at ws j) (widths_room ws j (l + 1) z))
            ∙ t.valued.nodes j z

    filled : {r : Outcome} → r ≡ finite_or_20 values → FilledNext g ps ws xs W₀ l W' r
    filled q = record {
      more = t.more;
      nodes = next_nodes;
      finite = t.valued.finite;
      answer = q ∙ ap finite_or_20 values_are;
      size = rw p (written_length W to values room) ∙ t.valued.size;
      rest = rw p (written_after W to values room (nodes_in ws) in_n) ∙ t.valued.rest;
    }

  -- what the layer leaves, as the cursors have its places
  pub left : {W' : List Float} {r : Outcome}
      → LayerFilled (basis_of c.mesh.grid) (take (length ps - c.at) (drop c.at ps)) c.node c.inputs d.node
      c.outputs W W' r
      → FilledNext g ps ws xs W₀ l W' r
  left {W'} {r} y =
      let s = t.valued.stands in
      let z : LayerFilled (basis_of g) (drop (params_to (g.intervals + 5) ws l) ps) from (width_at ws l) to
      (width_at ws (l + 1)) W W' r =
      rw (rest c.at ps, s.mesh, s.part, s.nodes, s.inputs, s.outputs, t.next.nodes) at y in
      filled z.work z.answer

-- ---- a row that passes: all its values stand in the work, the row itself at the front
pub row_front : {g : Grid} {ps : List Float} {ws : List ℕ} {xs W : List Float} → WorkFits g ps ws W
    → Nodes (net_of g) ps ws xs W (length ws) → take (width_at ws 0) W ≡ xs
unfolding widths_to nodes_of
row_front f k = k 0 (omega (arith, f.walkable.some))

-- what lies past 2N is as it was, since what lies past N is
pub further : {N : Net} {ps : List Float} {ws : List ℕ} {xs W W' : List Float} {r : Outcome}
    → NodesFilled N ps ws xs W W' r → drop (two_n ws) W' ≡ drop (two_n ws) W
further {ws = ws} {W = W} {W'} f =
    let n = nodes_in ws in
    let two : 2 * n ≡ n + n = omega arith in
    rw two (sym (drop-drop n n W') ∙ ap (drop n) f.rest ∙ drop-drop n n W)
