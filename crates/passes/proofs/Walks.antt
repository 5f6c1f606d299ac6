-- A row's way through two slices: where it stands at a layer, and one layer more. Assumes nothing.
use Rattle.std.specs.Prelude.{Ok, Err}
use mathlib.Core.Path.{◌≡◌, refl, sym, ap, ◌∙◌}
use mathlib.Core.Bool.{Bool, true, false}
use mathlib.Core.List.{List}
use Prim.Native.Nat.{ℕ, suc, ◌+◌, ◌-◌, ◌*◌, ◌≤◌, ◌<◌}
use native.Mathlib.Nat.{le_trans}
use native.Mathlib.Numerals.{add-one}
use native.Mathlib.Omega.{arith}
use lib.ListN.{length, take, drop}
use lib.Ieee.{Float}
use Rattle.floats.specs.Sums.{all_to, all_finite}
use Rattle.floats.proofs.Loops.{rest, rest_length, all_none, all_more, all_stop}
use Rattle.refusals.specs.declared.Refusal.{Refusal}
use Rattle.refusals.specs.Refusals.{◌otherwise◌, Outcome, outcome_of}
use Rattle.refusals.proofs.Firsts.{test_passes, not_refused}
use Rattle.spline.specs.declared.Grid.{Grid}
use Rattle.local_basis.specs.Fours.{Finite}
use Rattle.layers.specs.Net.{net_of, basis_of}
use Rattle.layers.specs.Widths.{width_at, params_to}
use Rattle.layers.specs.Layer.{layer_of}
use Rattle.layer_cursor.specs.declared.Layer.{Layer}
use Rattle.layer_cursor.specs.Cursor.{Stands}
use Rattle.layer_cursor.proofs.Cursors.{inside}
use Rattle.passes.proofs.Passes.{Kept, kept_all, kept_turn, turn_values, finite_part}
use Rattle.passes.specs.Pass.{nodes_of, finite_after, nodes_finite}
use Rattle.passes.specs.Turns.{holder, Turns, Turned, Fits, Layered}

-- a check that refuses has a test that fails
test_fails : (b : Bool) (n : ℕ) (e : Refusal) → Err e ≡ outcome_of (b otherwise n) 0 → b ≡ false
test_fails true n e p = cc
test_fails false n e p = refl

-- ---- at layer l, from the slices a₀ and b₀, with xs at the front of b₀
pub record Walked (g : Grid) (ps : List Float) (ws : List ℕ) (xs a₀ b₀ : List Float) (l : ℕ) (c : Layer) (a b : List Float) : Type 0 where
  pub bound : l ≤ length ws - 1
  pub stands : Stands g ws l c
  pub values : take (width_at ws l) (holder l a b) ≡ nodes_of (net_of g) ps ws xs l
  pub finite : all_to (finite_after (net_of g) ps ws xs) l ≡ true
  pub kept : Kept ws a₀ b₀ a b

-- ---- after the turn at layer l: the next layer's values stand at the front of the next holder, and r says if they are finite
pub record Left (g : Grid) (ps : List Float) (ws : List ℕ) (xs a₀ b₀ : List Float) (l : ℕ) (a b : List Float) (r : Outcome) : Type 0 where
  pub more : l < length ws - 1
  pub values : take (width_at ws (l + 1)) (holder (l + 1) a b) ≡ nodes_of (net_of g) ps ws xs (suc l)
  pub finite : all_to (finite_after (net_of g) ps ws xs) l ≡ true
  pub answer : r ≡ outcome_of (finite_after (net_of g) ps ws xs l otherwise 20) 0
  pub kept : Kept ws a₀ b₀ a b

module _ {g : Grid} {ps : List Float} {ws : List ℕ} {xs a₀ b₀ : List Float} where
  pub set_out : {c : Layer} → Stands g ws 0 c → take (width_at ws 0) b₀ ≡ xs → Walked g ps ws xs a₀ b₀ 0 c a₀ b₀
  unfolding nodes_of
  set_out s p = record { bound = omega arith; stands = s; values = p; finite = all_none _; kept = kept_all ws a₀ b₀ }

  -- what a turn works out is the next layer's values
  next_values : {l : ℕ} {c : Layer} {a b : List Float} → Walked g ps ws xs a₀ b₀ l c a b
      → layer_of (basis_of g) (drop (params_to (g.intervals + 5) ws l) ps) (take (width_at ws l) (holder l a b)) (width_at ws (l + 1))
      ≡ nodes_of (net_of g) ps ws xs (suc l)
  unfolding nodes_of
  next_values {l} k = rw (k.values, add-one l)

  -- one layer more
  pub one_layer : {l : ℕ} {d : Layer} {a b : List Float} {r : Outcome} → r ≡ Ok tt → Left g ps ws xs a₀ b₀ l a b r → Stands g ws (l + 1) d
      → Walked g ps ws xs a₀ b₀ (l + 1) d a b
  one_layer {l} e t s = record {
    bound = omega (arith, t.more);
    stands = s;
    values = t.values ∙ ap (nodes_of (net_of g) ps ws xs) (sym (add-one l));
    finite = all_more _ _ t.finite (test_passes _ 19 (not_refused _ 0 (sym t.answer ∙ e)));
    kept = t.kept;
  }

  -- a stop at a value that is not finite, and the end of the way
  pub stopped : {l : ℕ} {a b : List Float} {r : Outcome} {e : Refusal} → r ≡ Err e → Left g ps ws xs a₀ b₀ l a b r
      → Layered (net_of g) ps ws xs a₀ b₀ a b (Err e)
  unfolding nodes_finite
  stopped {l} {e = e} p t =
      let here : Err e ≡ outcome_of (finite_after (net_of g) ps ws xs l otherwise 20) 0 = sym p ∙ t.answer in
      record {
        finite = rw (all_stop _ l (length ws - 1) t.more (test_fails _ 20 e here)) (rw (test_fails _ 20 e here) at here);
        outputs = λ q. cc;
        first = t.kept.first;
        second = t.kept.second;
      }

  pub arrived : {l : ℕ} {c : Layer} {a b : List Float} → l ≡ length ws - 1 → Walked g ps ws xs a₀ b₀ l c a b
      → Layered (net_of g) ps ws xs a₀ b₀ a b (Ok tt)
  unfolding nodes_finite
  arrived e k = record {
    finite = rw (← e, k.finite);
    outputs = λ q. rw (← e) k.values;
    first = k.kept.first;
    second = k.kept.second;
  }

-- ---- in a turn at layer l, with a mesh of the grid h, of a row whose model and slices fit
pub record Turning (g : Grid) (ps : List Float) (ws : List ℕ) (xs a₀ b₀ : List Float) (l : ℕ) (c : Layer) (h : Grid)
    (a b : List Float) : Type 0 where
  pub fits : Fits g ps ws a₀ b₀
  pub mesh : h ≡ g
  pub more : l < length ws - 1
  pub walked : Walked g ps ws xs a₀ b₀ l c a b

pub in_turn : {g : Grid} {ps : List Float} {ws : List ℕ} {xs a₀ b₀ : List Float} {l : ℕ} {c : Layer} {h : Grid} {a b : List Float}
    → Fits g ps ws a₀ b₀ → h ≡ g → l < length ws - 1 → Walked g ps ws xs a₀ b₀ l c a b
    → Turning g ps ws xs a₀ b₀ l c h a b
in_turn f e n k = record { fits = f; mesh = e; more = n; walked = k }

module _ {g : Grid} {ps : List Float} {ws : List ℕ} {xs a₀ b₀ : List Float} {l : ℕ} {c : Layer} {h : Grid} {a b : List Float}
    (t : Turning g ps ws xs a₀ b₀ l c h a b) where
  stood : Stands g ws l c
  stood = t.walked.stands

  -- the layer's part lies in the model
  pub part_in : c.at + c.outputs * (c.inputs * (g.intervals + 5)) ≤ length ps
  part_in = le_trans (inside g ws l c t.more stood) t.fits.params

  -- any width of the configuration has room in both slices
  room_a : (j : ℕ) → j < length ws → width_at ws j ≤ length a
  room_a j i = rw t.walked.kept.size_a (t.fits.first j i)

  room_b : (j : ℕ) → j < length ws → width_at ws j ≤ length b
  room_b j i = rw t.walked.kept.size_b (t.fits.second j i)

  -- its cursor's number is l, from which it goes on
  pub next_here : {d : Layer} → Stands g ws (c.index + 1) d → Stands g ws (l + 1) d
  next_here s = rw stood.index at s

  -- what the turn asks
  pub may_turn : Finite (length ps) ps → Turns h (take (length ps - c.at) (drop c.at ps)) c.inputs c.outputs a b
  may_turn y =
      let now : l < length ws = omega (arith, t.more) in
      let then : l + 1 < length ws = omega (arith, t.more) in
      rw (t.mesh, stood.inputs, stood.outputs) (record {
        layer = record {
          some = t.fits.walkable.positive (l + 1) then;
          there = rw (← stood.inputs, ← stood.outputs, rest_length) (omega (arith, part_in));
          finite = rw (← stood.inputs, ← stood.outputs) (finite_part c.at _ ps y part_in);
        };
        from_first = room_a l now;
        from_second = room_b l now;
        to_first = room_a (l + 1) then;
        to_second = room_b (l + 1) then;
      })

  -- and what it leaves
  pub left : {a' b' : List Float} {r : Outcome}
      → Turned (basis_of h) (take (length ps - c.at) (drop c.at ps)) l c.inputs c.outputs a b a' b' r
      → Left g ps ws xs a₀ b₀ l a' b' r
  left {a'} {b'} {r} y =
      let then : l + 1 < length ws = omega (arith, t.more) in
      let z : Turned (basis_of g) (drop (params_to (g.intervals + 5) ws l) ps) l (width_at ws l) (width_at ws (l + 1)) a b a' b' r =
      rw (rest c.at ps, t.mesh, stood.part, stood.inputs, stood.outputs) at y in
      record {
        more = t.more;
        values = turn_values _ _ _ _ _ _ _ _ _ _ z ∙ next_values t.walked;
        finite = t.walked.finite;
        answer = z.finite ∙ ap (λ (s : List Float). outcome_of (all_finite s otherwise 20) 0) (next_values t.walked);
        kept = kept_turn _ _ ws a₀ b₀ l _ _ a b _ _ _ (room_a (l + 1) then) (room_b (l + 1) then) (λ n q. q (l + 1) then) z
            t.walked.kept;
      }
