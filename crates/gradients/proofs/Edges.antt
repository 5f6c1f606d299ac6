-- What one edge, one output and one layer receive: their parts, and the lengths of these. Assumes nothing.
use mathlib.Core.Path.{◌≡◌, sym, ap, ◌∙◌}
use mathlib.Core.List.{List, ◌++◌}
use Prim.Native.Nat.{ℕ, suc, ◌+◌, ◌-◌, ◌*◌, ◌≤◌, ◌<◌}
use native.Mathlib.Omega.{arith}
use lib.ListN.{length, take, drop, set, length-set}
use lib.Ieee.{Float}
use borrow.Rule.Slice.PartMut.{put_mid}
use Rattle.floats.specs.Binary32.{◌⊕◌, ◌⊗◌}
use Rattle.floats.specs.Sums.{tabulate, flat_to, at}
use Rattle.floats.proofs.Loops.{tab_length, tab_ext, flat_length, room, rest, rest_length}
use Rattle.spline.specs.declared.Grid.{Grid}
use Rattle.layers.specs.Basis.{Basis}
use Rattle.layers.specs.Layer.{dot_of}
use Rattle.gradients.specs.Gradient.{slot_of, edge_slots, node_slots, layer_slots}
use Rattle.gradients.specs.Steps.{plus_of, Cells, weighted}
use Rattle.gradients.proofs.Adding.{tab_split, plus_start, plus_one, plus_part}

-- ---- one edge: the base weight's cell, the spline weight's, the coefficients'
module _ (B : Basis) (ps : List Float) (x up : Float) where
  slots_parts : (n m : ℕ) → m ≡ 2 + n
      → tabulate (slot_of B ps x up) m ≡ tabulate (slot_of B ps x up) 2 ++ tabulate (weighted B (up ⊗ at ps 1) x) n
  unfolding slot_of
  slots_parts n m e =
      ap (tabulate (slot_of B ps x up)) e ∙ tab_split (slot_of B ps x up) 2 n
      ∙ ap (λ (l : List Float). tabulate (slot_of B ps x up) 2 ++ l)
      (tab_ext (λ (k : ℕ). slot_of B ps x up (2 + k)) (weighted B (up ⊗ at ps 1) x) n
      (λ k h. let two : 2 + k ≡ suc (suc k) = omega arith in ap (slot_of B ps x up) two))

  pub edge_added : (n m : ℕ) (ds : List Float) (a b : Float) (y : List Float) → m ≡ 2 + n → m ≤ length ds
      → a ≡ at ds 0 ⊕ (up ⊗ B.silu x) → b ≡ at (set ds 0 a) 1 ⊕ (up ⊗ dot_of B B.value (drop 2 ps) x)
      → y ≡ plus_of (drop 2 (set (set ds 0 a) 1 b)) (tabulate (weighted B (up ⊗ at ps 1) x) n)
      → put_mid 2 (length (set (set ds 0 a) 1 b) - 2) (set (set ds 0 a) 1 b) y
      ≡ plus_of ds (tabulate (slot_of B ps x up) m)
  unfolding slot_of
  edge_added n m ds a b y e h p q r =
      let f = slot_of B ps x up in
      let base : set ds 0 a ≡ plus_of ds (tabulate f 1) = plus_one f 0 ds ds a (plus_start f ds) (omega arith) p in
      let spline : set (set ds 0 a) 1 b ≡ plus_of ds (tabulate f 2) =
      plus_one f 1 ds (set ds 0 a) b base (omega arith) q in
      plus_part ds (tabulate f 2) (tabulate (weighted B (up ⊗ at ps 1) x) n) 2 (set (set ds 0 a) 1 b) y spline
      (tab_length f 2)
      (simp length-set (omega arith)) r
      ∙ ap (plus_of ds) (sym (slots_parts n m e))

-- ---- parts of s cells each: a turn at the i-th, where the gradients ds have become e
pub record Turn (s i : ℕ) (ps ds e : List Float) : Type 0 where
  pub params : i * s + s ≤ length ps
  pub first : i * s + s ≤ length ds
  pub now : i * s + s ≤ length e

pub turn_at : {g : Grid} {ps ds : List Float} (e : List Float) (i n s : ℕ) → i < n → Cells g (n * s) ps ds
    → length e ≡ length ds
    → Turn s i ps ds e
turn_at {g} {ps} {ds} e i n s l c h =
    let first : i * s + s ≤ length ds = room i n s (length ds) l c.gradients in
    record { params = room i n s (length ps) l c.params; first = first; now = omega arith }

-- what it lends to a call
pub lent : {g : Grid} {s i : ℕ} {ps ds e : List Float} → g.intervals ≤ 250000 → Turn s i ps ds e
    → Cells g s (take (length ps - i * s) (drop (i * s) ps)) (take (length e - i * s) (drop (i * s) e))
lent {g} {s} {i} {ps} {ds} {e} h t = record {
  grid = h;
  params = rw rest_length (omega (arith, t.params));
  gradients = rw rest_length (omega (arith, t.now));
}

-- what the call added there is the edge's part, or the output's
pub edge_turn : (B : Basis) (ps xs : List Float) (up : Float) (i : ℕ) (e y : List Float)
    → (let a = i * B.stride in y ≡ plus_of (take (length e - a) (drop a e))
    (tabulate (slot_of B (take (length ps - a) (drop a ps)) (at xs i) up) B.stride))
    → y ≡ plus_of (drop (i * B.stride) e) (edge_slots B ps xs up i)
edge_turn B ps xs up i e y q = let a = i * B.stride in q ∙ rw (rest a e, rest a ps)

pub node_turn : (B : Basis) (ps xs ups : List Float) (o : ℕ) (e y : List Float)
    → (let a = o * (length xs * B.stride) in y ≡ plus_of (take (length e - a) (drop a e))
    (flat_to (edge_slots B (take (length ps - a) (drop a ps)) xs (at ups o)) (length xs)))
    → y ≡ plus_of (drop (o * (length xs * B.stride)) e) (node_slots B ps xs ups o)
node_turn B ps xs ups o e y q = let a = o * (length xs * B.stride) in q ∙ rw (rest a e, rest a ps)

pub node_length : (B : Basis) (ps xs ups : List Float) (o : ℕ) → length (node_slots B ps xs ups o)
    ≡ length xs * B.stride
node_length B ps xs ups o = flat_length _ B.stride (λ i. tab_length _ B.stride) (length xs)

pub layer_length : (B : Basis) (ps xs ups : List Float)
    → length (layer_slots B ps xs ups) ≡ length ups * (length xs * B.stride)
unfolding layer_slots
layer_length B ps xs ups = flat_length _ (length xs * B.stride) (node_length B ps xs ups) (length ups)
