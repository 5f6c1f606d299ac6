-- Two slices in turn: what a layer writes and keeps, and how many values a layer has. Assumes nothing.
use mathlib.Core.Path.{◌≡◌, refl, sym, ap, ◌∙◌}
use mathlib.Core.Bool.{Bool, true, false}
use mathlib.Core.List.{List, ◌++◌}
use Prim.Native.Nat.{ℕ, zero, suc, ◌+◌, ◌-◌, ◌%◌, ◌≤◌}
use native.Mathlib.Omega.{arith}
use lib.Dec.{eqb}
use lib.ListN.{length, take, drop, length-append, length-drop}
use lib.Seq.{take_at, drop_at, drop-drop}
use lib.Ieee.{Float}
use borrow.Author.Tests.{eq-eqb, ne_eqb, eqb-true, eqb-false}
use Rattle.floats.specs.Sums.{all_finite}
use Rattle.floats.proofs.Loops.{rest, tab_length, all_each}
use Rattle.refusals.specs.Refusals.{Outcome}
use Rattle.local_basis.specs.Fours.{Finite}
use Rattle.local_basis.proofs.Dots.{finite_drop}
use Rattle.layers.specs.Basis.{Basis}
use Rattle.layers.specs.Net.{Net, basis_at}
use Rattle.layers.specs.Widths.{width_at, output_width, params_to}
use Rattle.layers.specs.Layer.{layer_of}
use Rattle.passes.specs.Pass.{nodes_of, outputs_of}
use Rattle.passes.specs.Turns.{holder, AtMost, Turned}

-- ---- one layer at the front of a slice
pub layer_length : (B : Basis) (ps xs : List Float) (n : ℕ) → length (layer_of B ps xs n) ≡ n
unfolding layer_of
layer_length B ps xs n = tab_length _ n

-- what stands at the front of a slice that it was written to
pub taken : (B : Basis) (ps xs : List Float) (n : ℕ) (to to' : List Float) → to' ≡ layer_of B ps xs n ++ drop n to
    → take n to' ≡ layer_of B ps xs n
taken B ps xs n to to' p = ap (take n) p ∙ take_at (layer_of B ps xs n) (drop n to) n (layer_length B ps xs n)

-- ---- a list written over the front of another: what lies past it, and the length
pub past : (L : List Float) (n m : ℕ) (to to' : List Float) → length L ≡ n → n ≤ m → to' ≡ L ++ drop n to → drop m to' ≡ drop m to
past L n m to to' e h p =
    let s : n + (m - n) ≡ m = omega arith in
    let back : (l : List Float) → drop (m - n) (drop n l) ≡ drop m l = λ l. drop-drop (m - n) n l ∙ ap (λ (k : ℕ). drop k l) s in
    sym (back to') ∙ ap (λ (l : List Float). drop (m - n) (drop n l)) p ∙ ap (drop (m - n)) (drop_at L (drop n to) n e) ∙ back to

pub same_size : (L : List Float) (n : ℕ) (to to' : List Float) → length L ≡ n → n ≤ length to → to' ≡ L ++ drop n to
    → length to' ≡ length to
same_size L n to to' e h p = ap length p ∙ rw (length-append, length-drop) (omega arith)

-- ---- both slices keep their lengths and what lies past the largest width
pub record Kept (ws : List ℕ) (a₀ b₀ a b : List Float) : Type 0 where
  pub size_a : length a ≡ length a₀
  pub size_b : length b ≡ length b₀
  pub first : (m : ℕ) → AtMost ws m → drop m a ≡ drop m a₀
  pub second : (m : ℕ) → AtMost ws m → drop m b ≡ drop m b₀

pub kept_all : (ws : List ℕ) (a b : List Float) → Kept ws a b a b
kept_all ws a b = record { size_a = refl; size_b = refl; first = λ m h. refl; second = λ m h. refl }

pub kept_turn : (B : Basis) (ps : List Float) (ws : List ℕ) (a₀ b₀ : List Float) (l w n : ℕ) (a b a' b' : List Float) (r : Outcome)
    → n ≤ length a → n ≤ length b → ((m : ℕ) → AtMost ws m → n ≤ m) → Turned B ps l w n a b a' b' r → Kept ws a₀ b₀ a b
    → Kept ws a₀ b₀ a' b'
kept_turn B ps ws a₀ b₀ l w n a b a' b' r ra rb most t k = go (eqb (l % 2) 0) refl
  where
    go : (e : Bool) → eqb (l % 2) 0 ≡ e → Kept ws a₀ b₀ a' b'
    go true e =
        let pa : a' ≡ layer_of B ps (take w b) n ++ drop n a = rw e at t.first in
        let pb : b' ≡ b = rw e at t.second in
        record {
          size_a = same_size (layer_of B ps (take w b) n) n a a' (layer_length B ps (take w b) n) ra pa ∙ k.size_a;
          size_b = ap length pb ∙ k.size_b;
          first = λ m q. past (layer_of B ps (take w b) n) n m a a' (layer_length B ps (take w b) n) (most m q) pa ∙ k.first m q;
          second = λ m q. ap (drop m) pb ∙ k.second m q;
        }
    go false e =
        let pa : a' ≡ a = rw e at t.first in
        let pb : b' ≡ layer_of B ps (take w a) n ++ drop n b = rw e at t.second in
        record {
          size_a = ap length pa ∙ k.size_a;
          size_b = same_size (layer_of B ps (take w a) n) n b b' (layer_length B ps (take w a) n) rb pb ∙ k.size_b;
          first = λ m q. ap (drop m) pa ∙ k.first m q;
          second = λ m q. past (layer_of B ps (take w a) n) n m b b' (layer_length B ps (take w a) n) (most m q) pb ∙ k.second m q;
        }

-- the values that a turn writes stand at the front of the next holder
pub turn_values : (B : Basis) (ps : List Float) (l w n : ℕ) (a b a' b' : List Float) (r : Outcome) → Turned B ps l w n a b a' b' r
    → take n (holder (l + 1) a' b') ≡ layer_of B ps (take w (holder l a b)) n
turn_values B ps l w n a b a' b' r t = go (eqb (l % 2) 0) refl
  where
    go : (e : Bool) → eqb (l % 2) 0 ≡ e → take n (holder (l + 1) a' b') ≡ layer_of B ps (take w (holder l a b)) n
    go true e =
        let q : l % 2 ≡ 0 = eqb-true (l % 2) 0 e in
        let odd : eqb ((l + 1) % 2) 0 ≡ false = ne_eqb ((l + 1) % 2) 0 (λ (z : (l + 1) % 2 ≡ 0). omega arith) in
        rw (odd, e) (taken B ps (take w b) n a a' (rw e at t.first))
    go false e =
        let q : (l % 2 ≡ 0 → ⊥) = eqb-false (l % 2) 0 e in
        let even : eqb ((l + 1) % 2) 0 ≡ true = eq-eqb ((l + 1) % 2) 0 (omega arith) in
        rw (even, e) (taken B ps (take w a) n b b' (rw e at t.second))

-- ---- a model, and the values of its layers
-- a model with no parameter that is not finite (11), and a layer's part of it
pub finite_model : (ps : List Float) → all_finite ps ≡ true → Finite (length ps) ps
unfolding all_finite
finite_model ps e = all_each _ (length ps) e

pub finite_part : (a n : ℕ) (ps : List Float) → Finite (length ps) ps → a + n ≤ length ps → Finite n (take (length ps - a) (drop a ps))
finite_part a n ps f h = rw (rest a ps) (finite_drop a n (length ps) ps f h)

-- as many values as the layer has nodes
pub nodes_length : (N : Net) (ps : List Float) (ws : List ℕ) (xs : List Float) → length xs ≡ width_at ws 0 → (l : ℕ)
    → length (nodes_of N ps ws xs l) ≡ width_at ws l
unfolding nodes_of
nodes_length N ps ws xs e zero = e
nodes_length N ps ws xs e (suc l) =
    layer_length (basis_at N l) (drop (params_to N.stride ws l) ps) (nodes_of N ps ws xs l) (width_at ws (suc l))

pub outputs_length : (N : Net) (ps : List Float) (ws : List ℕ) (xs : List Float) → 2 ≤ length ws
    → length (outputs_of N ps ws xs) ≡ output_width ws
unfolding nodes_of
outputs_length N ps ws xs h = go (length ws - 1) (omega arith)
  where
    go : (l : ℕ) → 1 ≤ l → length (nodes_of N ps ws xs l) ≡ width_at ws l
    go zero h = absurd (omega arith)
    go (suc l) h = layer_length (basis_at N l) (drop (params_to N.stride ws l) ps) (nodes_of N ps ws xs l) (width_at ws (suc l))
