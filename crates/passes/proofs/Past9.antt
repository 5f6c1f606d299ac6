-- What the checks up to 9 give to a row's way through the layers, and what a sweep behind it leaves. Assumes nothing.
use Rattle.std.specs.Prelude.{Ok}
use mathlib.Core.Path.{◌≡◌, sym, ap, ◌∙◌}
use mathlib.Core.List.{List, ◌++◌}
use Prim.Native.Nat.{ℕ, ◌≤◌}
use native.Mathlib.Nat.{le_trans, le_of_eq}
use lib.ListN.{length, drop}
use lib.Ieee.{Float}
use Rattle.floats.specs.Sums.{zeros}
use Rattle.spline.specs.declared.Grid.{Grid}
use Rattle.layers.specs.Widths.{widest_in}
use Rattle.layer_cursor.specs.Cursor.{Walkable}
use Rattle.config.specs.declared.Sizes.{Sizes}
use Rattle.config.specs.Config.{sizes_of, checked_of}
use Rattle.config.specs.Sized.{Sized}
use Rattle.config.proofs.Answers.{accepted}
use Rattle.admission.specs.Admission.{up_to9, swept}
use Rattle.admission.proofs.Passed.{Past9, past9, swept_past}
use Rattle.passes.specs.Turns.{Past, Fits}

-- an accepted configuration can be walked
pub walkable : (ws : List ℕ) (g : Grid) → Sized ws g → Walkable g ws
walkable ws g z = record {
  grid = z.grid;
  some = z.some;
  positive = z.positive;
  small = z.small;
  narrow = z.few_nodes;
}

-- the model and both work slices fit it
pub fitted : (ws : List ℕ) (g : Grid) (ps a b : List Float) → Past9 ws g (length ps) (length a) (length b)
    → Fits g ps ws a b
fitted ws g ps a b p = record {
  walkable = walkable ws g p.size;
  first = λ j h. le_trans (p.size.within j h) p.first;
  second = λ j h. le_trans (p.size.within j h) p.second;
  params = le_of_eq (sym p.model);
}

-- a slice that was swept after the call's work
pub sweep : (ws : List ℕ) (g : Grid) (n x y : ℕ) (a a' a'' : List Float) → up_to9 ws g n x y ≡ 0 → Past ws a a'
    → a'' ≡ zeros (widest_in ws) ++ drop (widest_in ws) a' → a'' ≡ swept (up_to9 ws g n x y) (widest_in ws) a
sweep ws g n x y a a' a'' e p r =
    let within = (past9 ws g n x y e).size.within in
    swept_past _ _ _ _ e (r ∙ ap (λ (l : List Float). zeros (widest_in ws) ++ l) (p (widest_in ws) within))

-- ---- for a call that matches on the answer of its checks: they let it through, and the answer has the sizes s
pub record SoundPast9 (ws : List ℕ) (g : Grid) (n a b : ℕ) (s : Sizes) : Type 0 where
  pub passed : up_to9 ws g n a b ≡ 0
  pub checked : Past9 ws g n a b
  pub widest : s.widest ≡ widest_in ws

pub sound_past9 : (ws : List ℕ) (g : Grid) (n a b : ℕ) (s : Sizes)
    → checked_of (up_to9 ws g n a b) (sizes_of ws g) ≡ Ok s → SoundPast9 ws g n a b s
sound_past9 ws g n a b s e =
    let k = accepted (up_to9 ws g n a b) (sizes_of ws g) s e in
    record {
      passed = k.passed;
      checked = past9 ws g n a b k.passed;
      widest = ap (λ (z : Sizes). z.widest) (sym k.sizes);
    }

module _ {ws : List ℕ} {g : Grid} {n a b : ℕ} {s : Sizes} (k : SoundPast9 ws g n a b s) where
  -- both slices may be cleared
  pub first_room : s.widest ≤ a
  first_room = le_trans (le_of_eq k.widest) k.checked.first

  pub second_room : s.widest ≤ b
  second_room = le_trans (le_of_eq k.widest) k.checked.second

  -- and then are as the call must leave them
  pub swept_end : (l l' : List Float) {l'' : List Float} → Past ws l l'
      → l'' ≡ zeros s.widest ++ drop s.widest l' → l'' ≡ swept (up_to9 ws g n a b) (widest_in ws) l
  swept_end l l' {l''} p e =
      let cleared : l'' ≡ zeros (widest_in ws) ++ drop (widest_in ws) l' = rw k.widest at e in
      sweep ws g n a b l l' l'' k.passed p cleared
