-- A layer with the input outermost is the layer node by node: the outputs after each input. Assumes nothing.
use mathlib.Core.Path.{◌≡◌, refl, sym, ap, ◌∙◌}
use mathlib.Core.List.{List, ◌++◌}
use Prim.Native.Nat.{ℕ, ◌+◌, ◌*◌, ◌≤◌, ◌<◌}
use native.Mathlib.Numerals.{add-one}
use native.Mathlib.Omega.{arith}
use lib.ListN.{length, drop}
use lib.Ieee.{Float, nan}
use Rattle.floats.specs.Binary32.{◌⊕◌, zero32}
use Rattle.floats.specs.Sums.{sum_from, sum_to, tabulate, zeros, at}
use Rattle.floats.proofs.Loops.{tab_ext, tab_get, tab_drop, tab_kept}
use Rattle.layers.specs.Basis.{Basis}
use Rattle.layers.specs.Layer.{edge_of, node_of, layer_of}
use Rattle.fast_forward.specs.Inputs.{with_input, added_input}

-- input j's edge of an output
abbrev input_of : Basis → List Float → List Float → ℕ → Float
input_of B ps xs j = edge_of B (drop (j * B.stride) ps) (at xs j)

-- output o before input j
abbrev pub so_far : Basis → List Float → List Float → ℕ → ℕ → Float
so_far B ps xs j o = sum_to (input_of B (drop (o * (length xs * B.stride)) ps) xs) j

-- the outputs zs after j inputs, where those from n on are as ys has them
pub record Summed (B : Basis) (ps xs : List Float) (n : ℕ) (ys zs : List Float) (j : ℕ) : Type 0 where
  pub bound : j ≤ length xs
  pub size : length zs ≡ length ys
  pub sums : zs ≡ tabulate (so_far B ps xs j) n ++ drop n ys

module _ (B : Basis) (ps xs : List Float) (n : ℕ) where
  pub one_more : (j : ℕ) (ys zs zs' : List Float) → zs ≡ tabulate (so_far B ps xs j) n ++ drop n ys
      → zs' ≡ added_input B ps (length xs) j (at xs j) zs n → zs' ≡ tabulate (so_far B ps xs (j + 1)) n ++ drop n ys
  unfolding added_input sum_from
  one_more j ys zs zs' p q =
      q ∙ ap (λ (l : List Float). l ++ drop n zs)
      (tab_ext (with_input B ps (length xs) j (at xs j) zs) (so_far B ps xs (j + 1)) n step)
      ∙ ap (λ (l : List Float). tabulate (so_far B ps xs (j + 1)) n ++ l) (tab_drop (so_far B ps xs j) n ys zs p)
    where
      step : (o : ℕ) → o < n → with_input B ps (length xs) j (at xs j) zs o ≡ so_far B ps xs (j + 1) o
      step o h =
          let f = input_of B (drop (o * (length xs * B.stride)) ps) xs in
          ap (λ (y : Float). y ⊕ f j)
          (ap (λ (l : List Float). at l o) p ∙ tab_get (so_far B ps xs j) n o h (drop n ys) nan)
          ∙ ap (sum_to f) (sym (add-one j))

  -- zeros are the outputs before the first input
  pub summed_none : (ys zs : List Float) → zs ≡ zeros n ++ drop n ys → Summed B ps xs n zs zs 0
  unfolding sum_from
  summed_none ys zs p = record {
    bound = omega arith;
    size = refl;
    sums = p ∙ ap (λ (l : List Float). zeros n ++ l) (sym (tab_drop (λ (o : ℕ). zero32) n ys zs p));
  }

  pub summed_more : {ys zs : List Float} {j : ℕ} (zs' : List Float) → Summed B ps xs n ys zs j → j < length xs
      → n ≤ length ys → zs' ≡ added_input B ps (length xs) j (at xs j) zs n → Summed B ps xs n ys zs' (j + 1)
  unfolding added_input
  summed_more {ys} {zs} {j} zs' s l h q = record {
    bound = omega arith;
    size = tab_kept _ n zs zs' (omega (arith, s.size)) q ∙ s.size;
    sums = one_more j ys zs zs' s.sums q;
  }

  -- after the last input, where the outputs ds were first cleared to ys
  pub summed_all : {ys zs : List Float} {j : ℕ} (ds : List Float) → ys ≡ zeros n ++ drop n ds → Summed B ps xs n ys zs j
      → length xs ≤ j → zs ≡ layer_of B ps xs n ++ drop n ds
  unfolding layer_of node_of
  summed_all {ys} {zs} {j} ds p s h =
      let e : j ≡ length xs = omega (arith, s.bound) in
      s.sums ∙ ap (λ (k : ℕ). tabulate (so_far B ps xs k) n ++ drop n ys) e
      ∙ ap (λ (l : List Float). layer_of B ps xs n ++ l) (tab_drop (λ (o : ℕ). zero32) n ds ys p)
