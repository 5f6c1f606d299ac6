-- Parts of a slice filled one after the other, each with the draws after those of the part before it: a layer's edges, and a model's
-- layers. Assumes nothing.
use mathlib.Core.Path.{◌≡◌, refl, sym, ap, ◌∙◌}
use mathlib.Core.List.{List, ◌++◌, append_assoc, append-nil}
use Prim.Native.Nat.{ℕ, zero, suc, ◌+◌, ◌-◌, ◌*◌, ◌≤◌, ◌<◌}
use native.Mathlib.Nat.{le_trans, le_of_eq, mul_assoc, mul-le-mul_left, suc-mul, add-mul, zero-mul}
use native.Mathlib.Numerals.{add-one}
use native.Mathlib.Omega.{arith}
use lib.ListN.{length, take, drop, length-append}
use lib.Seq.{take_at, drop_at, drop-drop, drop-length}
use lib.Ieee.{Float}
use borrow.Rule.Slice.PartMut.{put_mid}
use Rattle.floats.specs.Sums.{flat_to}
use Rattle.floats.proofs.Loops.{tab_length, flat_length, put_rest, rest, room}
use Rattle.generator.specs.declared.SplitMix64.{SplitMix64}
use Rattle.generator.specs.Generator.{seeded_of}
use Rattle.generator.specs.Root.{root_of}
use Rattle.layers.specs.Widths.{width_at, layer_size, params_to}
use Rattle.layers.proofs.Widths.{params_none, params_more}
use Rattle.first_parameters.specs.Initial.{advanced_by, edge_initial, layer_initial, edges_to, model_initial}
use Rattle.first_parameters.specs.Filled.{Filled}
use Rattle.first_parameters.proofs.Draws.{advanced_none, advanced_on}

-- what part n becomes, its size and how many draws it takes; where it begins, and after how many draws
pub record Plan : Type 0 where
  pub fill : ℕ → SplitMix64 → List Float
  pub size : ℕ → ℕ
  pub draws : ℕ → ℕ
  pub place : ℕ → ℕ
  pub after : ℕ → ℕ

abbrev pub part_at : Plan → SplitMix64 → ℕ → List Float
part_at P G n = P.fill n (advanced_by (P.after n) G)

-- the parts and their draws follow one another
pub record Sound (P : Plan) : Type 0 where
  pub long : (n : ℕ) (G : SplitMix64) → length (P.fill n G) ≡ P.size n
  pub place_none : 0 ≡ P.place 0
  pub after_none : 0 ≡ P.after 0
  pub place_more : (n : ℕ) → P.place n + P.size n ≡ P.place (n + 1)
  pub after_more : (n : ℕ) → P.after n + P.draws n ≡ P.after (n + 1)

-- n parts of the slice d are filled from the generator G; e is the slice then, and H the generator
pub record Done (P : Plan) (G : SplitMix64) (d : List Float) (n : ℕ) (e : List Float) (H : SplitMix64) : Type 0 where
  pub next : H ≡ advanced_by (P.after n) G
  pub params : e ≡ flat_to (part_at P G) n ++ drop (P.place n) d

module _ (P : Plan) (ok : Sound P) (G : SplitMix64) (d : List Float) where
  parts_length : (n : ℕ) → length (flat_to (part_at P G) n) ≡ P.place n
  unfolding flat_to
  parts_length zero = ok.place_none
  parts_length (suc n) =
      length-append (flat_to (part_at P G) n) (part_at P G n)
      ∙ rw (parts_length n, ok.long n (advanced_by (P.after n) G)) (ok.place_more n ∙ ap P.place (add-one n))

  pub none_done : Done P G d 0 d G
  unfolding flat_to
  none_done = record { next = advanced_none G ∙ ap (λ (k : ℕ). advanced_by k G) ok.after_none; params = rw (← ok.place_none) }

  -- a call that was lent the rest from part n on, which begins at `at`, left y there
  pub one_done : (n at : ℕ) (e y : List Float) (H r : SplitMix64) → at ≡ P.place n → at ≤ length e → Done P G d n e H
      → Filled (P.fill n H) (P.size n) (P.draws n) H (take (length e - at) (drop at e)) y r
      → Done P G d (n + 1) (put_mid at (length e - at) e y) r
  unfolding flat_to
  one_done n at e y H r p h w f =
      let L = flat_to (part_at P G) n in
      let long : length L ≡ at = parts_length n ∙ sym p in
      let z : e ≡ L ++ drop at d = rw p w.params in
      let front : take at e ≡ L = ap (take at) z ∙ take_at L (drop at d) at long in
      let back : drop at e ≡ drop at d = ap (drop at) z ∙ drop_at L (drop at d) at long in
      record {
        next = f.next ∙ rw (w.next, advanced_on, ok.after_more n);
        params = put_rest at e y h
            ∙ rw (f.params, front, rest at e, back, w.next, drop-drop, p, ok.place_more n, add-one n, append_assoc);
      }

-- ---- a layer's edges
edge_length : (g : ℕ) (root : Float) (G : SplitMix64) → length (edge_initial g root G) ≡ g + 5
unfolding edge_initial
edge_length g root G = simp tab_length (omega arith)

abbrev pub edge_plan : ℕ → Float → Plan
edge_plan g root = record {
  fill = λ e G. edge_initial g root G;
  size = λ e. g + 5;
  draws = λ e. g + 4;
  place = λ e. e * (g + 5);
  after = λ e. e * (g + 4);
}

times_more : (s n : ℕ) → n * s + s ≡ (n + 1) * s
times_more s n = sym (suc-mul n s) ∙ ap (λ (k : ℕ). k * s) (sym (add-one n))

pub edges_sound : (g : ℕ) (root : Float) → Sound (edge_plan g root)
edges_sound g root = record {
  long = λ e G. edge_length g root G;
  place_none = sym (zero-mul (g + 5));
  after_none = sym (zero-mul (g + 4));
  place_more = times_more (g + 5);
  after_more = times_more (g + 4);
}

pub layer_filled : (g w n j : ℕ) (root : Float) (G H : SplitMix64) (d e : List Float) → j ≡ n * w → root ≡ root_of w
    → Done (edge_plan g root) G d j e H → Filled (layer_initial g w n G) (n * (w * (g + 5))) (n * w * (g + 4)) G d e H
unfolding layer_initial
layer_filled g w n j root G H d e p q z = record { params = z.params ∙ rw (p, q, mul_assoc); next = z.next ∙ rw p }

-- the number of edges fits where their parameters do, and edge j lies within these
pub edges_below : (g w n L : ℕ) → n * (w * (g + 5)) ≤ L → n * w ≤ L
edges_below g w n L k =
    let a : n * w * 1 ≤ n * w * (g + 5) = mul-le-mul_left (n * w) (omega arith) in
    omega (arith, a, mul_assoc n w (g + 5))

pub edge_room : (g w n j L : ℕ) → j < n * w → n * (w * (g + 5)) ≤ L → j * (g + 5) + (g + 5) ≤ L
edge_room g w n j L h k = room j (n * w) (g + 5) L h (le_trans (le_of_eq (mul_assoc n w (g + 5))) k)

-- ---- a model's layers
layer_length : (g w n : ℕ) (G : SplitMix64) → length (layer_initial g w n G) ≡ n * (w * (g + 5))
unfolding layer_initial
layer_length g w n G =
    let root = root_of w in
    flat_length _ (g + 5) (λ e. edge_length g root (advanced_by (e * (g + 4)) G)) (n * w) ∙ mul_assoc n w (g + 5)

abbrev pub layer_plan : ℕ → List ℕ → Plan
layer_plan g ws = record {
  fill = λ l G. layer_initial g (width_at ws l) (width_at ws (l + 1)) G;
  size = λ l. layer_size (g + 5) ws l;
  draws = λ l. width_at ws (l + 1) * width_at ws l * (g + 4);
  place = λ l. params_to (g + 5) ws l;
  after = λ l. edges_to ws l * (g + 4);
}

edges_none : (ws : List ℕ) → 0 ≡ edges_to ws 0
unfolding edges_to
edges_none ws = refl

edges_more : (ws : List ℕ) (l : ℕ) → edges_to ws l + width_at ws (l + 1) * width_at ws l ≡ edges_to ws (l + 1)
unfolding edges_to
edges_more ws l = ap (edges_to ws) (sym (add-one l))

pub layers_sound : (g : ℕ) (ws : List ℕ) → Sound (layer_plan g ws)
layers_sound g ws = record {
  long = λ l G. layer_length g (width_at ws l) (width_at ws (l + 1)) G;
  place_none = params_none (g + 5) ws;
  after_none = sym (zero-mul (g + 4)) ∙ ap (λ (n : ℕ). n * (g + 4)) (edges_none ws);
  place_more = params_more (g + 5) ws;
  after_more = λ l. sym (add-mul (edges_to ws l) (width_at ws (l + 1) * width_at ws l) (g + 4))
      ∙ ap (λ (n : ℕ). n * (g + 4)) (edges_more ws l);
}

pub model_filled : (g seed l : ℕ) (ws : List ℕ) (G H : SplitMix64) (d e : List Float) → l ≡ length ws - 1 → G ≡ seeded_of seed
    → params_to (g + 5) ws (length ws - 1) ≡ length d → Done (layer_plan g ws) G d l e H → e ≡ model_initial ws g seed
unfolding model_initial
model_filled g seed l ws G H d e p q h z = z.params ∙ rw (p, q, h, drop-length, append-nil)
