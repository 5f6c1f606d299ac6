-- What the writer leaves, part by part: an accepted image's numbers are words, and its three parts follow one another.
-- Assumes nothing.
use Prim.Native.Nat.{ℕ, zero, suc, ◌+◌, ◌-◌, ◌*◌, ◌≤◌, ◌<◌}
use native.Mathlib.Nat.{le_step, lt-suc_self}
use native.Mathlib.Omega.{arith}
use mathlib.Core.Path.{◌≡◌, sym, ap, ◌∙◌}
use mathlib.Core.List.{List, [], ◌++◌, append_assoc, append-nil}
use lib.ListN.{length, take, drop, length-append, length-drop, drop_of_length-le}
use lib.Seq.{take_at, drop_at}
use lib.Ieee.{Float}
use borrow.Rule.Slice.PartMut.{put_mid}
use Rattle.floats.proofs.Loops.{put_rest, rest}
use Rattle.spline.specs.declared.Grid.{Grid}
use Rattle.layers.specs.Widths.{width_at, widths_to}
use Rattle.config.specs.Sized.{Sized}
use Rattle.admission.proofs.Passed.{Past8}
use Rattle.words.specs.Words.{packed_words, packed_floats}
use Rattle.words.proofs.Packs.{packed_words_length, packed_floats_length}
use Rattle.image_layout.specs.Trailer.{trailer_words}
use Rattle.image_writing.specs.Writing.{image_of}
use Rattle.image_writing.specs.Steps.{InWords, Writable}

-- ---- widths that are not 0 are at most as many as there are nodes
count_within : (ws : List ℕ) (n : ℕ) → ((j : ℕ) → j < n → 0 < width_at ws j) → n ≤ widths_to ws n
unfolding widths_to
count_within ws zero h = omega arith
count_within ws (suc n) h =
    let before = count_within ws n (λ j l. h j (le_step l)) in
    let last = h n (lt-suc_self n) in
    omega arith

few_widths_lem : (ws : List ℕ) (g : Grid) → Sized ws g → length ws ≤ 250000
few_widths_lem ws g z = omega (arith, count_within ws (length ws) z.positive, z.few_nodes)

pub in_words : (ws : List ℕ) (g : Grid) (ps : List Float) → Past8 ws g (length ps) → InWords ws g ps
in_words ws g ps p =
    let z = p.size in
    record {
      trailer = record {
        few_widths = few_widths_lem ws g z;
        few_parameters = omega (arith, z.small, p.model);
        few_intervals = z.grid;
        lo = z.lo_finite;
        hi = z.hi_finite;
      };
      widths = λ i l. omega (arith, z.within i l, z.narrow);
    }

-- ---- one part more: e begins with a, and a call lent the rest from there on wrote b at its front
put_next : (a b r e y : List ℕ) (n k : ℕ) → e ≡ a ++ r → length a ≡ n → length b ≡ k
    → y ≡ b ++ drop k (take (length e - n) (drop n e)) → put_mid n (length e - n) e y ≡ (a ++ b) ++ drop k r
put_next a b r e y n k p q l h =
    let inside : n ≤ length e = omega (arith, simp length-append at (ap length p)) in
    let left : take n e ≡ a = rw p (take_at a r n q) in
    let right : drop n e ≡ r = rw p (drop_at a r n q) in
    let back : y ≡ b ++ drop k r = h ∙ rw (rest n e, right) in
    put_rest n e y inside ∙ rw (left, back) (sym (append_assoc a b (drop k r)))

module _ (ws : List ℕ) (g : Grid) (ps : List Float) (bs : List ℕ) where
  -- the three parts, one after the other, fill the image
  pub placed : (e y z ts : List ℕ) → Writable ws g ps bs → ts ≡ trailer_words (length ws) (length ps) g
      → e ≡ packed_floats ps ++ drop (length ps * 4) bs
      → y ≡ packed_words ws ++ drop (length ws * 4) (take (length e - 4 * length ps) (drop (4 * length ps) e))
      → let e' = put_mid (4 * length ps) (length e - 4 * length ps) e y in let n = 4 * length ps + 4 * length ws in
      z ≡ packed_words ts ++ drop (length ts * 4) (take (length e' - n) (drop n e'))
      → put_mid n (length e' - n) e' z ≡ image_of ws g ps
  unfolding image_of trailer_words
  placed e y z ts h t p q r =
      let a = packed_floats ps in
      let b = packed_words ws in
      let la : length a ≡ 4 * length ps = packed_floats_length ps ∙ omega arith in
      let lb = packed_words_length ws in
      let second = put_next a b (drop (length ps * 4) bs) e y (4 * length ps) (length ws * 4) p la lb q in
      let lab : length (a ++ b) ≡ 4 * length ps + 4 * length ws = simp length-append (omega arith) in
      let n = 4 * length ps + 4 * length ws in
      let last = packed_words_length ts in
      let third = put_next (a ++ b) (packed_words ts) _ _ z n (length ts * 4) second lab last r in
      let eight : length ts ≡ 8 = ap length t in
      let none : drop (length ts * 4) (drop (length ws * 4) (drop (length ps * 4) bs)) ≡ [] =
      drop_of_length-le (drop (length ws * 4) (drop (length ps * 4) bs)) {i = length ts * 4}
      (simp length-drop (omega (arith, h.room))) in
      third ∙ rw (none, append-nil, append_assoc, t)
