-- A walk over the numbers of a shape from place to place of a text. Assumes nothing.
use Rattle.std.specs.Prelude.{Some, None}
use Rattle.std.specs.declared.option.Option.{Option}
use Rattle.std.specs.Option.{option_eq}
use Prim.Native.Nat.{ℕ, ◌+◌, ◌-◌, ◌≤◌, ◌<◌}
use native.Mathlib.Nat.{eq-or-lt_of_le}
use native.Mathlib.Omega.{arith}
use mathlib.Core.Path.{◌≡◌, refl, sym, ap, ◌∙◌}
use mathlib.Core.Logic.{inl, inr}
use mathlib.Core.Bool.{Bool, true, false, ◌&&◌}
use mathlib.Core.List.{List, [], ◌∷◌}
use lib.Dec.{eqb}
use lib.ListN.{length, get_or, drop, length-drop}
use borrow.Author.Tests.{eqb-true, eqb-false, eq-eqb, ne_eqb}
use Rattle.npy_tokens.specs.declared.Class.TheVariants.{Space}
use Rattle.npy_tokens.specs.declared.Number.{Number}
use Rattle.npy_tokens.specs.Tokens.{behind, after_byte, after_token, begins_with, number_in, after_number, same}
use Rattle.npy_tokens.specs.Places.{counted, Place, Ended, NumberRead}
use Rattle.npy_tokens.proofs.Spans.{rest_cons, rest_none}
use Rattle.npy_tokens.proofs.Texts.{begins_inside, past_begun}
use Rattle.npy_header.specs.Reading.{numbers_in, after_numbers, sizes_in, after_sizes}
use Rattle.npy_header.specs.Steps.{Small, Few, all_asked, MatchedOne, SizesRead}
use Rattle.npy_header.proofs.Numbers.{comma_after, further_shorter, close_numbers, close_rest}
use Rattle.npy_header.proofs.Numbers.{comma_numbers, comma_rest, last_numbers, last_rest}

-- ---- one number against the one asked for: a size below the bound is not met by a number that was cut there
module _ (shape : List ℕ) (count value : ℕ) where
  abbrev size : ℕ
  size = get_or shape count 0

  -- the sizes from this one on
  from_here : (n : ℕ) (ns : List ℕ) → count < length shape
      → same (n ∷ ns) (drop count shape) ≡ eqb n size && same ns (drop (count + 1) shape)
  unfolding same
  from_here n ns h = rw (rest_cons shape count h)

  pub one_found : Small shape → count < length shape → size ≡ value
      → MatchedOne shape (Some count) value (Some (count + 1))
  one_found s h e = record {
    few = omega arith;
    one = λ n ns v. let same_size : n ≡ size = omega (arith, e, v, s.each count h) in
        sym (from_here n ns h ∙ ap (λ (t : Bool). t && same ns (drop (count + 1) shape)) (eq-eqb n size same_size));
  }

  pub one_other : Small shape → count < length shape → (size ≡ value → ⊥) → MatchedOne shape (Some count) value None
  one_other s h d = record {
    few = tt;
    one = λ n ns v. let differs : eqb n size ≡ false =
        ne_eqb n size (λ e. d (omega (arith, e, v, s.each count h))) in
        sym (from_here n ns h ∙ ap (λ (t : Bool). t && same ns (drop (count + 1) shape)) differs);
  }

  pub one_too_many : length shape ≤ count → MatchedOne shape (Some count) value None
  unfolding same
  one_too_many h = record {
    few = tt;
    one = λ n ns v. sym (ap (λ (t : List ℕ). same (n ∷ ns) t) (rest_none shape count h));
  }

-- the same, by what is left to compare: the search takes these wherever a number is matched, in any form
pub first_asked : (shape : List ℕ) (count n : ℕ) (ns : List ℕ) → Small shape → count < length shape
    → get_or shape count 0 ≡ counted n → same (n ∷ ns) (drop count shape) ≡ same ns (drop (count + 1) shape)
first_asked shape count n ns s h e = sym ((one_found shape count (counted n) s h e).one n ns refl)

pub first_other : (shape : List ℕ) (count n : ℕ) (ns : List ℕ) → Small shape → count < length shape
    → (get_or shape count 0 ≡ counted n → ⊥) → same (n ∷ ns) (drop count shape) ≡ false
first_other shape count n ns s h d = sym ((one_other shape count (counted n) s h d).one n ns refl)

pub first_too_many : (shape : List ℕ) (count n : ℕ) (ns : List ℕ) → length shape ≤ count
    → same (n ∷ ns) (drop count shape) ≡ false
first_too_many shape count n ns h = sym ((one_too_many shape count (counted n) h).one n ns refl)

-- ---- at the end of the numbers all sizes asked for were found, or not
none_more : (shape : List ℕ) (count : ℕ) → count ≤ length shape → same [] (drop count shape) ≡ eqb count (length shape)
unfolding same
none_more shape count h = by_test (eqb count (length shape)) refl
  where
    by_test : (t : Bool) → eqb count (length shape) ≡ t → same [] (drop count shape) ≡ t
    by_test true e = rw (rest_none shape count (omega (arith, eqb-true count (length shape) e)))
    by_test false e =
        elim (eq-or-lt_of_le h) [
          | inl q ↦ absurd (eqb-false count (length shape) e q)
          | inr l ↦ rw (rest_cons shape count l)
        ]

none_left : (shape : List ℕ) (m : Option ℕ) → Few shape m → option_eq eqb m (Some (length shape)) ≡ all_asked shape m []
none_left shape None h = refl
none_left shape (Some count) h = sym (none_more shape count h)

-- ---- what was read up to a place and what is left come to the whole
pub record Walked (text shape : List ℕ) (from next : ℕ) (m : Option ℕ) : Type 0 where
  pub few : Few shape m
  pub inside : next ≤ length text
  pub rest : after_sizes (drop from text) ≡ after_numbers (drop next text)
  pub numbers : same (sizes_in (drop from text)) shape ≡ all_asked shape m (numbers_in (drop next text))

pub begins : (text shape : List ℕ) (from next : ℕ) → Place text next (after_token 40 (drop from text))
    → Walked text shape from next (Some 0)
begins text shape from next p = record {
  few = omega arith;
  inside = p.inside;
  rest = ap after_numbers (sym p.rest);
  numbers = ap (λ (t : List ℕ). same (numbers_in t) shape) (sym p.rest);
}

module _ (text shape : List ℕ) (from at : ℕ) (m : Option ℕ) (w : Walked text shape from at m) (here : ℕ)
    (spaces : Ended text at Space here) where
  abbrev bs : List ℕ
  bs = drop at text

  -- whether a byte stands there, in the words of the reader
  there : (c : ℕ) (t : Bool) → t ≡ begins_with c (drop here text) → begins_with c (behind Space bs) ≡ t
  there c t e = ap (begins_with c) (sym spaces.place.rest) ∙ sym e

  pub closes : true ≡ begins_with 41 (drop here text) → (asked : Bool) → asked ≡ option_eq eqb m (Some (length shape))
      → SizesRead text shape from (record { asked = asked; next = here + 1 })
  closes e asked a = record {
    asked = a ∙ none_left shape m w.few ∙ sym (w.numbers ∙ ap (all_asked shape m) (close_numbers bs (there 41 true e)));
    place = record {
      inside = omega (arith, begins_inside text here 41 (sym e));
      rest = sym (w.rest ∙ close_rest bs (there 41 true e) ∙ ap (after_byte 41) (sym spaces.place.rest)
          ∙ past_begun text here 41 (sym e));
    };
  }

  module _ (o : false ≡ begins_with 41 (drop here text)) (n : Number) (number : NumberRead text at n)
      (met : Option ℕ) (one : MatchedOne shape m n.value met) (after : ℕ) (gap : Ended text n.next Space after) where
    -- behind the number and its spaces
    behind_number : drop after text ≡ behind Space (after_number bs)
    behind_number = gap.place.rest ∙ ap (behind Space) number.place.rest

    comma : (t : Bool) → t ≡ begins_with 44 (drop after text) → comma_after bs ≡ t
    comma t e = ap (begins_with 44) (sym behind_number) ∙ sym e

    matched : (ns : List ℕ) → numbers_in bs ≡ number_in bs ∷ ns
        → all_asked shape m (numbers_in bs) ≡ all_asked shape met ns
    matched ns e = ap (all_asked shape m) e ∙ sym (one.one (number_in bs) ns number.value)

    module _ (e : true ≡ begins_with 44 (drop after text)) where
      next : drop (after + 1) text ≡ after_token 44 (after_number bs)
      next = sym (past_begun text after 44 (sym e)) ∙ ap (after_byte 44) behind_number

      inside : after + 1 ≤ length text
      inside = omega (arith, begins_inside text after 44 (sym e))

      pub nearer : length text - (after + 1) < length text - at
      nearer =
          let left : length (drop (after + 1) text) < length bs = rw next (further_shorter bs (comma true e)) in
          omega (arith, length-drop (after + 1) text, length-drop at text, left, inside)

      pub goes_on : Walked text shape from (after + 1) met
      goes_on = record {
        few = one.few;
        inside = inside;
        rest = w.rest ∙ comma_rest bs (there 41 false o) (comma true e) ∙ ap after_numbers (sym next);
        numbers = w.numbers
            ∙ matched (numbers_in (drop (after + 1) text))
            (comma_numbers bs (there 41 false o) (comma true e)
            ∙ ap (λ (t : List ℕ). number_in bs ∷ numbers_in t) (sym next));
      }

    pub ends : (end : ℕ) → false ≡ begins_with 44 (drop after text) → Place text end (after_byte 41 (drop after text))
        → (asked : Bool) → asked ≡ option_eq eqb met (Some (length shape))
        → SizesRead text shape from (record { asked = asked; next = end })
    ends end e p asked a = record {
      asked = a ∙ none_left shape met one.few ∙ sym (w.numbers ∙ matched [] (last_numbers bs (there 41 false o) (comma false e)));
      place = record {
        inside = p.inside;
        rest = p.rest
            ∙ sym (w.rest ∙ last_rest bs (there 41 false o) (comma false e) ∙ ap (after_byte 41) (sym behind_number));
      };
    }
