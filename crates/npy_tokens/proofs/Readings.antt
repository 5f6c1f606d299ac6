-- A string and a whole number from the places that a reader finds: of its first byte, its end, and what is behind it. Assumes
-- nothing.
use Prim.Native.Nat.{ℕ, ◌+◌, ◌≤◌, ◌<◌}
use native.Mathlib.Omega.{arith}
use mathlib.Core.Path.{◌≡◌, sym, ap, ◌∙◌}
use mathlib.Core.Bool.{Bool, true, false, cond, false≢true}
use mathlib.Core.List.{List, [], ◌∷◌}
use lib.ListN.{length, get_or, drop}
use lib.Seq.{drop-length}
use Rattle.npy_tokens.specs.declared.Class.TheVariants.{Space, Digit, Within}
use Rattle.npy_tokens.specs.declared.Quoted.{Quoted}
use Rattle.npy_tokens.specs.Tokens.{front, behind, after_byte, after_token, begins_with, is_quote, between, after_quotes}
use Rattle.npy_tokens.specs.Tokens.{plain, value_of, digits_in, number_in, after_number}
use Rattle.npy_tokens.specs.Places.{Place, part, Ended, StringRead, NumberRead, counted}
use Rattle.npy_tokens.proofs.Texts.{digits_found}
use Rattle.npy_tokens.proofs.Spans.{rest_cons, rest_none, part_none, behind_no_longer}

module _ (text : List ℕ) (at first : ℕ) (spaces : Ended text at Space first) where
  -- the text from its first byte on
  first_byte : (b : ℕ) → first < length text → b ≡ get_or text first 0 → behind Space (drop at text) ≡ b ∷ drop (first + 1) text
  first_byte b h e = sym spaces.place.rest ∙ rw e (rest_cons text first h)

  -- ---- a string
  pub string_found : (b end next : ℕ) → first < length text → b ≡ get_or text first 0 → is_quote b ≡ true → Ended text (first + 1) (Within b) end
      → Place text next (after_byte b (drop end text))
      → StringRead text at (record { from = first + 1; end = end; next = next })
  unfolding between after_quotes
  string_found b end next h f q e p = record {
    ordered = e.behind_from;
    inside = e.place.inside;
    content = e.front ∙ sym (ap between (first_byte b h f) ∙ rw q);
    place = record {
      inside = p.inside;
      rest = p.rest ∙ ap (after_byte b) e.place.rest ∙ sym (ap after_quotes (first_byte b h f) ∙ rw q);
    };
  }

  abbrev nowhere : Quoted
  nowhere = record { from = length text; end = length text; next = length text }

  string_missing : between (behind Space (drop at text)) ≡ [] → after_quotes (behind Space (drop at text)) ≡ []
      → StringRead text at nowhere
  string_missing c r = record {
    ordered = omega arith;
    inside = omega arith;
    content = part_none text (length text) ∙ sym c;
    place = record { inside = omega arith; rest = drop-length text ∙ sym r };
  }

  pub no_quote : (b : ℕ) → first < length text → b ≡ get_or text first 0 → is_quote b ≡ false → StringRead text at nowhere
  unfolding between after_quotes
  no_quote b h f q = string_missing (ap between (first_byte b h f) ∙ rw q) (ap after_quotes (first_byte b h f) ∙ rw q)

  pub no_string : length text ≤ first → StringRead text at nowhere
  unfolding between after_quotes
  no_string h =
      let none : behind Space (drop at text) ≡ [] = sym spaces.place.rest ∙ rest_none text first h in
      string_missing (ap between none) (ap after_quotes none)

  -- ---- a number
  module _ (end value : ℕ) (digits : Ended text first Digit end)
      (v : value ≡ counted (value_of (part text first end))) where
    all_digits : part text first end ≡ digits_in (drop at text)
    all_digits = digits.front ∙ ap (front Digit) spaces.place.rest

    counted_value : value ≡ counted (number_in (drop at text))
    counted_value = v ∙ ap (λ (ds : List ℕ). counted (value_of ds)) all_digits

    pub number_found : plain (part text first end) ≡ true → NumberRead text at (record { value = value; next = end })
    number_found p = record {
      value = counted_value;
      place = record {
        inside = digits.place.inside;
        rest = digits.place.rest ∙ ap (behind Digit) spaces.place.rest ∙ rw (← all_digits, p);
      };
    }

    pub no_number : plain (part text first end) ≡ false
        → NumberRead text at (record { value = value; next = length text })
    no_number p = record {
      value = counted_value;
      place = record { inside = omega arith; rest = drop-length text ∙ rw (← all_digits, p) };
    }

-- ---- what is behind a number is no longer, and what is behind a byte is shorter
pub after_number_no_longer : (bs : List ℕ) → length (after_number bs) ≤ length bs
after_number_no_longer bs = by_test (plain (digits_in bs))
  where
    by_test : (t : Bool) → length (cond t (behind Digit (behind Space bs)) []) ≤ length bs
    by_test true =
        omega (arith, behind_no_longer Digit (behind Space bs), behind_no_longer Space bs)
    by_test false = omega arith

begun_shorter : (c : ℕ) (bs : List ℕ) → begins_with c bs ≡ true → length (after_byte c bs) < length bs
unfolding begins_with after_byte
begun_shorter c [] e = absurd (false≢true e)
begun_shorter c (b ∷ bs) e = rw e (omega arith)

pub token_shorter : (c : ℕ) (bs : List ℕ) → begins_with c (behind Space bs) ≡ true → length (after_token c bs) < length bs
token_shorter c bs e = omega (arith, begun_shorter c (behind Space bs) e, behind_no_longer Space bs)

pub ruleset numbers = (digits_found, number_found, no_number)
