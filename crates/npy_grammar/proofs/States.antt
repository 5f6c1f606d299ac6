-- What a step of the reader does to the entries read so far: it takes one that was not there. Assumes nothing.
use Prim.Native.Nat.{ℕ}
use mathlib.Core.Path.{◌≡◌, refl, ap, ◌∙◌, subst}
use mathlib.Core.Bool.{Bool, true, false, cond}
use mathlib.Core.List.{List, []}
use mathlib.Core.Option.{Option, none, some}
use Rattle.npy_tokens.specs.Tokens.{string_in, after_string, after_token, same}
use Rattle.npy_header.specs.Dictionary.{Dictionary, Key, Descr, FortranOrder, Shape, name_of}
use Rattle.npy_header.specs.Dictionary.{descr_word, order_word, shape_word}
use Rattle.npy_header.specs.Reading.{Read, nothing_from, failed, with_descr, with_order, with_shape}
use Rattle.npy_header.specs.Reading.{with_value, entry_of, comma_of}
use Rattle.npy_grammar.proofs.Pieces.{Filled}
use Rattle.npy_grammar.proofs.Marks.{same_true}
use Rattle.npy_grammar.proofs.Values.{Kind, said, value_in, after_value}

-- the value of a key, where it was read
abbrev pub at : (k : Key) → Read → Option (Kind k)
at Descr r = r.descr
at FortranOrder r = r.fortran_order
at Shape r = r.shape

pub at_first : (k : Key) (bs : List ℕ) → at k (nothing_from bs) ≡ none
at_first Descr bs = refl
at_first FortranOrder bs = refl
at_first Shape bs = refl

pub at_comma : (k : Key) (r : Read) → at k (comma_of r) ≡ at k r
unfolding comma_of
at_comma Descr r = refl
at_comma FortranOrder r = refl
at_comma Shape r = refl

-- where a state and a dictionary say the same of a key
abbrev pub Agrees : Dictionary → Read → Key → Type 0
Agrees d r k = at k r ≡ some (said d k)

-- the state behind three entries and the commas between them
abbrev pub three_from : List ℕ → Read
three_from bs = entry_of (comma_of (entry_of (comma_of (entry_of (nothing_from bs)))))

-- ---- the state with one entry more, of which the value is read from bs on
abbrev taken : Key → Read → List ℕ → Read
taken Descr r bs = with_descr none r bs
taken FortranOrder r bs = with_order none r bs
taken Shape r bs = with_shape none r bs

taken_rest : (k : Key) (r : Read) (bs : List ℕ) → (taken k r bs).rest ≡ after_value k bs
taken_rest Descr r bs = refl
taken_rest FortranOrder r bs = refl
taken_rest Shape r bs = refl

taken_at : (k : Key) (r : Read) (bs : List ℕ) → at k (taken k r bs) ≡ some (value_in k bs)
taken_at Descr r bs = refl
taken_at FortranOrder r bs = refl
taken_at Shape r bs = refl

taken_others : (k j : Key) (r : Read) (bs : List ℕ) → (j ≡ k → ⊥) → at j (taken k r bs) ≡ at j r
taken_others Descr Descr r bs n = absurd (n refl)
taken_others Descr FortranOrder r bs n = refl
taken_others Descr Shape r bs n = refl
taken_others FortranOrder Descr r bs n = refl
taken_others FortranOrder FortranOrder r bs n = absurd (n refl)
taken_others FortranOrder Shape r bs n = refl
taken_others Shape Descr r bs n = refl
taken_others Shape FortranOrder r bs n = refl
taken_others Shape Shape r bs n = absurd (n refl)

-- ---- a step takes the entry that its text names, unless that was there
takes : (k : Key) (r : Read) (bs : List ℕ) → at k r ≡ none → with_value (name_of k) r bs ≡ taken k r bs
unfolding with_value name_of same descr_word order_word shape_word
takes Descr r bs e = ap (λ (o : Option (List ℕ)). with_descr o r bs) e
takes FortranOrder r bs e = ap (λ (o : Option Bool). with_order o r bs) e
takes Shape r bs e = ap (λ (o : Option (List ℕ)). with_shape o r bs) e

-- where the value stands
abbrev pub value : Read → List ℕ
value r = after_token 58 (after_string r.rest)

module _ (k : Key) (r : Read) (name : string_in r.rest ≡ name_of k) (new : at k r ≡ none) where
  step : entry_of r ≡ taken k r (value r)
  unfolding entry_of
  step = ap (λ (s : List ℕ). with_value s r (value r)) name ∙ takes k r (value r) new

  pub step_rest : (entry_of r).rest ≡ after_value k (value r)
  step_rest = ap (λ (s : Read). s.rest) step ∙ taken_rest k r (value r)

  pub step_at : at k (entry_of r) ≡ some (value_in k (value r))
  step_at = ap (at k) step ∙ taken_at k r (value r)

  pub step_others : (j : Key) → (j ≡ k → ⊥) → at j (entry_of r) ≡ at j r
  step_others j n = ap (at j) step ∙ taken_others k j r (value r) n

-- ---- a step that does not fail names a key that was not there
pub record Named (r : Read) : Type 0 where
  pub key : Key
  pub name : string_in r.rest ≡ name_of key
  pub new : at key r ≡ none

-- where a key that was there leaves nothing, and something is left, it was not there
was_new : {A : Type 0} (o : Option A) (rest : Option A → List ℕ) → ((a : A) → rest (some a) ≡ []) → Filled (rest o)
    → o ≡ none
was_new none rest e h = refl
was_new (some a) rest e h = absurd (subst Filled (e a) h)

pub named : (r : Read) → Filled (entry_of r).rest → Named r
unfolding entry_of with_value name_of
named r h = go (same word descr_word) (same word order_word) (same word shape_word) refl refl refl h
  where
    word : List ℕ
    word = string_in r.rest

    go : (a b c : Bool) → same word descr_word ≡ a → same word order_word ≡ b → same word shape_word ≡ c
        → Filled (cond a (with_descr r.descr r (value r)) (cond b (with_order r.fortran_order r (value r))
        (cond c (with_shape r.shape r (value r)) (failed r)))).rest
        → Named r
    go true b c p q s f = record {
      key = Descr;
      name = same_true word descr_word p;
      new = was_new r.descr (λ o. (with_descr o r (value r)).rest) (λ a. refl) f;
    }
    go false true c p q s f = record {
      key = FortranOrder;
      name = same_true word order_word q;
      new = was_new r.fortran_order (λ o. (with_order o r (value r)).rest) (λ a. refl) f;
    }
    go false false true p q s f = record {
      key = Shape;
      name = same_true word shape_word s;
      new = was_new r.shape (λ o. (with_shape o r (value r)).rest) (λ a. refl) f;
    }
    go false false false p q s f = absurd f
