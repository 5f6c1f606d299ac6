-- Words read one by one. Assumes nothing.
use Rattle.std.specs.Prelude.{Some, None}
use Rattle.std.specs.declared.option.Option.{Option}
use Rattle.std.proofs.lemmas.List.{nil_from_length}
use mathlib.Core.Path.{◌≡◌, refl, sym, ◌∙◌, ap}
use mathlib.Core.List.{List, [], ◌∷◌, ◌++◌, append_assoc, append-nil}
use Prim.Native.Nat.{ℕ, ◌+◌, ◌<◌, ◌≤◌}
use native.Mathlib.Numerals.{add-one}
use native.Mathlib.Omega.{arith}
use lib.ListN.{length, take, drop, set, length-append, length-set}
use lib.Seq.{length-take-le, take-suc-set}
use borrow.Author.Tests.{eq-eqb, ne_eqb, le-leb, lt-leb}
use Rattle.replay.specs.declared.Line.{Line}
use Rattle.replay.specs.declared.Line.TheVariants.{Words, Skipped, Malformed}
use Rattle.replay.specs.Lines.{before_of, word_of, in_front, after_tag, counted, count_of, Answered, Tagged}
use Rattle.replay.proofs.Cuts.{words_cut}

-- ---- the words so far, in front of those to come
unfoldable pub front : List ℕ → Option (List ℕ) → Option (List ℕ)
front vs None = None
front vs (Some ws) = Some (vs ++ ws)

front_none : (o : Option (List ℕ)) → o ≡ front [] o
unfolding front
front_none None = refl
front_none (Some ws) = refl

front_number : (vs : List ℕ) (v : ℕ) (o : Option (List ℕ)) → front vs (in_front (Some v) o) ≡ front (vs ++ (v ∷ [])) o
unfolding front in_front
front_number vs v None = refl
front_number vs v (Some ws) = ap Some (sym (append_assoc vs (v ∷ []) ws))

-- no more words than there is room for
full : (room tag : ℕ) (vs : List ℕ) (w : Option ℕ) (o : Option (List ℕ)) → room ≤ length vs
    → counted room tag (front vs (in_front w o)) ≡ Malformed
unfolding front in_front counted
full room tag vs None o h = refl
full room tag vs (Some v) None h = refl
full room tag vs (Some v) (Some ws) h =
    let l : length (vs ++ (v ∷ ws)) ≡ length vs + length (v ∷ ws) = length-append vs (v ∷ ws) in
    rw (lt-leb (length (vs ++ (v ∷ ws))) room (omega (arith, l)))

-- ---- the loop: `count` words are read, and `left` follows them
pub record Taken (rest lent words left : List ℕ) (count : ℕ) : Type 0 where
  pub same : length words ≡ length lent
  pub room : count ≤ length words
  pub reading : after_tag rest ≡ front (take count words) (after_tag left)

pub taken_none : (rest lent : List ℕ) → Taken rest lent lent rest 0
taken_none rest lent = record { same = refl; room = omega arith; reading = front_none _ }

-- a space, a word and what follows it
next : (mark n : ℕ) (behind : List ℕ) → mark ≡ 32 → n ≡ before_of 32 behind
    → after_tag (mark ∷ behind) ≡ in_front (word_of (take n behind)) (after_tag (drop n behind))
unfolding after_tag
next mark n behind m b = rw (eq-eqb mark 32 m, words_cut behind, ← b) refl

module _ {rest lent words left : List ℕ} {count : ℕ} (t : Taken rest lent words left count) where
  module _ (mark : ℕ) (behind : List ℕ) (e : left ≡ mark ∷ behind) where
    pub taken_no_space : (tag : ℕ) → (mark ≡ 32 → ⊥) → Malformed ≡ counted (length lent) tag (after_tag rest)
    unfolding after_tag front counted
    taken_no_space tag n = rw (t.reading, e, ne_eqb mark 32 n)

    pub taken_full : (tag : ℕ) → mark ≡ 32 → count ≡ length words → Malformed ≡ counted (length lent) tag (after_tag rest)
    taken_full tag m k =
        let l : length (take count words) ≡ count = length-take-le count words t.room in
        sym
        (rw (t.reading, e, next mark _ behind m refl)
        (full (length lent) tag (take count words) _ _ (omega (arith, l, t.same))))

    module _ (n : ℕ) (m : mark ≡ 32) (b : n ≡ before_of 32 behind) where
      read_on : after_tag rest
          ≡ front (take count words) (in_front (word_of (take n behind)) (after_tag (drop n behind)))
      read_on = rw (← next mark n behind m b, ← e) t.reading

      pub taken_other : (tag : ℕ) → word_of (take n behind) ≡ None
          → Malformed ≡ counted (length lent) tag (after_tag rest)
      unfolding in_front front counted
      taken_other tag w = rw (read_on, w)

      pub taken_more : (v : ℕ) → word_of (take n behind) ≡ Some v → count < length words
          → Taken rest lent (set words count v) (drop n behind) (count + 1)
      taken_more v w k =
          record {
            same = simp length-set t.same;
            room = simp length-set (omega arith);
            reading =
                (rw w at read_on) ∙ front_number (take count words) v _
                ∙ rw (add-one count, take-suc-set words count v k);
          }

  pub taken_all : length left ≡ 0 → after_tag rest ≡ Some (take count words)
  unfolding front after_tag
  taken_all e = t.reading ∙ rw (nil_from_length left e, append-nil)

-- ---- the answers
pub skipped : {expected : Line} (rest lent after : List ℕ) → Skipped ≡ expected
    → Answered expected rest lent after Skipped
skipped rest lent after e = record { within = omega arith; answer = e; words = λ tag n q. cc }

pub malformed : {expected : Line} (rest lent after : List ℕ) → Malformed ≡ expected
    → Answered expected rest lent after Malformed
malformed rest lent after e = record { within = omega arith; answer = e; words = λ tag n q. cc }

pub words_read : (tag count : ℕ) (rest lent after : List ℕ) → count ≤ length after → length after ≡ length lent
    → after_tag rest ≡ Some (take count after) → Tagged tag rest lent after (Words tag count)
unfolding counted
words_read tag count rest lent after h k w =
    let l : length (take count after) ≡ count = length-take-le count after h in
    record {
      within = omega arith;
      answer = rw (w, l, le-leb count (length lent) (omega arith));
      words = λ t n q. w ∙ ap (λ (m : ℕ). Some (take m after)) (ap count_of q);
    }
