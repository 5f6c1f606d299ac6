-- The end of a header, behind its entries: a last comma or none, the brace, spaces, the newline. It is accepted exactly
-- where it stands. Assumes nothing.
use Prim.Native.Nat.{ℕ}
use mathlib.Core.Path.{◌≡◌, refl, sym, ◌∙◌, subst}
use mathlib.Core.Logic.{inl, inr}
use mathlib.Core.Bool.{Bool, true, false, cond, false≢true}
use mathlib.Core.List.{List, [], ◌∷◌}
use Rattle.npy_tokens.specs.declared.Class.TheVariants.{Space}
use Rattle.npy_tokens.specs.Tokens.{belongs, behind, after_byte, after_token, begins_with, same}
use Rattle.npy_header.specs.Grammar.{Language, Optional, Token, Comma, ◌⨾◌}
use Rattle.npy_header.specs.Reading.{is_closed}
use Rattle.npy_grammar.proofs.Pieces.{Reads, both, parts, from, without, present, whether, Filled, filled}
use Rattle.npy_grammar.proofs.Spans.{span}
use Rattle.npy_grammar.proofs.Marks.{same_true, after_byte_lem, token, token_at}

abbrev pub End : Language
End = Optional Comma ⨾ Token (125 ∷ []) ⨾ Token (10 ∷ [])

pub end_found : (bs : List ℕ) → Reads End bs [] → is_closed bs ≡ true
unfolding is_closed belongs begins_with same
end_found bs p =
    let q = parts p in
    let t = parts q.after in
    elim (whether q.before) [
      | inl e ↦
          let brace = from (Token (125 ∷ [])) e t.before in
          rw (token refl brace) (rw (token refl brace, after_byte_lem 125 t.middle, token refl t.after))
      | inr comma ↦
          rw (
            token refl comma,
            after_byte_lem 44 q.middle,
            token refl t.before,
            after_byte_lem 125 t.middle,
            token refl t.after,
          )
    ]

-- ---- and back
-- a text is not empty where it passes a test that the empty one fails
filled_by : (test : List ℕ → Bool) (bs : List ℕ) → test [] ≡ false → test bs ≡ true → Filled bs
filled_by test [] n e = absurd (false≢true (sym n ∙ e))
filled_by test (b ∷ bs) n e = tt

pub end_filled : (bs : List ℕ) → is_closed bs ≡ true → Filled bs
unfolding is_closed behind after_byte begins_with same
end_filled bs e = filled_by is_closed bs refl e

-- what is behind the last comma
is_braced : List ℕ → Bool
is_braced bs = same (behind Space (after_token 125 bs)) (10 ∷ [])

braced_filled : (bs : List ℕ) → is_braced bs ≡ true → Filled bs
unfolding is_braced behind after_byte same
braced_filled bs e = filled_by is_braced bs refl e

braced : (bs : List ℕ) → is_braced bs ≡ true → Reads (Token (125 ∷ []) ⨾ Token (10 ∷ [])) bs []
unfolding is_braced
braced bs e =
    let rest = after_token 125 bs in
    let newline = same_true (behind Space rest) (10 ∷ []) e in
    let h = filled (span Space rest) (subst Filled (sym newline) tt) in
    both (token_at 125 bs h) (both (span Space rest) (record { piece = 10 ∷ []; split = newline; holds = refl }))

pub end_read : (bs : List ℕ) → is_closed bs ≡ true → Reads End bs []
unfolding is_closed is_braced
end_read bs e = go (begins_with 44 (behind Space bs)) e
  where
    go : (t : Bool) → is_braced (cond t (after_token 44 bs) bs) ≡ true → Reads End bs []
    go true f =
        let rest = after_token 44 bs in
        both (present (token_at 44 bs (braced_filled rest f))) (braced rest f)
    go false f = both (without Comma bs) (braced bs f)
