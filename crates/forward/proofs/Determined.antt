-- R3.6: each call's statement determines its answer and the final contents of all memory lent to it: any two outcomes that it
-- allows coincide. Assumes nothing.
use mathlib.Core.Path.{◌≡◌, refl, sym, ◌∙◌, subst}
use mathlib.Core.List.{List}
use Prim.Native.Nat.{ℕ}
use lib.Ieee.{Float}
use seplogic.Ra.Ura.{Ura}
use base.Logic.{SProp, ent, sep, ex, ex_i, ex_e, via, id⊢, mono∗, mono_r, snd∗, both⊢}
use base.Fml.{fsep}
use prog.Memory.{Memory}
use prog.Routine.{Routine}
use types.Logic.{Logic, sem}
use contract.Lifetimes.{Lfts}
use contract.Monad.{Fun, fact, fact_mono, fact_use}
use denote.Builtin.{f32}
use denote.Slice.{finally}
use denote.Ref.{MutBor}
use denote.Triple.Clauses.{Lasts, at_exit}
use denote.Triple.Entry.{Args, Res}
use Rattle.spline.specs.declared.Grid.{Grid}
use Rattle.layers.specs.Net.{net_of}
use Rattle.forward.specs.Forward.{Handed, forward_first, forward_second}
use Rattle.forward.specs.contracts.forward as forward

-- `forward` spends both work slices, so the logic binds no last value for them: the statement says of either slice's
-- name what it ends as (`finally`). Here an outcome has it as well: the part r, the last value w of the lent number,
-- and what the first slice and the second end as. A part is a `&`: where it lies and what it holds is all there is of it.
module _ (κs : Lfts 5) (a : Args forward.signature κs) where
  abbrev widths : List ℕ
  widths = a.1.0.now

  abbrev grid : Grid
  grid = a.1.1.0

  abbrev model : List Float
  model = a.1.1.1.0.now

  abbrev row : List Float
  row = a.1.1.1.1.0.now

  abbrev first : MutBor (List Float)
  first = a.1.1.1.1.1.0

  abbrev second : MutBor (List Float)
  second = a.1.1.1.1.1.1.0

  abbrev first_is : List Float
  first_is = forward_first (net_of grid) widths grid model row first.now second.now

  abbrev second_is : List Float
  second_is = forward_second (net_of grid) widths grid model row first.now second.now

  abbrev Answered : Res forward.signature κs → Lasts forward.ended κs a → Type 0
  Answered r w = Handed (net_of grid) widths grid model row first.now second.now first.ref_ptr second.ref_ptr r.now
      r.ref_ptr w.0

  pub record Allowed (r : Res forward.signature κs) (w : Lasts forward.ended κs a) (l m : List Float) : Type 0 where
    pub answered : Answered r w
    pub ends_first : l ≡ first_is
    pub ends_second : m ≡ second_is

  -- any two outcomes coincide: what the parts hold and where they lie, the lent number, and what either slice ends as
  pub forward_determined : (r r' : Res forward.signature κs) (w w' : Lasts forward.ended κs a) (l l' m m' : List Float)
      → Allowed r w l m → Allowed r' w' l' m'
      → (r.now ≡ r'.now) × (r.ref_ptr ≡ r'.ref_ptr) × (w ≡ w') × (l ≡ l') × (m ≡ m')
  forward_determined r r' w w' l l' m m' p q =
      let number = p.answered.number ∙ sym q.answered.number in (
        p.answered.holds ∙ sym q.answered.holds,
        p.answered.lies ∙ sym q.answered.lies,
        (λ i. (number i, (tt, (tt, (tt, (tt, (tt, (tt, tt)))))))),
        p.ends_first ∙ sym q.ends_first,
        p.ends_second ∙ sym q.ends_second,
      )

  -- These are the outcomes of the statement: it says of r and w that there are lists which the slices' names end as
  -- and with which they are allowed, no more and no less.
  module _ {M : Type 1} {𝓤 : Ura M} (𝓛 : Logic 𝓤) (mem : Memory → SProp 𝓤) (run : Routine → Fun 𝓤)
      (r : Res forward.signature κs) (w : Lasts forward.ended κs a) where
    abbrev Statement : SProp 𝓤
    Statement = (forward.clauses 𝓛 mem run κs a).ensures tt r (at_exit forward.ended κs a w)

    abbrev Ends : List Float × List Float → SProp 𝓤
    Ends e = sem 𝓛 (fsep (finally f32 first.ghost_name e.0) (finally f32 second.ghost_name e.1))

    abbrev Outcome : List Float × List Float → SProp 𝓤
    Outcome e = sep 𝓤 (Ends e) (fact 𝓤 (Allowed r w e.0 e.1))

    pub forward_allows : Statement ≡ ex 𝓤 Outcome
    forward_allows = both⊢ 𝓤 to from
      where
        to : ent 𝓤 Statement (ex 𝓤 Outcome)
        to = via 𝓤 (Outcome (first_is, second_is)) (mono_r 𝓤 (Ends (first_is, second_is))
            (fact_mono 𝓤 (Answered r w) (Allowed r w first_is second_is)
            (λ p. record { answered = p; ends_first = refl; ends_second = refl }))) (ex_i 𝓤 Outcome (first_is, second_is))

        from : ent 𝓤 (ex 𝓤 Outcome) Statement
        from = ex_e 𝓤 Outcome (λ e. fact_use 𝓤 (Allowed r w e.0 e.1)
            (snd∗ 𝓤 (Ends e) (fact 𝓤 (Allowed r w e.0 e.1))) (λ p. mono∗ 𝓤
            (subst (λ (t : List Float × List Float). ent 𝓤 (Ends e) (Ends t)) (λ i. (p.ends_first i, p.ends_second i))
            (id⊢ 𝓤 (Ends e))) (fact_mono 𝓤 (Allowed r w e.0 e.1) (Answered r w) (λ q. q.answered))))
