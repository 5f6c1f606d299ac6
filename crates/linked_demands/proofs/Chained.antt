-- Joined batches, demand 3 over a chain and the start of `dot` reach through the C linkage: a chain of C functions is the chain of the
-- calls that they stand for, and tells those calls' answers. Assumes nothing.
use Rattle.std.specs.Prelude.{Ok}
use Prim.Native.Nat.{ℕ}
use mathlib.Core.Path.{◌≡◌, refl, sym, ap, ◌∙◌}
use mathlib.Core.List.{List, [], ◌∷◌, map}
use lib.ListN.{length}
use lib.Ieee.{Float}
use Rattle.floats.specs.Sums.{zeros}
use Rattle.refusals.specs.Refusals.{Outcome, refusal_of}
use Rattle.spline.specs.declared.Grid.{Grid}
use Rattle.layers.specs.Net.{Net, net_of}
use Rattle.split_training.specs.Accumulating.{accumulate_fault, Accumulated}
use Rattle.split_demands.specs.Chains.{Part, Chain}
use Rattle.split_demands.specs.Joined.{AllDone}
use Rattle.split_demands.proofs.Joined.{in_two_calls}
use Rattle.split_demands.proofs.Alike.{chain_demand}
use Rattle.split_demands.proofs.Start.{start_accumulating}
use Rattle.linked_demands.specs.Chained.{Told, LinkedChain, AllZero, LinkedChains}
use Rattle.linked_demands.proofs.Linked.{told_alike, told_done}

-- what a C function tells of an answer
abbrev told_of : Outcome → Told
told_of r = ((refusal_of r).number, (refusal_of r).carried)

module _ (N : Net) (ws : List ℕ) (g : Grid) (ps : List Float) where
  -- a `kan_accumulate` that was told as 0 was not refused
  call_done : {xs ts : List Float} {total : ℕ} {gs W : List Float} {r : Outcome} {gs' W' : List Float}
      → Accumulated N ws g ps xs ts total gs W r gs' W' → 0 ≡ (refusal_of r).number → r ≡ Ok tt
  call_done {xs} {ts} {total} {gs} {W} {r} call zero =
      told_done (accumulate_fault N ws g ps xs ts total gs W) _ r call.answer zero

  -- ---- the calls behind a chain of C functions: their answers are all that it tells, so that 0 throughout is no refusal
  record Behind (parts : List Part) (gs : List Float) (told : List Told) (gs' : List Float) : Type 0 where
    answers : List Outcome
    calls : Chain N ws g ps parts gs answers gs'
    same : told ≡ map told_of answers
    done : AllZero told → AllDone answers

  behind : (parts : List Part) (gs : List Float) (told : List Told) (gs' : List Float) → LinkedChain N ws g ps parts gs told gs'
      → Behind parts gs told gs'
  unfolding LinkedChain Chain AllZero AllDone
  behind [] gs [] gs' e = record { answers = []; calls = e; same = refl; done = λ zero. zero }
  behind [] gs (t ∷ ts) gs' e = absurd e
  behind (part ∷ parts) gs [] gs' e = absurd e
  behind (part ∷ parts) gs (t ∷ ts) gs' c =
      let made = c.made in
      let rest = behind parts c.left ts gs' c.rest in
      record {
        answers = made.answer ∷ rest.answers;
        calls = record { left = c.left; work = c.work; made = made.call; rest = rest.calls };
        same = λ i. (made.told.number i, made.told.carried i) ∷ rest.same i;
        done = λ zero. (call_done made.call (sym zero.0 ∙ made.told.number), rest.done zero.1);
      }

  from_zeros : {parts : List Part} {told : List Told} {gs' : List Float} → LinkedChain N ws g ps parts (zeros (length ps)) told gs'
      → Behind parts (zeros (length ps)) told gs'
  from_zeros {parts} {told} {gs'} c = behind parts (zeros (length ps)) told gs' c

pub linked_chains : LinkedChains
linked_chains =
    record {
      joined = λ ws g ps first parts told gs' c zero stating rate r k ps' applied gs U to9 s d ps'' gs'' U'' step.
          let b = from_zeros (net_of g) ws g ps c in
          let once = (in_two_calls (net_of g) ws g ps).joined first parts b.answers gs' b.calls (b.done zero) stating in
          told_alike (λ x y p q. once rate y ps' q gs U to9 x ps'' gs'' U'' p) s r d k step applied;
      chain = λ ws g D ps qs differ parts reads told also gs' gs'' first second rate r c s d ps' qs' p q.
          let a = from_zeros (net_of g) ws g ps first in
          let b = from_zeros (net_of g) ws g qs second in
          let alike = (chain_demand ws g D ps qs differ).chain parts reads a.answers b.answers gs' gs'' a.calls b.calls rate in
          let both = alike p.answer q.answer ps' qs' p.call q.call in
          let applied = told_alike (λ x y p q. let e = alike x y ps' qs' p q in (e.2, e.3)) r s c d p q in
          (a.same ∙ ap (map told_of) both.0 ∙ sym b.same, both.1, applied.0, applied.1, applied.2);
      start = λ ws g ps xs ts total gs W clean r s c d gs' W' gs'' W'' p q.
          let here = start_accumulating ws g ps xs ts total gs W in
          let told = told_alike (λ x y p q. here.answer x y gs' W' gs'' W'' p q) r s c d p q in
          (told.0, told.1, here.hidden clean p.answer q.answer gs' W' gs'' W'' p.call q.call, told.2);
    }
