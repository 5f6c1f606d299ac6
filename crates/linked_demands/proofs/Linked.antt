-- Demand 3, the start of `dot` and what a map shows reach through the C linkage: calls that answer alike are told alike. Assumes nothing.
use Rattle.std.specs.Prelude.{Ok}
use Prim.Native.Nat.{ℕ, zero, suc, ◌+◌}
use native.Mathlib.Omega.{arith}
use mathlib.Core.Path.{◌≡◌, sym, ap, ◌∙◌, subst}
use mathlib.Core.List.{List}
use lib.Ieee.{Float}
use Rattle.refusals.specs.declared.Refusal.{Refusal}
use Rattle.refusals.specs.Refusals.{Outcome, outcome_of, refusal_of}
use Rattle.spline.specs.declared.Grid.{Grid}
use Rattle.layers.specs.Net.{Net, net_of}
use Rattle.demands.specs.Silent.{Places, Differ}
use Rattle.demands.specs.Alike.{SamePredict, SameLoss, SameStep, SameTraining}
use Rattle.demands.specs.Start.{from_minus_zero}
use Rattle.demands.proofs.Demand.{demand_3}
use Rattle.demands.specs.Unmarked.{unmarked}
use Rattle.demands.proofs.HiddenStart.{start_hidden}
use Rattle.demands.proofs.Unmarked.{map_shows}
use Rattle.estimator.specs.Linkage.{Linked, mean_or}
use Rattle.training.specs.Train.{steps_done}
use Rattle.visit_map.specs.Visits.{visit_refusal, visit_carried, Visited}
use Rattle.linked_demands.specs.Linked.{SameLinked, SameKanPredict, SameKanLoss, SameKanStep, SameKanTrain}
use Rattle.linked_demands.specs.Linked.{LinkedDemand, LinkedHidden, LinkedUnmarked, LinkedDemands}

-- the same answer has the same number, and carries the same
pub told_alike : {A : Type 0} {refusal : A → Refusal} {P Q : A → Type 0} {Rest : Type 0}
    → ((x y : A) → P x → Q y → (x ≡ y) × Rest) → SameLinked refusal P Q Rest
told_alike {refusal = refusal} same r s c d p q =
    let both = same p.answer q.answer p.call q.call in (
      p.told.number ∙ ap (λ x. (refusal x).number) both.0 ∙ sym q.told.number,
      p.told.carried ∙ ap (λ x. (refusal x).carried) both.0 ∙ sym q.told.carried,
      both.1,
    )

module _ {N M : Net} {ws : List ℕ} {g : Grid} {ps qs xs : List Float} where
  kan_predict : {a b ys : List Float} → SamePredict N M ws g ps qs xs a b ys → SameKanPredict N M ws g ps qs xs a b ys
  kan_predict same a' b' ys' a'' b'' ys'' =
      told_alike (λ x y p q. let e = same x y a' b' ys' a'' b'' ys'' p q in (e.0, (e.1, e.2, e.3)))

  kan_loss : {ts a b : List Float} (lent : Float) → SameLoss N M ws g ps qs xs ts a b
      → SameKanLoss N M ws g ps qs xs ts a b lent
  kan_loss lent same a' b' a'' b'' l' l'' =
      told_alike (λ x y p q.
      let e = same x y a' b' a'' b'' p.0 q.0 in
      (e.0, (p.1 ∙ ap (λ o. mean_or o lent) e.0 ∙ sym q.1, e.1, e.2)))

  module _ {Left : List Float → List Float → Type 0} {ts : List Float} {rate : Float} {gs W : List Float} where
    kan_step : SameStep N M ws g ps qs xs Left ts rate gs W → SameKanStep N M ws g ps qs xs Left ts rate gs W
    kan_step same ps' gs' W' qs' gs'' W'' =
        told_alike (λ x y p q. let e = same x y ps' gs' W' qs' gs'' W'' p q in (e.0, (e.1, e.2, e.3)))

    kan_train : {steps : ℕ} → SameTraining N M ws g ps qs xs Left ts rate gs W steps
        → SameKanTrain N M ws g ps qs xs Left ts rate gs W steps
    kan_train same ps' gs' W' qs' gs'' W'' n' n'' =
        told_alike (λ x y p q.
        let e = same x y ps' gs' W' qs' gs'' W'' p.0 q.0 in
        (e.0, (p.1 ∙ ap steps_done e.0 ∙ sym q.1, e.1, e.2, e.3)))

linked_demand : (ws : List ℕ) (g : Grid) (D : Places) (ps qs : List Float) → Differ (g.intervals + 5) D ps qs
    → LinkedDemand (net_of g) ws g D ps qs
linked_demand ws g D ps qs differ =
    let alike = demand_3 ws g D ps qs differ in
    record {
      predict = λ xs a b ys reads. kan_predict (alike.predict xs a b ys reads);
      loss = λ xs ts a b lent reads. kan_loss lent (alike.loss xs ts a b reads);
      step = λ xs ts rate gs W reads. kan_step (alike.step xs ts rate gs W reads);
      train = λ xs ts rate gs W steps reads. kan_train (alike.train xs ts rate gs W steps reads);
    }

linked_hidden : (ws : List ℕ) (g : Grid) (ps xs : List Float) → LinkedHidden (net_of g) (from_minus_zero g) ws g ps xs
linked_hidden ws g ps xs =
    let hidden = start_hidden ws g ps xs in
    record {
      predict = λ a b ys. kan_predict (hidden.predict a b ys);
      loss = λ ts a b lent. kan_loss lent (hidden.loss ts a b);
      step = λ ts rate gs W. kan_step (hidden.step ts rate gs W);
      train = λ ts rate gs W steps. kan_train (hidden.train ts rate gs W steps);
    }

-- a call that was told as 0 was not refused
pub told_done : (n c : ℕ) (r : Outcome) → r ≡ outcome_of n c → 0 ≡ (refusal_of r).number → r ≡ Ok tt
told_done zero c r e z = e
told_done (suc n) c r e z =
    let z : ◌≡◌ {A = ℕ} 0 (suc n) = z ∙ ap (λ (o : Outcome). (refusal_of o).number) e in absurd (omega arith)

module _ (ws : List ℕ) (g : Grid) (ps xs a b : List Float) (ms : List ℕ) (a' b' : List Float) (ms' : List ℕ) (c : ℕ)
    (v : Linked refusal_of 0 c (λ o. Visited (net_of g) ws g ps xs a b ms o a' b' ms')) where
  accepted : Visited (net_of g) ws g ps xs a b ms (Ok tt) a' b' ms'
  accepted =
      subst (λ (o : Outcome). Visited (net_of g) ws g ps xs a b ms o a' b' ms')
      (told_done (visit_refusal (net_of g) ws g ps xs a b ms) (visit_carried (net_of g) ws g ps xs a b ms) v.answer v.call.answer
      v.told.number) v.call

  linked_unmarked : (qs : List Float) → Differ (g.intervals + 5) (unmarked (g.intervals + 5) ms') ps qs
      → LinkedUnmarked (net_of g) ws g ps xs ms' qs
  linked_unmarked qs differ =
      let alike = (map_shows ws g ps xs a b ms a' b' ms' accepted).alike qs differ in
      record {
        predict = λ a b ys. kan_predict (alike.predict a b ys);
        loss = λ ts a b lent. kan_loss lent (alike.loss ts a b);
        step = λ ts rate gs W. kan_step (alike.step ts rate gs W);
      }

pub linked_demands : LinkedDemands
linked_demands = record { demand = linked_demand; start = linked_hidden; map = linked_unmarked }
