-- R17.6: demand 3 over a chain of calls on two models that differ in silent coefficients. Assumes nothing.
use Prim.Native.Nat.{ℕ, ◌+◌, ◌<◌}
use mathlib.Core.Path.{◌≡◌, refl, sym, ◌∙◌, subst}
use mathlib.Core.Logic.{inl}
use mathlib.Core.Bool.{true}
use mathlib.Core.List.{List, [], ◌∷◌}
use lib.ListN.{length}
use lib.Ieee.{Float}
use Rattle.floats.specs.Binary32.{zero32}
use Rattle.floats.specs.Sums.{at, zeros}
use Rattle.floats.proofs.Loops.{tab_length}
use Rattle.refusals.specs.Refusals.{Outcome}
use Rattle.spline.specs.declared.Grid.{Grid}
use Rattle.layers.specs.Net.{Net, net_of}
use Rattle.demands.specs.Silent.{Places, Differ}
use Rattle.demands.specs.Readings.{StepReads}
use Rattle.demands.specs.Alike.{LeftAlike}
use Rattle.demands.proofs.Cells.{table_at}
use Rattle.demands.proofs.Gathered.{Still}
use Rattle.split_training.specs.Accumulating.{up_to28, Accumulated}
use Rattle.split_training.specs.Applying.{Applied}
use Rattle.split_demands.specs.Chains.{Part, Chain}
use Rattle.split_demands.specs.Alike.{ChainReads, ChainDemand}
use Rattle.split_demands.proofs.Taken.{call_length}
use Rattle.split_demands.proofs.Adding.{left_still, call_same}
use Rattle.split_demands.proofs.Moving.{Again, models_left, apply_answered}

module _ (ws : List ℕ) (g : Grid) (D : Places) (ps qs : List Float) (differ : Differ (g.intervals + 5) D ps qs) where
  abbrev N : Net
  N = net_of g

  -- ---- gradients that the calls of a chain are lent: as many as the parameters, and nothing in those of the set
  record Lent (gs : List Float) : Type 0 where
    many : length gs ≡ length ps
    still : (p : ℕ) → D p ≡ true → Still (at gs p)

  begins : Lent (zeros (length ps))
  begins =
      record {
        many = tab_length (λ (i : ℕ). zero32) (length ps);
        still = λ p d. inl (table_at (λ (i : ℕ). zero32) (length ps) p (differ.within p d));
      }

  -- ---- one call
  module _ (part : Part) (parts : List Part) (gs : List Float) (lent : Lent gs)
      (reads : ChainReads N ws g D ps (part ∷ parts)) where
    abbrev checks : List Float → ℕ
    checks ds = up_to28 N ws g ps part.inputs part.targets part.total ds part.work

    -- of the gradients the checks see only how many there are
    checks_alike : checks gs ≡ checks (zeros (length ps))
    unfolding up_to28
    checks_alike = rw (lent.many, tab_length (λ (i : ℕ). zero32) (length ps))

    reads_here : checks gs ≡ 0 → StepReads N ws D ps part.inputs
    unfolding ChainReads
    reads_here z = reads.0 (sym checks_alike ∙ z)

    reads_behind : ChainReads N ws g D ps parts
    unfolding ChainReads
    reads_behind = reads.1

    lent_on : {r : Outcome} {left work : List Float}
        → Accumulated N ws g ps part.inputs part.targets part.total gs part.work r left work → Lent left
    lent_on call =
        record {
          many = call_length N ws g ps part.inputs part.targets part.total gs part.work call ∙ lent.many;
          still = λ p d.
              rw call.gradients (left_still ws g D ps qs differ part.inputs part.targets part.total gs part.work
              reads_here p d (subst (λ (n : ℕ). p < n) (sym lent.many) (differ.within p d)) (lent.still p d));
        }

  -- ---- all calls
  chain_alike : (parts : List Part) (rs ss : List Outcome) (gs gs' gs'' : List Float) → Lent gs → ChainReads N ws g D ps parts
      → Chain N ws g ps parts gs rs gs' → Chain N ws g qs parts gs ss gs'' → (rs ≡ ss) × (gs' ≡ gs'') × Lent gs'
  unfolding Chain
  chain_alike [] [] [] gs gs' gs'' lent reads c d = (refl, c ∙ sym d, rw c lent)
  chain_alike [] [] (s ∷ ss) gs gs' gs'' lent reads c d = absurd d
  chain_alike [] (r ∷ rs) ss gs gs' gs'' lent reads c d = absurd c
  chain_alike (part ∷ parts) [] ss gs gs' gs'' lent reads c d = absurd c
  chain_alike (part ∷ parts) (r ∷ rs) [] gs gs' gs'' lent reads c d = absurd d
  chain_alike (part ∷ parts) (r ∷ rs) (s ∷ ss) gs gs' gs'' lent reads c d =
      let here = call_same ws g D ps qs differ part.inputs part.targets part.total gs part.work
      (reads_here part parts gs lent reads) r s _ _ _ _ c.made d.made in
      let behind = chain_alike parts rs ss c.left gs' gs'' (lent_on part parts gs lent reads c.made)
      (reads_behind part parts gs lent reads) c.rest (rw (← here.1) at d.rest) in
      ((λ i. here.0 i ∷ behind.0 i), behind.1, behind.2)

  -- ---- and `apply`
  module _ (parts : List Part) (reads : ChainReads N ws g D ps parts) (rs ss : List Outcome) (gs' gs'' : List Float)
      (first : Chain N ws g ps parts (zeros (length ps)) rs gs') (second : Chain N ws g qs parts (zeros (length qs)) ss gs'') where
    gone : (rs ≡ ss) × (gs' ≡ gs'') × Lent gs'
    gone = chain_alike parts rs ss (zeros (length ps)) gs' gs'' begins reads first (rw (← differ.size) at second)

    applied_alike : (rate : Float) (r s : Outcome) (ps' qs' : List Float) → Applied ws g ps gs' rate r ps'
        → Applied ws g qs gs'' rate s qs'
        → (rs ≡ ss) × (gs' ≡ gs'') × (r ≡ s) × LeftAlike D ps qs ps' qs' × Differ N.stride D ps' qs'
    applied_alike rate r s ps' qs' p q =
        let still = gone.2.still in
        let q' : Applied ws g qs gs' rate s qs' = rw (← gone.1) at q in
        let left : Again N.stride D ps qs ps' qs' = rw (p.model, q'.model) (models_left ws g differ gs' still rate) in (
          gone.0,
          gone.1,
          p.answer ∙ apply_answered ws g differ gs' still rate ∙ sym q'.answer,
          left.0,
          left.1,
        )

  pub chain_demand : ChainDemand (net_of g) ws g D ps qs
  chain_demand =
      record {
        accumulate = call_same ws g D ps qs differ;
        chain = λ parts reads rs ss gs' gs'' first second. applied_alike parts reads rs ss gs' gs'' first second;
      }
