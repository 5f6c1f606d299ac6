-- R17.5 to R17.7: joined batches, demand 3 over a chain and the start of `dot`, of `kan_accumulate` and `kan_apply`, in the words of
-- their contracts: the numbers, what they carry, and all that was lent. Definitions only.
use Rattle.std.specs.Prelude.{ℕ, ◌+◌, ◌≡◌, List, [], ◌∷◌, length, Float}
use Rattle.floats.specs.Sums.{zeros}
use Rattle.refusals.specs.Refusals.{refusal_of}
use Rattle.spline.specs.declared.Grid.{Grid}
use Rattle.layers.specs.Net.{Net, net_of}
use Rattle.admission.specs.Admission.{up_to9_in_training}
use Rattle.training.specs.Train.{Stepped}
use Rattle.split_training.specs.Accumulating.{Accumulated}
use Rattle.split_training.specs.Applying.{Applied}
use Rattle.demands.specs.Silent.{Places, Differ}
use Rattle.demands.specs.Alike.{LeftAlike}
use Rattle.demands.specs.Start.{from_minus_zero}
use Rattle.split_demands.specs.Chains.{Part}
use Rattle.split_demands.specs.Joined.{joined_inputs, joined_targets, Stating}
use Rattle.split_demands.specs.Alike.{ChainReads}
use Rattle.split_demands.specs.Start.{NoMinusZero}
use Rattle.estimator.specs.Linkage.{Linked}

-- what a C function tells: the number, and what it carries
abbrev pub Told : Type 0
Told = ℕ × ℕ

module _ (N : Net) (ws : List ℕ) (g : Grid) (ps : List Float) where
  -- one `kan_accumulate` from the gradients gs, and what follows on those that it leaves
  pub record LinkedCall (part : Part) (gs : List Float) (told : Told) (Rest : List Float → Type 0) : Type 0 where
    pub left : List Float
    pub work : List Float
    pub made : Linked refusal_of told.0 told.1 (λ o.
        Accumulated N ws g ps part.inputs part.targets part.total gs part.work o left work)
    pub rest : Rest left

  -- the calls in order, as `Chain` has them
  unfoldable pub LinkedChain : List Part → List Float → List Told → List Float → Type 0
  LinkedChain [] gs [] gs' = gs' ≡ gs
  LinkedChain [] gs (t ∷ ts) gs' = ⊥
  LinkedChain (part ∷ parts) gs [] gs' = ⊥
  LinkedChain (part ∷ parts) gs (t ∷ ts) gs' = LinkedCall part gs t (λ (left : List Float). LinkedChain parts left ts gs')

-- every call answered 0
unfoldable pub AllZero : List Told → Type 0
AllZero [] = Unit {0}
AllZero (t ∷ ts) = (t.0 ≡ 0) × AllZero ts

pub record LinkedChains : Type 0 where
  -- R17.5: parts accumulated in order from +0.0 and applied once are one `kan_train_step` on the joined batch
  pub joined : (ws : List ℕ) (g : Grid) (ps : List Float) (first : Part) (parts : List Part) (told : List Told) (gs' : List Float)
      → LinkedChain (net_of g) ws g ps (first ∷ parts) (zeros (length ps)) told gs' → AllZero told
      → Stating (length (joined_targets (first ∷ parts))) (first ∷ parts)
      → (rate : Float) (r c : ℕ) (ps' : List Float) → Linked refusal_of r c (λ o. Applied ws g ps gs' rate o ps')
      → (gs U : List Float) → up_to9_in_training ws g (length ps) (length gs) (length U) ≡ 0
      → (s d : ℕ) (ps'' gs'' U'' : List Float) → Linked refusal_of s d (λ o.
      Stepped (net_of g) ws g ps (joined_inputs (first ∷ parts)) (joined_targets (first ∷ parts)) rate gs U o ps'' gs'' U'')
      → (s ≡ r) × (d ≡ c) × (ps'' ≡ ps')
  -- R17.6: a chain from +0.0 on two models that differ in coefficients of the set alone
  pub chain : (ws : List ℕ) (g : Grid) (D : Places) (ps qs : List Float) → Differ (g.intervals + 5) D ps qs
      → (parts : List Part) → ChainReads (net_of g) ws g D ps parts
      → (told also : List Told) (gs' gs'' : List Float) → LinkedChain (net_of g) ws g ps parts (zeros (length ps)) told gs'
      → LinkedChain (net_of g) ws g qs parts (zeros (length qs)) also gs''
      → (rate : Float) (r c s d : ℕ) (ps' qs' : List Float) → Linked refusal_of r c (λ o. Applied ws g ps gs' rate o ps')
      → Linked refusal_of s d (λ o. Applied ws g qs gs'' rate o qs')
      → (told ≡ also) × (gs' ≡ gs'') × (r ≡ s) × (c ≡ d) × LeftAlike D ps qs ps' qs'
  -- R17.7: `kan_accumulate` on the network and on the one that starts at -0.0, where no lent gradient is -0.0
  pub start : (ws : List ℕ) (g : Grid) (ps xs ts : List Float) (total : ℕ) (gs W : List Float) → NoMinusZero gs
      → (r s c d : ℕ) (gs' W' gs'' W'' : List Float)
      → Linked refusal_of r c (λ o. Accumulated (net_of g) ws g ps xs ts total gs W o gs' W')
      → Linked refusal_of s d (λ o. Accumulated (from_minus_zero g) ws g ps xs ts total gs W o gs'' W'')
      → (r ≡ s) × (c ≡ d) × (gs' ≡ gs'') × (W' ≡ W'')
