-- The whole call by its stages: refused before the work, refused by 10 or 11, or marked and swept. Assumes nothing.
use Rattle.std.specs.Prelude.{Err, Ok}
use mathlib.Core.Path.{◌≡◌, refl, sym, ap, ◌∙◌}
use mathlib.Core.Bool.{Bool, true, false}
use mathlib.Core.List.{List, ◌++◌}
use Prim.Native.Nat.{ℕ, zero, suc, ◌+◌, ◌<◌}
use native.Mathlib.Omega.{arith}
use lib.Dec.{eqb}
use lib.ListN.{length, drop}
use lib.Ieee.{Float}
use borrow.Author.Tests.{eq-eqb, ne_eqb, eqb-true, eqb-false}
use Rattle.floats.specs.Sums.{zeros, all_finite}
use Rattle.refusals.specs.declared.Refusal.{Refusal}
use Rattle.refusals.specs.Refusals.{◌otherwise◌, ◌then◌, first_to, done_to, past, Outcome, outcome_of}
use Rattle.refusals.proofs.Firsts.{then_first, both_pass, test_passes, past_stopped, first_stop, done_stop}
use Rattle.refusals.proofs.Firsts.{not_refused, refused}
use Rattle.spline.specs.declared.Grid.{Grid}
use Rattle.layers.specs.Net.{Net}
use Rattle.layers.specs.Widths.{parameters_in}
use Rattle.config.specs.declared.Sizes.{Sizes}
use Rattle.config.specs.Config.{carried_by, sizes_of}
use Rattle.config.proofs.Answers.{Rejected}
use Rattle.admission.specs.Admission.{up_to9}
use Rattle.admission.proofs.Passed.{Past9, past9}
use Rattle.passes.specs.Pass.{rows_of, refusal_at}
use Rattle.passes.specs.Turns.{Past}
use Rattle.passes.proofs.Past9.{SoundPast9, swept_end}
use Rattle.touched_layer.specs.Touched.{blank}
use Rattle.visit_map.specs.Visits.{marks_of, map_up_to11, visit_refusal, visit_carried, visit_marks, Visited}
use Rattle.visit_map.specs.Steps.{Unswept}

-- ---- an answer by n checks and then `rows`, where the checks refuse and where they pass
checks_stop : (n rows done carried : ℕ) → (n ≡ 0 → ⊥)
    → outcome_of n carried ≡ outcome_of (n then rows) (past n done carried)
checks_stop zero rows done carried h = absurd (h refl)
checks_stop (suc n) rows done carried h = refl

checks_pass : (n rows done carried : ℕ) → n ≡ 0
    → outcome_of rows done ≡ outcome_of (n then rows) (past n done carried)
checks_pass zero rows done carried e = refl
checks_pass (suc n) rows done carried e = absurd (omega (arith, e))

past_passed : {A : Type 0} (n : ℕ) (new old : A) → n ≡ 0 → past n new old ≡ new
past_passed zero new old e = refl
past_passed (suc n) new old e = absurd (omega (arith, e))

-- the rows' part of it: the refusal of the first row that is refused, which carries its number
with_row : (n r : ℕ) (e : Refusal) → Err e ≡ outcome_of n 0
    → Err (record { number = e.number; carried = r }) ≡ outcome_of n r
with_row zero r e p = cc
with_row (suc n) r e p = let m : e.number ≡ suc n = cc in rw m

row_stops : (f : ℕ → ℕ) (r n : ℕ) (e : Refusal) → r < n → first_to f r ≡ 0 → Err e ≡ outcome_of (f r) 0
    → Err (record { number = e.number; carried = r }) ≡ outcome_of (first_to f n) (done_to f n)
row_stops f r n e l q p =
    let h = refused (f r) 0 e (sym p) in
    rw (first_stop f r n l q h, done_stop f r n l q h) (with_row (f r) r e p)

-- ---- what is known past check 11
pub record Past11 (ws : List ℕ) (g : Grid) (ps : List Float) (first second map : ℕ) : Type 0 where
  pub work : Past9 ws g (length ps) first second
  pub bytes : map ≡ parameters_in (g.intervals + 5) ws
  pub finite : all_finite ps ≡ true

module _ (ws : List ℕ) (g : Grid) (ps : List Float) (first second map : ℕ) where
  abbrev total : ℕ
  total = parameters_in (g.intervals + 5) ws

  pub past11 : map_up_to11 ws g ps first second map ≡ 0 → Past11 ws g ps first second map
  unfolding map_up_to11
  past11 e =
      let after9 = both_pass (up_to9 ws g (length ps) first second) _ e in
      let after10 = both_pass (eqb map total otherwise 10) _ after9.1 in
      record {
        work = past9 ws g (length ps) first second after9.0;
        bytes = eqb-true map total (test_passes _ 9 after10.0);
        finite = test_passes (all_finite ps) 10 after10.1;
      }

  module _ (e : up_to9 ws g (length ps) first second ≡ 0) where
    stops10 : (map ≡ total → ⊥) → map_up_to11 ws g ps first second map ≡ 10
    unfolding map_up_to11
    stops10 h = rw (e, ne_eqb map total h)

    stops11 : map ≡ total → all_finite ps ≡ false → map_up_to11 ws g ps first second map ≡ 11
    unfolding map_up_to11
    stops11 h w = rw (e, eq-eqb map total h, w)

    -- both let the call through
    pub map_fits : {r : Outcome} → r ≡ outcome_of (eqb map (length ps) otherwise 10) 0 → r ≡ Ok tt → map ≡ total
    map_fits p q =
        eqb-true map (length ps) (test_passes _ 9 (not_refused _ 0 (sym p ∙ q)))
        ∙ (past9 ws g (length ps) first second e).model

    pub passes11 : {t : Bool} {r : Outcome} → map ≡ total → t ≡ all_finite ps → r ≡ outcome_of (t otherwise 11) 0
        → r ≡ Ok tt → map_up_to11 ws g ps first second map ≡ 0
    unfolding map_up_to11
    passes11 {t} h f p q =
        let w : t ≡ true = test_passes _ 10 (not_refused _ 0 (sym p ∙ q)) in
        rw (e, eq-eqb map total h, ← f, w)

module _ (N : Net) (ws : List ℕ) (g : Grid) (ps xs a b : List Float) (ms : List ℕ) where
  abbrev P : ℕ
  P = parameters_in (g.intervals + 5) ws

  abbrev to9 : ℕ
  to9 = up_to9 ws g (length ps) (length a) (length b)

  abbrev checks : ℕ
  checks = map_up_to11 ws g ps (length a) (length b) (length ms)

  abbrev f : ℕ → ℕ
  f = refusal_at N ps ws xs

  -- ---- a check before the rows refuses
  stopped_answer : (checks ≡ 0 → ⊥)
      → outcome_of checks (carried_by checks P)
      ≡ outcome_of (visit_refusal N ws g ps xs a b ms) (visit_carried N ws g ps xs a b ms)
  unfolding visit_refusal visit_carried
  stopped_answer h = checks_stop checks (first_to f (rows_of ws xs)) (done_to f (rows_of ws xs)) (carried_by checks P) h

  stopped_map : (checks ≡ 0 → ⊥) → ms ≡ visit_marks N ws g ps xs a b ms
  unfolding visit_marks
  stopped_map h = sym (past_stopped checks _ ms h)

  stopped : (n : ℕ) (e : Refusal) → checks ≡ suc n → carried_by (suc n) P ≡ 0 → Err e ≡ outcome_of (suc n) 0
      → Unswept N ws g ps xs a b ms (Err e) a b ms
  stopped n e q c p =
      let h : (checks ≡ 0 → ⊥) = λ (z : checks ≡ 0). omega (arith, q, z) in
      record {
        answer = p ∙ ap (outcome_of (suc n)) (sym c) ∙ ap (λ (k : ℕ). outcome_of k (carried_by k P)) (sym q)
            ∙ stopped_answer h;
        map = stopped_map h;
        first = λ m l. refl;
        second = λ m l. refl;
      }

  pub wrong_map : (e : Refusal) → to9 ≡ 0 → Err e ≡ outcome_of (eqb (length ms) (length ps) otherwise 10) 0
      → Unswept N ws g ps xs a b ms (Err e) a b ms
  wrong_map e z p = go (eqb (length ms) (length ps)) refl p
    where
      go : (t : Bool) → eqb (length ms) (length ps) ≡ t → Err e ≡ outcome_of (t otherwise 10) 0
          → Unswept N ws g ps xs a b ms (Err e) a b ms
      go true q p = cc
      go false q p =
          let h = eqb-false (length ms) (length ps) q in
          let m = (past9 ws g (length ps) (length a) (length b) z).model in
          stopped 9 e (stops10 ws g ps (length a) (length b) (length ms) z (λ i. h (i ∙ sym m))) refl p

  pub wild_model : (t : Bool) (e : Refusal) → to9 ≡ 0 → length ms ≡ P → t ≡ all_finite ps
      → Err e ≡ outcome_of (t otherwise 11) 0 → Unswept N ws g ps xs a b ms (Err e) a b ms
  wild_model true e z h q p = cc
  wild_model false e z h q p =
      stopped 10 e (stops11 ws g ps (length a) (length b) (length ms) z h (sym q)) refl p

  -- ---- the rows: one is refused, or none
  module _ {a' b' : List Float} {ms' : List ℕ} (e : checks ≡ 0) (first : Past ws a a') (second : Past ws b b') where
    from_rows : (r : Outcome) → r ≡ outcome_of (first_to f (rows_of ws xs)) (done_to f (rows_of ws xs))
        → ms' ≡ past (first_to f (rows_of ws xs)) (marks_of N ps ws xs (rows_of ws xs) P) (blank P)
        → Unswept N ws g ps xs a b ms r a' b' ms'
    unfolding visit_refusal visit_carried visit_marks
    from_rows r p q = record {
      answer = p ∙ checks_pass checks (first_to f (rows_of ws xs)) (done_to f (rows_of ws xs)) (carried_by checks P) e;
      map = q ∙ sym (past_passed checks _ ms e);
      first = first;
      second = second;
    }

    pub row_refused : (r : ℕ) (e : Refusal) → r < rows_of ws xs → first_to f r ≡ 0 → Err e ≡ outcome_of (f r) 0
        → ms' ≡ blank P → Unswept N ws g ps xs a b ms (Err (record { number = e.number; carried = r })) a' b' ms'
    row_refused r e l q p m =
        let h = refused (f r) 0 e (sym p) in
        let some : (first_to f (rows_of ws xs) ≡ 0 → ⊥) =
        λ (i : first_to f (rows_of ws xs) ≡ 0). h (sym (first_stop f r (rows_of ws xs) l q h) ∙ i) in
        from_rows (Err (record { number = e.number; carried = r })) (row_stops f r (rows_of ws xs) e l q p)
        (m ∙ sym (past_stopped _ _ (blank P) some))

    pub all_rows : first_to f (rows_of ws xs) ≡ 0 → ms' ≡ marks_of N ps ws xs (rows_of ws xs) P
        → Unswept N ws g ps xs a b ms (Ok tt) a' b' ms'
    all_rows p m = from_rows (Ok tt) (rw p) (m ∙ sym (past_passed _ _ (blank P) p))

  -- ---- the checks up to 9 refuse, or the work is done and swept
  pub not_begun : (r : Refusal) → Rejected to9 (sizes_of ws g) r → Visited N ws g ps xs a b ms (Err r) a b ms
  unfolding map_up_to11
  not_begun r j =
      let same : to9 ≡ checks = then_first to9 _ j.stopped in
      let h : (checks ≡ 0 → ⊥) = λ (z : checks ≡ 0). j.stopped (same ∙ z) in
      record {
        answer = j.outcome ∙ ap (λ (k : ℕ). outcome_of k (carried_by k P)) same ∙ stopped_answer h;
        map = stopped_map h;
        first = sym (past_stopped to9 _ a j.stopped);
        second = sym (past_stopped to9 _ b j.stopped);
      }

  pub swept_after : {s : Sizes} {r : Outcome} (a₁ b₁ : List Float) {a₂ b₂ : List Float} {ms' : List ℕ}
      → SoundPast9 ws g (length ps) (length a) (length b) s → Unswept N ws g ps xs a b ms r a₁ b₁ ms'
      → a₂ ≡ zeros s.widest ++ drop s.widest a₁ → b₂ ≡ zeros s.widest ++ drop s.widest b₁
      → Visited N ws g ps xs a b ms r a₂ b₂ ms'
  swept_after a₁ b₁ k d p q = record {
    answer = d.answer;
    map = d.map;
    first = swept_end k a a₁ d.first p;
    second = swept_end k b b₁ d.second q;
  }
