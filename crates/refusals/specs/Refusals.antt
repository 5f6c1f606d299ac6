-- R3.3: the first refusal in a stated order: the one idiom in which all checks are written. A check's refusal is its
-- number, 0 where the check passes. Definitions only.
use Rattle.std.specs.Prelude.{ℕ, zero, suc, Bool, true, false, cond, eqb, ⊤, Ok, Err}
use Rattle.std.specs.declared.result.Result.{Result}
use Rattle.refusals.specs.declared.Refusal.{Refusal}

infix 30 ◌otherwise◌
infixr 20 ◌then◌
-- R3.3: one check: nothing where its test passes, and otherwise its number
abbrev pub ◌otherwise◌ : Bool → ℕ → ℕ
true otherwise n = 0
false otherwise n = n

-- R3.3: one check after the other, up to the first that refuses
abbrev pub ◌then◌ : ℕ → ℕ → ℕ
zero then next = next
suc n then next = suc n

-- R3.3: the first refusal of `f 0, f 1, .., f (n - 1)`, and how many pass before it, or n where all do
unfoldable pub first_to : (ℕ → ℕ) → ℕ → ℕ
first_to f zero = 0
first_to f (suc n) = first_to f n then f n

unfoldable pub done_to : (ℕ → ℕ) → ℕ → ℕ
done_to f zero = 0
done_to f (suc n) = cond (eqb (first_to f (suc n)) 0) (suc n) (done_to f n)

-- R3.6: what a call leaves in lent memory: what it writes past some checks, and what was there where one refuses
abbrev pub past : {A : Type 0} → ℕ → A → A → A
past zero new old = new
past (suc n) new old = old

-- ---- R3.2: a call answers with what it gives, or with its refusal; number 0 stands for none
abbrev pub plain : ℕ → Refusal
plain n = record { number = n; carried = 0 }

abbrev pub none : Refusal
none = plain 0

-- the answer of a call: what it gives where its checks come to 0, and otherwise their number with what it carries
abbrev pub answer_of : {A : Type 0} → ℕ → ℕ → A → Result A Refusal
answer_of zero carried answer = Ok answer
answer_of (suc n) carried answer = Err (record { number = suc n; carried = carried })

-- the same of a call that gives nothing but what it wrote
abbrev pub Outcome : Type 0
Outcome = Result ⊤ Refusal

abbrev pub outcome_of : ℕ → ℕ → Outcome
outcome_of n carried = answer_of n carried tt

-- the refusal that an answer is
abbrev pub refusal_of : {A : Type 0} → Result A Refusal → Refusal
refusal_of (Ok answer) = none
refusal_of (Err r) = r
