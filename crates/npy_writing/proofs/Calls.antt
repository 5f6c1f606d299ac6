-- The whole call, from its checks up to 8 and from what follows them. Assumes nothing.
use Prim.Native.Nat.{ℕ, zero, suc}
use native.Mathlib.Omega.{arith}
use mathlib.Core.Path.{◌≡◌, refl}
use mathlib.Core.List.{List}
use lib.ListN.{length}
use lib.Ieee.{Float}
use Rattle.std.specs.Prelude.{Err}
use Rattle.refusals.specs.declared.Refusal.{Refusal}
use Rattle.refusals.specs.Refusals.{◌then◌, past, Outcome, outcome_of}
use Rattle.spline.specs.declared.Grid.{Grid}
use Rattle.config.specs.Config.{parameters_for, sizes_of, carried_by, checked_of}
use Rattle.admission.specs.Admission.{up_to8}
use Rattle.layer_coefficients.specs.Coefficients.{up_to37}
use Rattle.layer_coefficients.proofs.Answers.{Answered, refused_to_8, done, stopped}
use Rattle.npy_writing.specs.Writing.{file_of, from10_to11, write_fault, NpyWritten}
use Rattle.npy_writing.specs.Steps.{from37_to11, WriteDone}

module _ (ws : List ℕ) (g : Grid) (ps : List Float) (l : ℕ) (bs : List ℕ) where
  -- as one on a layer
  told : {o : Outcome} {left : List ℕ}
      → Answered (up_to37 ws g (length ps) l then from10_to11 ws g ps l (length bs))
      (carried_by (up_to37 ws g (length ps) l) (parameters_for ws g)) (file_of ws g ps l) bs o left
      → NpyWritten ws g ps l bs o left
  unfolding write_fault
  told a = record { answer = a.answer; file = a.memory }

  pub refused : (r : Refusal) → checked_of (up_to8 ws g (length ps)) (sizes_of ws g) ≡ Err r
      → NpyWritten ws g ps l bs (Err r) bs
  refused r e = told (refused_to_8 ws g (length ps) l _ _ bs r e)

  module _ (p : up_to8 ws g (length ps) ≡ 0) where
    by_number : (n : ℕ) (left : List ℕ) → n ≡ from37_to11 ws g ps l (length bs) → left ≡ past n (file_of ws g ps l) bs
        → NpyWritten ws g ps l bs (outcome_of n 0) left
    by_number zero left e m = told (done ws g (length ps) l _ _ bs p 0 left e m refl)
    by_number (suc n) left e m = told (stopped ws g (length ps) l _ _ bs p (suc n) left e m (λ z. omega (arith, z)))

    pub answered : (o : Outcome) (left : List ℕ) → WriteDone ws g ps l bs o left → NpyWritten ws g ps l bs o left
    answered o left d = rw d.answer (by_number (from37_to11 ws g ps l (length bs)) left refl d.file)
