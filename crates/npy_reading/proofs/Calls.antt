-- The whole call, from its checks up to 8 and from what follows them. Assumes nothing.
use Prim.Native.Nat.{ℕ, zero, suc}
use native.Mathlib.Omega.{arith}
use mathlib.Core.Path.{◌≡◌, refl}
use mathlib.Core.List.{List}
use lib.ListN.{length}
use lib.Ieee.{Float}
use Rattle.std.specs.Prelude.{Err}
use Rattle.refusals.specs.declared.Refusal.{Refusal}
use Rattle.refusals.specs.Refusals.{◌then◌, past, Outcome, outcome_of}
use Rattle.spline.specs.declared.Grid.{Grid}
use Rattle.config.specs.Config.{parameters_for, sizes_of, carried_by, checked_of}
use Rattle.admission.specs.Admission.{up_to8}
use Rattle.layer_coefficients.specs.Coefficients.{up_to37, layer_at, edges_of, replaced}
use Rattle.layer_coefficients.proofs.Answers.{Answered, refused_to_8, done, stopped}
use Rattle.npy_reading.specs.Reader.{body_in, from_model_to_file, read_fault, NpyRead}
use Rattle.npy_reading.specs.Steps.{from37_to_file, ReadDone}

module _ (ws : List ℕ) (g : Grid) (ps : List Float) (l : ℕ) (bs : List ℕ) where
  abbrev taken : List Float
  taken = replaced ps (layer_at ws g l) g.intervals (edges_of ws l) (body_in bs)

  -- as one on a layer
  told : {o : Outcome} {left : List Float}
      → Answered (up_to37 ws g (length ps) l then from_model_to_file ws g ps l bs)
      (carried_by (up_to37 ws g (length ps) l) (parameters_for ws g)) taken ps o left
      → NpyRead ws g ps l bs o left
  unfolding read_fault
  told a = record { answer = a.answer; model = a.memory }

  pub refused : (r : Refusal) → checked_of (up_to8 ws g (length ps)) (sizes_of ws g) ≡ Err r
      → NpyRead ws g ps l bs (Err r) ps
  refused r e = told (refused_to_8 ws g (length ps) l _ _ ps r e)

  module _ (p : up_to8 ws g (length ps) ≡ 0) where
    by_number : (n : ℕ) (left : List Float) → n ≡ from37_to_file ws g ps l bs → left ≡ past n taken ps
        → NpyRead ws g ps l bs (outcome_of n 0) left
    by_number zero left e m = told (done ws g (length ps) l _ _ ps p 0 left e m refl)
    by_number (suc n) left e m = told (stopped ws g (length ps) l _ _ ps p (suc n) left e m (λ z. omega (arith, z)))

    pub answered : (o : Outcome) (left : List Float) → ReadDone ws g ps l bs o left → NpyRead ws g ps l bs o left
    answered o left d = rw d.answer (by_number (from37_to_file ws g ps l bs) left refl d.model)
