-- What `kan_npy_write` has written, `kan_npy_read` takes back: the two calls that they stand for do. Assumes nothing.
use Prim.Native.Nat.{ℕ}
use mathlib.Core.Path.{◌≡◌, sym, ap, ◌∙◌}
use mathlib.Core.List.{List}
use lib.ListN.{length}
use lib.Ieee.{Float}
use Rattle.refusals.specs.Refusals.{past, outcome_of, refusal_of}
use Rattle.refusals.proofs.Firsts.{not_refused}
use Rattle.spline.specs.declared.Grid.{Grid}
use Rattle.config.specs.Config.{parameters_for, carried_by}
use Rattle.layer_coefficients.specs.Coefficients.{up_to37}
use Rattle.npy_writing.specs.Writing.{file_of, write_fault, NpyWritten}
use Rattle.npy_reading.specs.Reader.{read_fault, NpyRead}
use Rattle.npy_round_trip.specs.RoundTrip.{after_file}
use Rattle.npy_round_trip.proofs.RoundTrip.{round_trip}
use Rattle.estimator.specs.Linkage.{Linked}
use Rattle.linked_demands.specs.Exchanged.{LinkedExchange}
use Rattle.linked_demands.proofs.Linked.{told_done}

module _ (ws : List ℕ) (g : Grid) (l : ℕ) where
  -- a file that was told as written
  written : (ps : List Float) (bs file : List ℕ) (n c : ℕ) → Linked refusal_of n c (λ o. NpyWritten ws g ps l bs o file)
      → n ≡ 0 → (write_fault ws g ps l bs ≡ 0) × (file ≡ file_of ws g ps l)
  written ps bs file n c w z =
      let call = w.call in
      let done = told_done (write_fault ws g ps l bs) _ w.answer call.answer (sym z ∙ w.told.number) in
      let passed = not_refused (write_fault ws g ps l bs) _ (sym call.answer ∙ done) in
      (passed, call.file ∙ ap (λ (f : ℕ). past f (file_of ws g ps l) bs) passed)

  -- and one that is read where no check refuses it
  taken : (qs : List Float) (file : List ℕ) (m d : ℕ) (qs' : List Float)
      → Linked refusal_of m d (λ o. NpyRead ws g qs l file o qs') → read_fault ws g qs l file ≡ 0
      → (m ≡ 0) × (qs' ≡ after_file ws g l qs file)
  taken qs file m d qs' r e =
      let call = r.call in
      let carried = carried_by (up_to37 ws g (length qs) l) (parameters_for ws g) in (
        r.told.number ∙ ap (λ o. (refusal_of o).number) (call.answer ∙ ap (λ (f : ℕ). outcome_of f carried) e),
        call.model ∙ ap (λ (f : ℕ). past f (after_file ws g l qs file) qs) e,
      )

pub linked_exchange : LinkedExchange
linked_exchange = record {
  read_back = λ ws g l ps qs bs file n c w z held long sound m d qs' r. let put = written ws g l ps bs file n c w z in
      let back = round_trip.read_back ws g ps qs l bs held put.0 long sound in
      let got = taken ws g l qs file m d qs' r (ap (read_fault ws g qs l) put.1 ∙ back.accepted) in
      let model = got.1 ∙ ap (after_file ws g l qs) put.1 in
      record {
        accepted = got.0;
        element = λ o i k h. rw model (back.element o i k h);
        elsewhere = rw model back.elsewhere;
      };
}
