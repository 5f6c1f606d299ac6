-- Each call's statement determines its answer and the final contents of all memory lent to it (R3.6): any two outcomes
-- that it allows coincide, in the number and in each parameter in order. Where nothing is lent to be written, `refl`;
-- else both outcomes have equations with the same right side, which `cc` joins.
use mathlib.Core.Path.{◌≡◌, refl, sym, ap, ◌∙◌}
use Rattle.floats.proofs.Determined.{Determined}
use Rattle.estimator.specs.Linkage.{description_or}
use Rattle.estimator.specs.contracts.kan_check as check
use Rattle.estimator.proofs.kan_check.Reads as check-reads
use Rattle.estimator.specs.contracts.kan_initialise as initialise
use Rattle.estimator.proofs.kan_initialise.Reads as initialise-reads
use Rattle.estimator.specs.contracts.kan_predict as predict
use Rattle.estimator.proofs.kan_predict.Reads as predict-reads
use Rattle.estimator.specs.contracts.kan_loss as loss
use Rattle.estimator.proofs.kan_loss.Reads as loss-reads
use Rattle.estimator.specs.contracts.kan_train_step as step
use Rattle.estimator.proofs.kan_train_step.Reads as step-reads
use Rattle.estimator.specs.contracts.kan_train as train
use Rattle.estimator.proofs.kan_train.Reads as train-reads
use Rattle.estimator.specs.contracts.kan_accumulate as accumulate
use Rattle.estimator.proofs.kan_accumulate.Reads as accumulate-reads
use Rattle.estimator.specs.contracts.kan_apply as apply
use Rattle.estimator.proofs.kan_apply.Reads as apply-reads
use Rattle.estimator.specs.contracts.kan_visits as visits
use Rattle.estimator.proofs.kan_visits.Reads as visits-reads
use Rattle.estimator.specs.contracts.kan_image_write as write
use Rattle.estimator.proofs.kan_image_write.Reads as write-reads
use Rattle.estimator.specs.contracts.kan_image_read as read
use Rattle.estimator.proofs.kan_image_read.Reads as read-reads
use Rattle.estimator.specs.contracts.kan_image_unpack as unpack
use Rattle.estimator.proofs.kan_image_unpack.Reads as unpack-reads
use Rattle.estimator.specs.contracts.kan_npy_write as npy-write
use Rattle.estimator.proofs.kan_npy_write.Reads as npy-write-reads
use Rattle.estimator.specs.contracts.kan_npy_read as npy-read
use Rattle.estimator.proofs.kan_npy_read.Reads as npy-read-reads

-- the last contents of all parameters are one tuple: alike in the first, and alike in the rest
infixr 30 ◌&◌
◌&◌ : {A B : Type 0} {x y : A × B} → x.0 ≡ y.0 → x.1 ≡ y.1 → x ≡ y
◌&◌ first rest i = (first i, rest i)

pub check_determined : Determined check.ended check-reads.Post
check_determined κs a r r' w w' p q =
    (cc, refl & refl & refl & refl & (cc) & (cc) & refl)

pub initialise_determined : Determined initialise.ended initialise-reads.Post
initialise_determined κs a r r' w w' p q =
    (cc, refl & refl & refl & refl & refl & (cc) & (cc) & refl)

pub predict_determined : Determined predict.ended predict-reads.Post
predict_determined κs a r r' w w' p q =
    (cc, refl & refl & refl & refl & refl & refl & (cc) & (cc) & (cc) & (cc) & refl)

pub loss_determined : Determined loss.ended loss-reads.Post
loss_determined κs a r r' w w' p q =
    (cc, refl & refl & refl & refl & refl & refl & refl & (cc) & (cc) & (cc) & (cc) & refl)

pub step_determined : Determined step.ended step-reads.Post
step_determined κs a r r' w w' p q =
    (cc, refl & refl & refl & refl & (cc) & refl & refl & refl & (cc) & (cc) & (cc) & refl)

pub train_determined : Determined train.ended train-reads.Post
train_determined κs a r r' w w' p q =
    (cc, refl & refl & refl & refl & (cc) & refl & refl & refl & refl & (cc) & (cc) & (cc) & (cc) & refl)

pub accumulate_determined : Determined accumulate.ended accumulate-reads.Post
accumulate_determined κs a r r' w w' p q =
    (cc, refl & refl & refl & refl & refl & refl & refl & refl & (cc) & (cc) & (cc) & refl)

pub apply_determined : Determined apply.ended apply-reads.Post
apply_determined κs a r r' w w' p q =
    (cc, refl & refl & refl & refl & (cc) & refl & refl & (cc) & refl)

pub visits_determined : Determined visits.ended visits-reads.Post
visits_determined κs a r r' w w' p q =
    (cc, refl & refl & refl & refl & refl & refl & (cc) & (cc) & (cc) & (cc) & refl)

pub write_determined : Determined write.ended write-reads.Post
write_determined κs a r r' w w' p q =
    (cc, refl & refl & refl & refl & refl & (cc) & (cc) & refl)

pub read_determined : Determined read.ended read-reads.Post
read_determined κs a r r' w w' p q =
    let answers = p.call.0 ∙ sym q.call.0 in
    let lent = p.call.1 ∙ ap (λ o. description_or o _) answers ∙ sym q.call.1 in (
      cc,
      refl & (λ i. (lent i).grid.intervals) & (λ i. (lent i).grid.lo) & (λ i. (lent i).grid.hi) & (λ i. (lent i).widths)
          & (λ i. (lent i).parameters) & (cc) & refl,
    )

pub unpack_determined : Determined unpack.ended unpack-reads.Post
unpack_determined κs a r r' w w' p q =
    (cc, refl & (cc) & (cc) & (cc) & refl)

pub npy_write_determined : Determined npy-write.ended npy-write-reads.Post
npy_write_determined κs a r r' w w' p q =
    (cc, refl & refl & refl & refl & refl & refl & (cc) & (cc) & refl)

pub npy_read_determined : Determined npy-read.ended npy-read-reads.Post
npy_read_determined κs a r r' w w' p q =
    (cc, refl & refl & refl & refl & (cc) & refl & refl & (cc) & refl)
