-- What the checks give to the steps.
use Rattle.std.proofs.Common.{sym, ◌∙◌}
use Rattle.refusals.proofs.Firsts.{test_passes, not_refused}
use Rattle.passes.proofs.Passes.{finite_model}
use Rattle.batch_gradients.proofs.Turns.{first_some, last_some}
use Rattle.training.proofs.Whole.{sound_batch}
use Rattle.training.proofs.calls.train_sound.Goals as goal

pub run_steps-requires : goal.run_steps-requires
run_steps-requires c =
    let k = c.requires.fits.walkable in
    let finite = test_passes _ 10 (not_refused _ 0 (sym c.in_ok-refuse_unless.ensures)) in
    record {
      room = c.requires;
      batch = sound_batch c.args.widths.now c.args.inputs.now c.args.targets.now c.args.rate (first_some k) (last_some k) (not_refused _ 0 (sym c.in_ok-check_training.ensures));
      finite = finite_model _ (sym c.all_finite.ensures ∙ finite);
    }
