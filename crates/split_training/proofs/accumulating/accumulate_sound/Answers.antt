-- What the checks give to the rows.
use Rattle.std.proofs.Common.{sym, ◌∙◌}
use borrow.Author.Tests.{eqb-true}
use Rattle.refusals.proofs.Firsts.{test_passes, not_refused}
use Rattle.passes.proofs.Passes.{finite_model}
use Rattle.batch_gradients.proofs.Turns.{first_some, last_some}
use Rattle.split_training.proofs.Adding.{sound_batch}
use Rattle.split_training.proofs.accumulating.accumulate_sound.Goals as goal

pub add_tested-requires : goal.add_tested-requires
add_tested-requires c =
    let a = c.args in
    let k = c.requires.walkable in
    let wide = test_passes _ 9 (not_refused _ 0 (sym c.in_ok-refuse_unless.ensures)) in
    let finite = test_passes _ 10 (not_refused _ 0 (sym c.in_ok-refuse_unless-2.ensures)) in
    let clear = not_refused _ 0 (sym c.in_ok-check_batch_and_total.ensures) in
    let both = sound_batch _ _ a.inputs.now a.targets.now a.total (first_some k) (last_some k) clear in (
      record {
        fits = c.requires;
        gradients = eqb-true _ _ wide;
        finite = finite_model _ (sym c.all_finite.ensures ∙ finite);
        batch = both.0;
      },
      both.1,
    )
