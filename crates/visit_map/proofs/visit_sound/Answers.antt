-- 10, 11, and the rows past them.
use Rattle.std.proofs.Common.{◌∙◌, sym}
use Rattle.std.proofs.lemmas.Result.{err_from_is_err_and}
use Rattle.visit_map.proofs.Calls.{wrong_map, wild_model, map_fits, passes11}
use Rattle.visit_map.proofs.visit_sound.Goals as goal

pub returns-in_err-refuse_unless : goal.returns-in_err-refuse_unless
returns-in_err-refuse_unless c =
    let p = err_from_is_err_and c.from_residual.result c.from_residual.ensures.1 in
    rw (p.1, p.2) (wrong_map _ _ _ _ _ _ _ _ _ c.requires (sym c.in_err-refuse_unless.was ∙ c.refuse_unless.ensures))

pub returns-in_err-refuse_unless-2 : goal.returns-in_err-refuse_unless-2
returns-in_err-refuse_unless-2 c =
    let r = c.from_residual-in_err-refuse_unless-2 in
    let p = err_from_is_err_and r.result r.ensures.1 in
    let bytes = map_fits _ _ _ _ _ _ c.requires c.refuse_unless.ensures c.in_ok-refuse_unless.was in
    rw (p.1, p.2) (wild_model _ _ _ _ _ _ _ _ _ _ c.requires bytes c.all_finite.ensures
    (sym c.in_err-refuse_unless-2.was ∙ c.refuse_unless-2.ensures))

pub mark_rows-requires : goal.mark_rows-requires
mark_rows-requires c =
    let bytes = map_fits _ _ _ _ _ _ c.requires c.refuse_unless.ensures c.in_ok-refuse_unless.was in
    passes11 _ _ _ _ _ _ c.requires bytes c.all_finite.ensures c.refuse_unless-2.ensures c.in_ok-refuse_unless-2.was
