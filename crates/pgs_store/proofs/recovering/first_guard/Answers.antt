use Rattle.std.proofs.Common.{◌∙◌}
use Rattle.std.proofs.lemmas.Result.{err_from_is_err_and}
use Rattle.pgs_store.proofs.Replaying.{unread_saves}
use Rattle.pgs_store.proofs.recovering.first_guard.Goals as goal

pub returns-in_err-with_seed-clause-refused : goal.returns-in_err-with_seed-clause-refused
returns-in_err-with_seed-clause-refused c =
    let p = err_from_is_err_and c.from_residual-in_err-with_seed.result c.from_residual-in_err-with_seed.ensures.1 in
    rw (p.1, p.2)
    (unread_saves c.args.limits c.args.payloads.now c.as_slice.result.now (c.as_slice.ensures ∙ c.in_ok-text.ensures) c.in_err-with_seed.field-0.0 c.in_err-with_seed.ensures.refused)
