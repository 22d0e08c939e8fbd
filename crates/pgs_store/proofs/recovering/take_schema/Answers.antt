use Rattle.std.proofs.Common.{ℕ, List, ap, subst}
use Rattle.std.proofs.lemmas.Result.{err_from_is_err_and}
use Rattle.pgs_store.specs.Evolves.{IsUnfit}
use Rattle.pgs_store.specs.State.{GuardState}
use Rattle.pgs_store.proofs.Replaying.{schema_taken, unfit_untaken, unread_untaken}
use Rattle.pgs_store.proofs.recovering.take_schema.Goals as goal

pub returns-in_err-schema-clause-taken : goal.returns-in_err-schema-clause-taken
returns-in_err-schema-clause-taken g c = let p = err_from_is_err_and c.from_residual.result c.from_residual.ensures.1 in rw p.1 tt

pub returns-in_err-schema-clause-untaken : goal.returns-in_err-schema-clause-untaken
returns-in_err-schema-clause-untaken g c =
    let p = err_from_is_err_and c.from_residual.result c.from_residual.ensures.1 in
    rw (p.1, p.2) (λ number. unread_untaken c.args.guard.now c.args.text.now c.in_err-schema.field-0.0 number c.in_err-schema.ensures.refused)

pub returns-in_err-schema-clause-limits : goal.returns-in_err-schema-clause-limits
returns-in_err-schema-clause-limits g c = let p = err_from_is_err_and c.from_residual.result c.from_residual.ensures.1 in rw p.1 tt

pub returns-in_err-schema-clause-seed : goal.returns-in_err-schema-clause-seed
returns-in_err-schema-clause-seed g c = let p = err_from_is_err_and c.from_residual.result c.from_residual.ensures.1 in rw p.1 tt

pub returns-in_err-renewal-clause-taken : goal.returns-in_err-renewal-clause-taken
returns-in_err-renewal-clause-taken g c =
    let p = err_from_is_err_and c.from_residual-in_err-renewal.result c.from_residual-in_err-renewal.ensures.1 in rw p.1 tt

pub returns-in_err-renewal-clause-untaken : goal.returns-in_err-renewal-clause-untaken
returns-in_err-renewal-clause-untaken g c =
    let p = err_from_is_err_and c.from_residual-in_err-renewal.result c.from_residual-in_err-renewal.ensures.1 in
    let refusal = c.in_err-renewal.field-0.0 in
    rw (p.1, p.2)
    (λ number. unfit_untaken c.args.guard.now c.args.text.now refusal number c.facts.ensures.guarded.within
    (subst (λ (t : List ℕ). IsUnfit c.args.guard.now t refusal) c.in_ok-schema.ensures.text c.in_err-renewal.ensures.unfit))

pub returns-in_err-renewal-clause-limits : goal.returns-in_err-renewal-clause-limits
returns-in_err-renewal-clause-limits g c =
    let p = err_from_is_err_and c.from_residual-in_err-renewal.result c.from_residual-in_err-renewal.ensures.1 in rw p.1 tt

pub returns-in_err-renewal-clause-seed : goal.returns-in_err-renewal-clause-seed
returns-in_err-renewal-clause-seed g c =
    let p = err_from_is_err_and c.from_residual-in_err-renewal.result c.from_residual-in_err-renewal.ensures.1 in rw p.1 tt

pub returns-clause-taken : goal.returns-clause-taken
returns-clause-taken g c =
    let made = c.in_ok-renewal.ensures in
    schema_taken c.args.guard.now c.args.text.now c.renew.new.self c.in_ok-renewal.renewal.schema c.in_ok-schema.schema c.in_ok-schema.ensures.text made.same c.renew.ensures made.schema made.indexed.guarded

pub returns-clause-limits : goal.returns-clause-limits
returns-clause-limits g c = ap (λ (s : GuardState). s.limits) c.renew.ensures

pub returns-clause-seed : goal.returns-clause-seed
returns-clause-seed g c = ap (λ (s : GuardState). s.seed) c.renew.ensures
