use Rattle.std.proofs.Common.{◌≤◌, length, not, sym, ap, subst, ◌∙◌}
use Rattle.std.specs.List.Sorted.{IsStrictlySortedBy}
use Rattle.pgs_base.proofs.Edits.{key_inserted, key_inserted_ascends, failed_on_ok, failed_if_ok, failed_on_err}
use Rattle.pgs_base.proofs.ordered.Ordered.insert.Goals as goal

pub insert-requires : goal.insert-requires
insert-requires g c = subst (λ n. c.in-Err.place ≤ n) (sym (c.self.inside.keys.ok.0 ∙ ap length c.self.view_is)) c.in-Err.ensures.in_range

pub returns-in-Ok-clause-ok : goal.returns-in-Ok-clause-ok
returns-in-Ok-clause-ok g c = sym c.in-Ok.ensures.inserts

pub returns-in-Ok-clause-answer : goal.returns-in-Ok-clause-answer
returns-in-Ok-clause-answer g c = ap not (sym c.in-Ok.ensures.there)

pub invariant_of-self : goal.invariant_of-self
invariant_of-self g c = subst (IsStrictlySortedBy g.K.Ord.cmp) (sym c.in_err-insert-in-Err.ensures.items) c.self.invariant

pub returns-in_err-insert-in-Err-clause-ok : goal.returns-in_err-insert-in-Err-clause-ok
returns-in_err-insert-in-Err-clause-ok g c = failed_on_ok c.from_residual.result c.from_residual.ensures.0 _

pub returns-in_err-insert-in-Err-clause-answer : goal.returns-in_err-insert-in-Err-clause-answer
returns-in_err-insert-in-Err-clause-answer g c = failed_if_ok c.from_residual.result c.from_residual.ensures.0 _

pub returns-in_err-insert-in-Err-clause-err : goal.returns-in_err-insert-in-Err-clause-err
returns-in_err-insert-in-Err-clause-err g c =
    failed_on_err c.from_residual.result c.from_residual.ensures.0 _ (c.in_err-insert-in-Err.ensures.items ∙ c.self.view_is)

pub returns-in_err-insert-in-Err-clause-only_new : goal.returns-in_err-insert-in-Err-clause-only_new
returns-in_err-insert-in-Err-clause-only_new g c =
    failed_on_err c.from_residual.result c.from_residual.ensures.0 _ c.in-Err.ensures.absent

pub invariant_of-self-in-Err : goal.invariant_of-self-in-Err
invariant_of-self-in-Err g c =
    key_inserted_ascends g.K.Ord.cmp c.args.key c.args.self.now c.in-Err.place c.self.inside.keys.items c.self.view_is c.in-Err.ensures c.insert.new.self.items c.in_ok-insert-in-Err.ensures.items

pub returns-in_ok-insert-in-Err-clause-ok : goal.returns-in_ok-insert-in-Err-clause-ok
returns-in_ok-insert-in-Err-clause-ok g c =
    key_inserted g.K.Ord.cmp c.args.key c.args.self.now c.in-Err.place c.self.inside.keys.items c.self.view_is c.in-Err.ensures c.insert.new.self.items c.in_ok-insert-in-Err.ensures.items

pub returns-in_ok-insert-in-Err-clause-answer : goal.returns-in_ok-insert-in-Err-clause-answer
returns-in_ok-insert-in-Err-clause-answer g c = ap not (sym c.in-Err.ensures.absent)
