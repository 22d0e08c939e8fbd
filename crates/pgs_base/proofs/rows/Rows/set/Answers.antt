use Rattle.std.proofs.Common.{◌<◌, ◌≤◌, length, sym, ap, subst, ◌∙◌}
use Rattle.std.specs.List.Sorted.{IsStrictlySortedBy}
use Rattle.std.specs.Map.{keys_of}
use Rattle.pgs_base.proofs.Edits.{entry_found, entry_set, entry_set_ascends, entry_inserted, entry_inserted_ascends, failed_on_ok, failed_if_ok, failed_on_err}
use Rattle.pgs_base.proofs.rows.Rows.set.Goals as goal

pub index_mut-requires : goal.index_mut-requires
index_mut-requires g c = subst (λ n. c.in-Ok.place < n) (sym (c.self.inside.rows.ok.0 ∙ ap length c.self.view_is)) c.in-Ok.ensures.in_range

pub insert-requires : goal.insert-requires
insert-requires g c = subst (λ n. c.in-Err.place ≤ n) (sym (c.self.inside.rows.ok.0 ∙ ap length c.self.view_is)) c.in-Err.ensures.in_range

pub invariant_of-self : goal.invariant_of-self
invariant_of-self g c =
    entry_set_ascends g.K.Ord.cmp c.args.key c.args.self.now c.in-Ok.place c.self.inside.rows.items c.self.view_is c.in-Ok.ensures c.index_mut.result.now c.index_mut.ensures.value c.args.value c.replace-old.new.dest c.replace-old.ensures.after

pub returns-in-Ok-clause-ok : goal.returns-in-Ok-clause-ok
returns-in-Ok-clause-ok g c =
    entry_set g.K.Ord.cmp c.args.key c.args.self.now c.in-Ok.place c.self.inside.rows.items c.self.view_is c.in-Ok.ensures c.index_mut.result.now c.index_mut.ensures.value c.args.value c.replace-old.new.dest c.replace-old.ensures.after

pub returns-in-Ok-clause-answer : goal.returns-in-Ok-clause-answer
returns-in-Ok-clause-answer g c =
    entry_found g.K.Ord.cmp c.args.key c.args.self.now c.in-Ok.place c.self.inside.rows.items c.self.view_is c.in-Ok.ensures c.index_mut.result.now c.index_mut.ensures.value c.replace-old.result c.replace-old.ensures.value

pub invariant_of-self-in_err-insert-in-Err : goal.invariant_of-self-in_err-insert-in-Err
invariant_of-self-in_err-insert-in-Err g c =
    subst (λ l. IsStrictlySortedBy g.K.Ord.cmp (keys_of l)) (sym c.in_err-insert-in-Err.ensures.items) c.self.invariant

pub returns-in_err-insert-in-Err-clause-ok : goal.returns-in_err-insert-in-Err-clause-ok
returns-in_err-insert-in-Err-clause-ok g c = failed_on_ok c.from_residual.result c.from_residual.ensures.0 _

pub returns-in_err-insert-in-Err-clause-answer : goal.returns-in_err-insert-in-Err-clause-answer
returns-in_err-insert-in-Err-clause-answer g c = failed_if_ok c.from_residual.result c.from_residual.ensures.0 _

pub returns-in_err-insert-in-Err-clause-err : goal.returns-in_err-insert-in-Err-clause-err
returns-in_err-insert-in-Err-clause-err g c =
    failed_on_err c.from_residual.result c.from_residual.ensures.0 _ (c.in_err-insert-in-Err.ensures.items ∙ c.self.view_is)

pub returns-in_err-insert-in-Err-clause-only_new :
    goal.returns-in_err-insert-in-Err-clause-only_new
returns-in_err-insert-in-Err-clause-only_new g c =
    failed_on_err c.from_residual.result c.from_residual.ensures.0 _ c.in-Err.ensures.absent

pub invariant_of-self-in-Err : goal.invariant_of-self-in-Err
invariant_of-self-in-Err g c =
    entry_inserted_ascends g.K.Ord.cmp c.args.key c.args.self.now c.in-Err.place c.self.inside.rows.items c.self.view_is c.in-Err.ensures c.args.value c.insert.new.self.items c.in_ok-insert-in-Err.ensures.items

pub returns-in_ok-insert-in-Err-clause-ok : goal.returns-in_ok-insert-in-Err-clause-ok
returns-in_ok-insert-in-Err-clause-ok g c =
    entry_inserted g.K.Ord.cmp c.args.key c.args.self.now c.in-Err.place c.self.inside.rows.items c.self.view_is c.in-Err.ensures c.args.value c.insert.new.self.items c.in_ok-insert-in-Err.ensures.items

pub returns-in_ok-insert-in-Err-clause-answer : goal.returns-in_ok-insert-in-Err-clause-answer
returns-in_ok-insert-in-Err-clause-answer g c = sym c.in-Err.ensures.absent
