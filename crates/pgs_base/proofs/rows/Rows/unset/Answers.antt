use Rattle.std.proofs.Common.{◌<◌, length, refl, sym, ap, subst, ◌∙◌}
use Rattle.pgs_base.proofs.Edits.{entry_found, entry_removed, entry_removed_ascends}
use Rattle.pgs_base.proofs.rows.Rows.unset.Goals as goal

pub remove-value-requires : goal.remove-value-requires
remove-value-requires g c = subst (λ n. c.in-Ok.place < n) (sym (c.self.inside.rows.ok.0 ∙ ap length c.self.view_is)) c.in-Ok.ensures.in_range

pub invariant_of-self : goal.invariant_of-self
invariant_of-self g c =
    entry_removed_ascends g.K.Ord.cmp c.args.key.now c.args.self.now c.in-Ok.place c.self.inside.rows.items c.self.view_is c.in-Ok.ensures c.remove-value.new.self.items c.remove-value.ensures.items

pub returns-in-Ok-clause-rows : goal.returns-in-Ok-clause-rows
returns-in-Ok-clause-rows g c =
    entry_removed g.K.Ord.cmp c.args.key.now c.args.self.now c.in-Ok.place c.self.inside.rows.items c.self.view_is c.in-Ok.ensures c.remove-value.new.self.items c.remove-value.ensures.items

pub returns-in-Ok-clause-answer : goal.returns-in-Ok-clause-answer
returns-in-Ok-clause-answer g c =
    entry_found g.K.Ord.cmp c.args.key.now c.args.self.now c.in-Ok.place c.self.inside.rows.items c.self.view_is c.in-Ok.ensures c.remove-value.result c.remove-value.ensures.value c.remove-value.result.1 refl

pub returns-in-Err-clause-rows : goal.returns-in-Err-clause-rows
returns-in-Err-clause-rows g c = sym c.in-Err.ensures.removes

pub returns-in-Err-clause-answer : goal.returns-in-Err-clause-answer
returns-in-Err-clause-answer g c = sym c.in-Err.ensures.absent
