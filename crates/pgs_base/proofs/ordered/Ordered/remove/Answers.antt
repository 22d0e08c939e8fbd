use Rattle.std.proofs.Common.{◌<◌, length, sym, ap, subst, ◌∙◌}
use Rattle.pgs_base.proofs.Edits.{key_removed, key_removed_ascends}
use Rattle.pgs_base.proofs.ordered.Ordered.remove.Goals as goal

pub remove-requires : goal.remove-requires
remove-requires g c = subst (λ n. c.in-Ok.place < n) (sym (c.self.inside.keys.ok.0 ∙ ap length c.self.view_is)) c.in-Ok.ensures.in_range

pub invariant_of-self : goal.invariant_of-self
invariant_of-self g c =
    key_removed_ascends g.K.Ord.cmp c.args.key.now c.args.self.now c.in-Ok.place c.self.inside.keys.items c.self.view_is c.in-Ok.ensures c.remove.new.self.items c.remove.ensures.items

pub returns-in-Ok-clause-keys : goal.returns-in-Ok-clause-keys
returns-in-Ok-clause-keys g c =
    key_removed g.K.Ord.cmp c.args.key.now c.args.self.now c.in-Ok.place c.self.inside.keys.items c.self.view_is c.in-Ok.ensures c.remove.new.self.items c.remove.ensures.items

pub returns-in-Ok-clause-answer : goal.returns-in-Ok-clause-answer
returns-in-Ok-clause-answer g c = sym c.in-Ok.ensures.there

pub returns-in-Err-clause-keys : goal.returns-in-Err-clause-keys
returns-in-Err-clause-keys g c = sym c.in-Err.ensures.removes

pub returns-in-Err-clause-answer : goal.returns-in-Err-clause-answer
returns-in-Err-clause-answer g c = sym c.in-Err.ensures.absent
