use Rattle.std.proofs.Common.{length, ap, subst, ◌∙◌}
use Rattle.std.specs.List.Sorted.{IsStrictlySortedBy}
use Rattle.std.specs.Map.{keys_of}
use Rattle.pgs_base.proofs.rows.Rows.into_vec.Goals as goal

pub returns-clause-items : goal.returns-clause-items
returns-clause-items g c = c.self.view_is

pub returns-clause-len : goal.returns-clause-len
returns-clause-len g c = c.self.inside.rows.ok.0 ∙ ap length c.self.view_is

pub returns-clause-ascending : goal.returns-clause-ascending
returns-clause-ascending g c = subst (λ l. IsStrictlySortedBy g.K.Ord.cmp (keys_of l)) c.self.view_is c.self.invariant
