use Rattle.std.proofs.Common.{sym, ◌∙◌}
use Rattle.std.proofs.lemmas.Bool.{eqb-true, eqb-false}
use Rattle.pgs_txn.proofs.Ends.{none_put, first_put, first_elsewhere}
use Rattle.pgs_txn.proofs.changed_rows.ChangedRows.first_put_at.Goals as goal

pub returns-in-Some : goal.returns-in-Some
returns-in-Some c =
    first_put c.args.self.now c.requires c.args.id c.in-Some.end.now c.in-Some.ensures
    (eqb-true c.in-Some.end.now.node.0 c.args.id.0 (sym c.eq.ensures ∙ c.if-eq.true))

pub returns-in_default : goal.returns-in_default
returns-in_default c =
    first_elsewhere c.args.self.now c.requires c.args.id c.in-Some.end.now c.in-Some.ensures
    (eqb-false c.in-Some.end.now.node.0 c.args.id.0 (sym c.eq.ensures ∙ c.if-eq.false))

pub returns-in_default-2 : goal.returns-in_default-2
returns-in_default-2 c = none_put c.args.self.now c.requires c.args.id (rw c.in_default.is at c.first_from.ensures)
