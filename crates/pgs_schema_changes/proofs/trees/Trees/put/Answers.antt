use Rattle.std.proofs.Common.{sym, ◌∙◌}
use Rattle.pgs_schema_changes.proofs.Numbering.{if_last, put_found}
use Rattle.pgs_schema_changes.proofs.trees.Trees.put.Goals as goal

pub returns-in-Some : goal.returns-in-Some
returns-in-Some c = λ left right numbered first second.
    put_found c.args.self.now.entries.items c.args.form c.args.first c.args.second left right numbered first second c.in-Some.place (sym c.find.ensures ∙ c.in-Some.is)

pub returns-in-None : goal.returns-in-None
returns-in-None c = λ left right numbered first second.
    if_last c.args.self.now.entries.items c.args.form c.args.first c.args.second left right numbered first second (sym c.find.ensures ∙ c.in-None.is) c.push.new.self.entries.items c.push.result c.push.ensures
