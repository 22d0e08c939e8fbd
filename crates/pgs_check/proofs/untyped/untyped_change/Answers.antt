use Rattle.std.proofs.Common.{sym, ◌∙◌}
use Rattle.pgs_check.proofs.Retyped.{kept_typed}
use Rattle.pgs_check.proofs.untyped.untyped_change.Goals as goal

pub returns-clause-value : goal.returns-clause-value
returns-clause-value g c =
    sym (kept_typed c.args.compiled.now (g.G.GraphRead.meaning c.args.old.now) c.requires c.args.change.now (sym c.looks_as_before.ensures.same ∙ c.if-not-looks_as_before.false))
