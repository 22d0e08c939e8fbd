use Rattle.std.proofs.Common.{sym, ◌∙◌}
use Rattle.pgs_scratch.proofs.Listed.{same_is_listed, none_is_not_listed}
use Rattle.pgs_scratch.proofs.confirming.confirms.Goals as goal

pub returns-in-Some-clause-listed : goal.returns-in-Some-clause-listed
returns-in-Some-clause-listed g c =
    same_is_listed c.args.compiled.now (g.G.GraphRead.meaning c.args.graph.now) c.count-count.ensures.graph c.args.violation.now c.in-Some.found c.eq.result
    (sym c.in-Some.is ∙ c.in_ok-found.ensures.found) c.eq.ensures.same

pub returns-in-None-clause-listed : goal.returns-in-None-clause-listed
returns-in-None-clause-listed g c =
    none_is_not_listed c.args.compiled.now (g.G.GraphRead.meaning c.args.graph.now) c.count-count.ensures.graph c.args.violation.now
    (sym c.in-None.is ∙ c.in_ok-found.ensures.found)
