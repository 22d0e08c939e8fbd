use Rattle.std.proofs.Common.{sym}
use Rattle.std.proofs.lemmas.Bool.{ltb-true, ltb-false}
use Rattle.pgs_overlay.proofs.Searching.{lower_at, from_at, past_end}
use Rattle.pgs_overlay.proofs.search.is_below.Goals as goal

pub returns-in-Some-clause-lower : goal.returns-in-Some-clause-lower
returns-in-Some-clause-lower g c less =
    lower_at _ c.at.ensures.ascending c.args.edge c.args.place c.in-Some.found
    (sym c.in-Some.ensures.value) (ltb-true c.in-Some.found.0 c.args.edge.0 less)

pub returns-in-Some-clause-others : goal.returns-in-Some-clause-others
returns-in-Some-clause-others g c le =
    from_at _ c.at.ensures.ascending c.args.edge c.args.place c.in-Some.found
    (sym c.in-Some.ensures.value) (ltb-false c.in-Some.found.0 c.args.edge.0 le)

pub returns-in-None-clause-others : goal.returns-in-None-clause-others
returns-in-None-clause-others g c none =
    past_end _ c.at.ensures.ascending c.args.edge c.args.place (sym c.in-None.ensures.value)
