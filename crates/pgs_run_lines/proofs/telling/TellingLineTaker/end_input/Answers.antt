use Rattle.std.proofs.Common.{subst}
use Rattle.pgs_run_lines.specs.Ending.{Ends}
use Rattle.pgs_run_lines.specs.Pieces.{shown_of, ShowsAll}
use Rattle.pgs_run_lines.proofs.Showing.{ends_on}
use Rattle.pgs_run_lines.proofs.telling.TellingLineTaker.end_input.Goals as goal

pub returns-clause-ends : goal.returns-clause-ends
returns-clause-ends g c =
    let t = g.T.LineTeller.teller in
    let s = g.T.LineTeller.stands c.args.self.now.teller in
    let rest = c.args.rest.now in
    let start = shown_of (g.W.World.view c.args.world.now) in
    let mid = shown_of (g.W.World.view c.put_any.new.world) in
    let now = shown_of (g.W.World.view c.end.new.world) in
    ends_on c.end.result start mid now (t.pieces s rest) (t.told (t.after s rest))
    (subst (λ pieces. ShowsAll start pieces mid) c.in-Ok.ensures.tells c.in-Ok-put_any.ensures.shows)
    (subst (λ after. Ends mid (t.told after) c.end.result now) c.in-Ok.ensures.leads c.end.ensures.ends)
