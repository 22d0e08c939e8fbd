use Rattle.std.proofs.Common.{subst}
use Rattle.pgs_run_lines.specs.AreasKept.{keeps_on}
use Rattle.pgs_run_lines.specs.Ending.{Ends}
use Rattle.pgs_run_lines.specs.Pieces.{shown_of, ShowsAll}
use Rattle.pgs_run_lines.proofs.Showing.{ends_on}
use Rattle.pgs_run_contain.specs.Comparing.{after_end, pieces_at_end, told_after}
use Rattle.pgs_run_contain.proofs.comparing.ComparingLineTaker.end_input.Goals as goal

pub returns-clause-ends : goal.returns-clause-ends
returns-clause-ends g c =
    let phase = c.args.self.now.phase in
    let rest = c.args.rest.now in
    let start = shown_of (g.W.World.view c.args.world.now) in
    let mid = shown_of (g.W.World.view c.put_any.new.world) in
    let now = shown_of (g.W.World.view c.end.new.world) in
    ends_on c.end.result start mid now (pieces_at_end phase rest) (told_after (after_end phase rest))
    (subst (λ pieces. ShowsAll start pieces mid) c.in-Ok.ensures.tells c.in-Ok-put_any.ensures.shows)
    (subst (λ after. Ends mid (told_after after) c.end.result now) c.in-Ok.ensures.leads c.end.ensures.ends)

pub returns-clause-allows : goal.returns-clause-allows
returns-clause-allows g c = keeps_on _ (g.W.World.view c.put_any.new.world) _ c.put_any.ensures.areas c.end.ensures.areas
