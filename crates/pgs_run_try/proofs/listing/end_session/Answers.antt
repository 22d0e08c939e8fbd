use Rattle.std.proofs.Common.{◌∙◌, map, subst}
use Rattle.pgs_run_lines.specs.Ending.{Shows}
use Rattle.pgs_run_lines.specs.Pieces.{shown_of}
use Rattle.pgs_run_try.specs.Told.{listed_line, told_end}
use Rattle.pgs_run_try.proofs.Listed.{stop_ends}
use Rattle.pgs_run_try.proofs.listing.end_session.Goals as goal

pub returns-clause-ends : goal.returns-clause-ends
unfolding told_end
returns-clause-ends g c =
    let stop = c.in-Err-put_all_listed.stop in
    let puts = c.in-Err-put_all_listed.ensures.puts in
    stop_ends stop _ _ _ puts.only
    (subst (λ found. Shows (shown_of (g.W.World.view c.args.world.now)) (map listed_line found) stop (shown_of (g.W.World.view c.put_all_listed.new.world))) (c.as_slice.ensures ∙ c.in-Ok.ensures) puts.shows)
