use Rattle.std.proofs.Common.{refl}
use Rattle.pgs_run_contain.proofs.SchemaEnds.{made_line, refusing_may, refusing_stop}
use Rattle.pgs_run_contain.proofs.comparing.refuse.Goals as goal

pub returns-in-Ok-clause-ends : goal.returns-in-Ok-clause-ends
returns-in-Ok-clause-ends g c = λ line made. ((c.in-Ok.ensures.puts line made).shows, refl)

pub returns-in-Ok-clause-cause : goal.returns-in-Ok-clause-cause
returns-in-Ok-clause-cause g c = let own = made_line c.args.made in (c.in-Ok.ensures.puts own.0 own.1).faults

pub returns-in-Ok-clause-areas : goal.returns-in-Ok-clause-areas
returns-in-Ok-clause-areas g c = let own = made_line c.args.made in (c.in-Ok.ensures.puts own.0 own.1).areas

pub returns-in-Err-clause-ends : goal.returns-in-Err-clause-ends
returns-in-Err-clause-ends g c = λ line made.
    refusing_stop line c.args.text c.in-Err.stop (g.W.World.view c.args.world.now) (g.W.World.view c.put_made.new.world) (c.in-Err.ensures.puts line made)

pub returns-in-Err-clause-cause : goal.returns-in-Err-clause-cause
returns-in-Err-clause-cause g c = let own = made_line c.args.made in (c.in-Err.ensures.puts own.0 own.1).cause

pub returns-in-Err-clause-may : goal.returns-in-Err-clause-may
returns-in-Err-clause-may g c =
    let own = made_line c.args.made in refusing_may own.0 c.in-Err.stop (g.W.World.view c.args.world.now) (g.W.World.view c.put_made.new.world) (c.in-Err.ensures.puts own.0 own.1)

pub returns-in-Err-clause-areas : goal.returns-in-Err-clause-areas
returns-in-Err-clause-areas g c = let own = made_line c.args.made in (c.in-Err.ensures.puts own.0 own.1).areas
