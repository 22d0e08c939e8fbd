use Rattle.pgs_run_lines.specs.Pieces.{shown_of}
use Rattle.pgs_run_lines.proofs.AreasPut.{keeps_put}
use Rattle.pgs_run_lines.proofs.Showing.{shows_one, torn_one}
use Rattle.pgs_run_lines.proofs.putting.put_piece.Goals as goal

pub returns-in-Ok-clause-shows : goal.returns-in-Ok-clause-shows
returns-in-Ok-clause-shows g c = shows_one (shown_of (g.W.World.view c.args.world.now)) _ c.args.piece.now c.in-Ok.ensures.whole c.in-Ok.ensures.counted

pub returns-in-Ok-clause-areas : goal.returns-in-Ok-clause-areas
returns-in-Ok-clause-areas g c = keeps_put (g.W.World.view c.args.world.now) (g.W.World.view c.put.new.self) c.args.piece.now c.put.ensures.a c.put.ensures.b c.put.ensures.stops c.put.ensures.passes c.put.ensures.no_area

pub returns-in-Err-clause-shows : goal.returns-in-Err-clause-shows
returns-in-Err-clause-shows g c = torn_one (shown_of (g.W.World.view c.args.world.now)) _ c.args.piece.now c.in-Err.ensures.front c.in-Err.ensures.not_counted

pub returns-in-Err-clause-areas : goal.returns-in-Err-clause-areas
returns-in-Err-clause-areas g c = keeps_put (g.W.World.view c.args.world.now) (g.W.World.view c.put.new.self) c.args.piece.now c.put.ensures.a c.put.ensures.b c.put.ensures.stops c.put.ensures.passes c.put.ensures.no_area
