use Rattle.pgs_feed.specs.Deliveries.{kind_of}
use Rattle.pgs_run_lines.specs.Machine.{scene_of}
use Rattle.pgs_run_apply.specs.Seen.{state_of}
use Rattle.pgs_run_apply.proofs.Lines.{line_leads, line_room, line_holds, line_allows, line_may}
use Rattle.pgs_run_apply.proofs.applying.ApplyingLineTaker.end_line.Goals as goal

pub returns : goal.returns
returns g c =
    let s = state_of c.args.self.now in
    let now = state_of c.take_line.new.self in
    let line = c.args.line.now in
    let result = c.take_line.result in
    let old = scene_of (g.W.World.view c.args.world.now) c.args.self.now.feeds in
    let new = scene_of (g.W.World.view c.take_line.new.world) c.take_line.new.self.feeds in
    let takes = c.take_line.ensures.answer in
    record {
      leads = line_leads (kind_of g.L.Feeds.places g.L.Feeds.delivered) s now line result old new takes;
      shows = takes.shows;
      room = line_room (kind_of g.L.Feeds.places g.L.Feeds.delivered) s now line result old new takes;
      holds = line_holds (kind_of g.L.Feeds.places g.L.Feeds.delivered) s now line result old new takes;
      allows = line_allows (kind_of g.L.Feeds.places g.L.Feeds.delivered) s now line result old new takes;
      cause = takes.cause;
      last = c.take_line.ensures.last;
      may = line_may (kind_of g.L.Feeds.places g.L.Feeds.delivered) s now line result old new takes;
    }
