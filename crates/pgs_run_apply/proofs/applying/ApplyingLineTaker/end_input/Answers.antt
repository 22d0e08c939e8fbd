use Rattle.std.proofs.lemmas.Bool.{false≢true}
use Rattle.pgs_feed.specs.Deliveries.{kind_of}
use Rattle.pgs_run_lines.specs.Machine.{scene_of}
use Rattle.pgs_run_apply.specs.Seen.{state_of}
use Rattle.pgs_run_apply.proofs.Lines.{end_allows, end_ends, may_fault, stop_allows, stop_ends}
use Rattle.pgs_run_apply.proofs.applying.ApplyingLineTaker.end_input.Goals as goal

pub returns-in-Ok : goal.returns-in-Ok
returns-in-Ok g c =
    let s = state_of c.args.self.now in
    let now = state_of c.take_line.new.self in
    let rest = c.args.rest.now in
    let old = scene_of (g.W.World.view c.args.world.now) c.args.self.now.feeds in
    let new = scene_of (g.W.World.view c.take_line.new.world) c.take_line.new.self.feeds in
    let takes = c.in-Ok.ensures.answer in
    record {
      ends = end_ends {T = Unit {0}} (kind_of g.L.Feeds.places g.L.Feeds.delivered) s now rest tt c.status.result old new takes c.status.ensures;
      allows = end_allows {T = Unit {0}} (kind_of g.L.Feeds.places g.L.Feeds.delivered) s now rest tt c.status.result old new takes;
      cause = takes.cause;
      last = λ fails. absurd (false≢true fails);
      may = tt;
    }

pub returns-in-Err : goal.returns-in-Err
returns-in-Err g c =
    let s = state_of c.args.self.now in
    let now = state_of c.take_line.new.self in
    let rest = c.args.rest.now in
    let stop = c.in-Err.stop in
    let old = scene_of (g.W.World.view c.args.world.now) c.args.self.now.feeds in
    let new = scene_of (g.W.World.view c.take_line.new.world) c.take_line.new.self.feeds in
    let takes = c.in-Err.ensures.answer in
    record {
      ends = stop_ends (kind_of g.L.Feeds.places g.L.Feeds.delivered) s now rest stop old new takes;
      allows = stop_allows (kind_of g.L.Feeds.places g.L.Feeds.delivered) s now rest stop old new takes;
      cause = takes.cause;
      last = c.in-Err.ensures.last;
      may = may_fault stop takes.may;
    }
