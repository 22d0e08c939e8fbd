use Rattle.std.proofs.Common.{◌∙◌, [], Bool, ap, refl, subst, sym}
use Rattle.pgs_feed.specs.Deliveries.{kind_of}
use Rattle.pgs_feed.specs.Places.{lost_count}
use Rattle.pgs_run_lines.specs.Calls.{MakesReads}
use Rattle.pgs_run_lines.specs.Machine.{scene_of}
use Rattle.pgs_command.specs.Calls.{fails_read, fails_world}
use Rattle.pgs_command.specs.Ending.{status_at}
use Rattle.pgs_command.specs.Setting.{SourceState}
use Rattle.pgs_command.proofs.Unread.{reads_nothing}
use Rattle.pgs_run_store.proofs.Unread.{last_unopened, unopened_unread}
use Rattle.pgs_run_apply.specs.Seen.{state_of}
use Rattle.pgs_run_apply.proofs.Ended.{stop_fails}
use Rattle.pgs_run_apply.proofs.Promised.{first_holds, first_room, gives, last_as, promised}
use Rattle.pgs_run_apply.proofs.Unopened.{gives_unopened, promised_unopened}
use Rattle.pgs_run_apply.proofs.run.run_apply.Goals as goal

-- ---- no store was opened

pub returns-in-Err-clause-promise : goal.returns-in-Err-clause-promise
returns-in-Err-clause-promise g c =
    let view = g.W.World.view in
    promised_unopened c.in-Err.unopened (view c.args.world.now) (view c.open_store.new.world) (view c.end_unopened.new.world) c.end_unopened.result (g.met.W.World.timed c.args.world.now) (λ early. ap view (c.end_unopened.ensures.early early))
    (record { opens = c.in-Err.ensures.answer; counts = c.in-Err.ensures.faults; quiet = c.open_store.ensures.quiet; no_put = c.open_store.ensures.no_put; ends = c.end_unopened.ensures.ends; areas = c.end_unopened.ensures.areas })
    c.args.budget (record { left = g.S.Source.left c.args.source.now; faults = g.S.Source.faults c.args.source.now }) (g.L.Feeds.places c.args.feeds.now)

pub returns-in-Err-clause-gives : goal.returns-in-Err-clause-gives
returns-in-Err-clause-gives g c =
    let view = g.W.World.view in
    record {
      deliveries = [];
      right = gives_unopened c.in-Err.unopened (view c.args.world.now) (view c.open_store.new.world) (view c.end_unopened.new.world) c.end_unopened.result (g.met.W.World.timed c.args.world.now) (λ early. ap view (c.end_unopened.ensures.early early))
          (record { opens = c.in-Err.ensures.answer; counts = c.in-Err.ensures.faults; quiet = c.open_store.ensures.quiet; no_put = c.open_store.ensures.no_put; ends = c.end_unopened.ensures.ends; areas = c.end_unopened.ensures.areas })
          c.args.budget (record { left = g.S.Source.left c.args.source.now; faults = g.S.Source.faults c.args.source.now }) (g.L.Feeds.places c.args.feeds.now);
      made = refl;
    }

pub returns-in-Err-clause-last : goal.returns-in-Err-clause-last
returns-in-Err-clause-last g c =
    last_unopened g.W.World.failed c.open_store.new.world c.end_unopened.new.world _ _ _ c.in-Err.unopened c.end_unopened.result c.in-Err.ensures.answer c.end_unopened.ensures.ends c.end_unopened.ensures.last c.in-Err.ensures.last c.end_unopened.ensures.early

pub returns-in-Err-clause-calls : goal.returns-in-Err-clause-calls
returns-in-Err-clause-calls g c =
    let view = g.W.World.view in
    reads_nothing g.S.Source.read_made c.args.budget c.args.source.now _
    (unopened_unread c.in-Err.unopened (view c.args.world.now) (view c.open_store.new.world) (view c.end_unopened.new.world) c.end_unopened.result
    (record { opens = c.in-Err.ensures.answer; counts = c.in-Err.ensures.faults; quiet = c.open_store.ensures.quiet; no_put = c.open_store.ensures.no_put; ends = c.end_unopened.ensures.ends; areas = c.end_unopened.ensures.areas }))

-- ---- a store was opened

pub returns-clause-promise : goal.returns-clause-promise
returns-clause-promise g c =
    let view = g.W.World.view in
    let run = c.run_lines-stop in
    let before : SourceState = record { left = g.S.Source.left c.args.source.now; faults = g.S.Source.faults c.args.source.now } in
    let left : SourceState = record { left = g.S.Source.left run.new.source; faults = g.S.Source.faults run.new.source } in
    promised (kind_of g.L.Feeds.places g.L.Feeds.delivered) c.in-Ok.store (state_of c.new-applying.result) c.args.budget before left run.result c.end_run.result (view c.args.world.now) (scene_of (view c.open_store.new.world) c.new-applying.result.feeds)
    (scene_of (view run.new.world) run.new.taker.feeds) (view c.end_run.new.world) c.args.feeds.now c.into_feeds.result c.new-applying.ensures.state
    (c.new-applying.ensures.feeds ∙ c.replace-given.ensures.value) (sym c.into_feeds.ensures)
    (record {
      timed = g.met.W.World.timed c.args.world.now;
      opened = c.in-Ok.ensures.answer;
      quiet = c.open_store.ensures.quiet;
      no_put = c.open_store.ensures.no_put;
      areas = c.in-Ok.ensures.faults;
      ends = run.ensures.ends;
      by = run.ensures.by;
      cause = run.ensures.cause;
      allows = run.ensures.allows;
      last = last_as c.count_lost.result (lost_count (g.L.Feeds.places run.new.taker.feeds)) c.status_at.result (status_at run.result) (view run.new.world) (view c.end_run.new.world) c.end_run.result (c.count_lost.ensures ∙ ap (λ list. lost_count (g.L.Feeds.places list)) c.into_feeds.ensures) c.status_at.ensures c.end_run.ensures.ends;
    })

pub returns-clause-gives : goal.returns-clause-gives
returns-clause-gives g c =
    let view = g.W.World.view in
    let run = c.run_lines-stop in
    let before : SourceState = record { left = g.S.Source.left c.args.source.now; faults = g.S.Source.faults c.args.source.now } in
    let left : SourceState = record { left = g.S.Source.left run.new.source; faults = g.S.Source.faults run.new.source } in
    gives (kind_of g.L.Feeds.places g.L.Feeds.delivered) c.in-Ok.store (state_of c.new-applying.result) c.args.budget before left run.result c.end_run.result (view c.args.world.now) (scene_of (view c.open_store.new.world) c.new-applying.result.feeds)
    (scene_of (view run.new.world) run.new.taker.feeds) (view c.end_run.new.world) c.args.feeds.now c.into_feeds.result c.new-applying.ensures.state
    (c.new-applying.ensures.feeds ∙ c.replace-given.ensures.value) (sym c.into_feeds.ensures)
    (record {
      timed = g.met.W.World.timed c.args.world.now;
      opened = c.in-Ok.ensures.answer;
      quiet = c.open_store.ensures.quiet;
      no_put = c.open_store.ensures.no_put;
      areas = c.in-Ok.ensures.faults;
      ends = run.ensures.ends;
      by = run.ensures.by;
      cause = run.ensures.cause;
      allows = run.ensures.allows;
      last = last_as c.count_lost.result (lost_count (g.L.Feeds.places run.new.taker.feeds)) c.status_at.result (status_at run.result) (view run.new.world) (view c.end_run.new.world) c.end_run.result (c.count_lost.ensures ∙ ap (λ list. lost_count (g.L.Feeds.places list)) c.into_feeds.ensures) c.status_at.ensures c.end_run.ensures.ends;
    })

pub run_lines-stop-requires-clause-room : goal.run_lines-stop-requires-clause-room
run_lines-stop-requires-clause-room g c = first_room (state_of c.new-applying.result) c.in-Ok.store c.args.budget c.new-applying.ensures.state c.requires

pub run_lines-stop-requires-clause-holds : goal.run_lines-stop-requires-clause-holds
run_lines-stop-requires-clause-holds g c =
    let view = g.W.World.view in
    first_holds (state_of c.new-applying.result) c.in-Ok.store (view c.args.world.now) (view c.open_store.new.world) c.new-applying.ensures.state c.in-Ok.ensures.answer

pub end_run-requires : goal.end_run-requires
end_run-requires g c = λ fails.
    c.run_lines-stop.ensures.last (sym (stop_fails c.args.budget _ _ c.run_lines-stop.result c.run_lines-stop.ensures.by).1 ∙ sym (ap fails_world c.status_at.ensures) ∙ fails)

pub returns-clause-calls : goal.returns-clause-calls
returns-clause-calls g c =
    subst (λ (fails : Bool). MakesReads g.S.Source.read_made c.args.budget c.args.source.now fails c.run_lines-stop.new.source)
    (sym (c.end_run.ensures.read ∙ ap fails_read c.status_at.ensures ∙ (stop_fails c.args.budget _ _ c.run_lines-stop.result c.run_lines-stop.ensures.by).0)) c.run_lines-stop.ensures.calls
