use Rattle.std.proofs.Common.{Bool, ap, sym, subst, ◌∙◌}
use Rattle.pgs_run_lines.specs.Calls.{MakesReads}
use Rattle.pgs_command.specs.declared.status.Status.{Status}
use Rattle.pgs_command.specs.Promise.{Promise}
use Rattle.pgs_command.specs.Setting.{SourceState, setting_of}
use Rattle.pgs_command.proofs.OwnEnds.{fails_alone}
use Rattle.pgs_command.proofs.Unread.{reads_nothing}
use Rattle.pgs_run_store.specs.Opening.{saved_in}
use Rattle.pgs_run_store.proofs.Unread.{last_unopened, unopened_unread}
use Rattle.pgs_run_check_try.specs.Explaining.{deciding}
use Rattle.pgs_run_check_try.specs.Spec.{check_apply_spec}
use Rattle.pgs_run_check_try.proofs.Promised.{alone, phase_on, phase_over, promised_apply, promised_unopened, room_from, room_store, runs_from}
use Rattle.pgs_run_check_try.proofs.run.run_check_apply.Goals as goal

-- ---- no store was opened

pub returns-in-Err-clause-promise : goal.returns-in-Err-clause-promise
returns-in-Err-clause-promise g c = λ places.
    let view = g.W.World.view in
    promised_unopened c.in-Err.unopened (view c.args.world.now) (view c.open_store.new.world) (view c.end_unopened.new.world) c.end_unopened.result
    (record { opens = c.in-Err.ensures.answer; counts = c.in-Err.ensures.faults; quiet = c.open_store.ensures.quiet; no_put = c.open_store.ensures.no_put; ends = c.end_unopened.ensures.ends; areas = c.end_unopened.ensures.areas })
    c.args.budget (record { left = g.S.Source.left c.args.source.now; faults = g.S.Source.faults c.args.source.now }) places

pub returns-in-Err-clause-last : goal.returns-in-Err-clause-last
returns-in-Err-clause-last g c =
    last_unopened g.W.World.failed c.open_store.new.world c.end_unopened.new.world _ _ _ c.in-Err.unopened c.end_unopened.result c.in-Err.ensures.answer c.end_unopened.ensures.ends c.end_unopened.ensures.last c.in-Err.ensures.last c.end_unopened.ensures.early

pub returns-in-Err-clause-calls : goal.returns-in-Err-clause-calls
returns-in-Err-clause-calls g c =
    let view = g.W.World.view in
    reads_nothing g.S.Source.read_made c.args.budget c.args.source.now _
    (unopened_unread c.in-Err.unopened (view c.args.world.now) (view c.open_store.new.world) (view c.end_unopened.new.world) c.end_unopened.result
    (record { opens = c.in-Err.ensures.answer; counts = c.in-Err.ensures.faults; quiet = c.open_store.ensures.quiet; no_put = c.open_store.ensures.no_put; ends = c.end_unopened.ensures.ends; areas = c.end_unopened.ensures.areas }))

-- ---- a store was opened

pub over-session-requires : goal.over-session-requires
over-session-requires g c = ap (λ guard. guard.limits) c.into_guard.ensures ∙ c.in-Ok.ensures.answer.limits

pub run_lines-stop-requires-clause-room : goal.run_lines-stop-requires-clause-room
run_lines-stop-requires-clause-room g c =
    let it = saved_in c.in-Ok.store in
    room_from (phase_on it) c.behind-explaining.result.phase c.args.budget (phase_over c.in-Ok.store c.into_guard.result c.over-session.result c.behind-explaining.result.phase c.into_guard.ensures c.over-session.ensures c.behind-explaining.ensures)
    (room_store it c.args.budget c.requires)

pub returns-clause-promise : goal.returns-clause-promise
returns-clause-promise g c = λ places.
    let view = g.W.World.view in
    let run = c.run_lines-stop in
    let before : SourceState = record { left = g.S.Source.left c.args.source.now; faults = g.S.Source.faults c.args.source.now } in
    let left : SourceState = record { left = g.S.Source.left run.new.source; faults = g.S.Source.faults run.new.source } in
    subst (λ (status : Status). Promise check_apply_spec c.args.budget (setting_of before.left before.faults (view c.args.world.now) places) (setting_of left.left left.faults (view run.new.world) places) status) (sym c.status_at.ensures)
    (promised_apply c.in-Ok.store c.args.budget before left run.result (view c.args.world.now) (view c.open_store.new.world) (view run.new.world) places
    (record {
      is = c.in-Ok.ensures.answer;
      areas = c.in-Ok.ensures.faults;
      quiet = c.open_store.ensures.quiet;
      no_put = c.open_store.ensures.no_put;
      over = runs_from (phase_on (saved_in c.in-Ok.store)) c.behind-explaining.result.phase c.args.budget before left run.result (view c.open_store.new.world) (view run.new.world)
          (phase_over c.in-Ok.store c.into_guard.result c.over-session.result c.behind-explaining.result.phase c.into_guard.ensures c.over-session.ensures c.behind-explaining.ensures)
          (record { by = run.ensures.by; may = run.ensures.may; cause = run.ensures.cause; allows = run.ensures.allows });
    }))

pub returns-clause-last : goal.returns-clause-last
returns-clause-last g c = λ fails.
    c.run_lines-stop.ensures.last (sym (fails_alone deciding alone c.args.budget _ _ c.run_lines-stop.result c.status_at.result c.status_at.ensures c.run_lines-stop.ensures.by).1 ∙ fails)

pub returns-clause-calls : goal.returns-clause-calls
returns-clause-calls g c =
    subst (λ (fails : Bool). MakesReads g.S.Source.read_made c.args.budget c.args.source.now fails c.run_lines-stop.new.source)
    (sym (fails_alone deciding alone c.args.budget _ _ c.run_lines-stop.result c.status_at.result c.status_at.ensures c.run_lines-stop.ensures.by).0) c.run_lines-stop.ensures.calls
