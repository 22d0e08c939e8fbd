use Rattle.std.proofs.Common.{Bool, sym, subst, ◌∙◌}
use Rattle.pgs_run_lines.specs.Calls.{MakesReads}
use Rattle.pgs_command.specs.declared.status.Status.{Status}
use Rattle.pgs_command.specs.Promise.{Promise}
use Rattle.pgs_command.specs.Setting.{SourceState, setting_of}
use Rattle.pgs_command.proofs.OwnEnds.{fails_alone}
use Rattle.pgs_run_check_try.specs.Explaining.{deciding, first_phase}
use Rattle.pgs_run_check_try.specs.Spec.{check_try_spec}
use Rattle.pgs_run_check_try.proofs.Promised.{alone, promised_try, room_from, room_text, runs_from}
use Rattle.pgs_run_check_try.proofs.run.run_check_try.Goals as goal

pub returns-clause-promise : goal.returns-clause-promise
returns-clause-promise g c = λ places.
    let view = g.W.World.view in
    let run = c.run_lines-stop in
    let before : SourceState = record { left = g.S.Source.left c.args.source.now; faults = g.S.Source.faults c.args.source.now } in
    let left : SourceState = record { left = g.S.Source.left run.new.source; faults = g.S.Source.faults run.new.source } in
    subst (λ (status : Status). Promise check_try_spec c.args.budget (setting_of before.left before.faults (view c.args.world.now) places) (setting_of left.left left.faults (view run.new.world) places) status) (sym c.status_at.ensures)
    (promised_try c.args.budget before left run.result (view c.args.world.now) (view run.new.world) places
    (runs_from first_phase c.new-explaining.result.phase c.args.budget before left run.result (view c.args.world.now) (view run.new.world) c.new-explaining.ensures
    (record { by = run.ensures.by; may = run.ensures.may; cause = run.ensures.cause; allows = run.ensures.allows })))

pub returns-clause-last : goal.returns-clause-last
returns-clause-last g c = λ fails.
    c.run_lines-stop.ensures.last (sym (fails_alone deciding alone c.args.budget _ _ c.run_lines-stop.result c.status_at.result c.status_at.ensures c.run_lines-stop.ensures.by).1 ∙ fails)

pub returns-clause-calls : goal.returns-clause-calls
returns-clause-calls g c =
    subst (λ (fails : Bool). MakesReads g.S.Source.read_made c.args.budget c.args.source.now fails c.run_lines-stop.new.source)
    (sym (fails_alone deciding alone c.args.budget _ _ c.run_lines-stop.result c.status_at.result c.status_at.ensures c.run_lines-stop.ensures.by).0) c.run_lines-stop.ensures.calls

pub run_lines-stop-requires-clause-room : goal.run_lines-stop-requires-clause-room
run_lines-stop-requires-clause-room g c = room_from first_phase c.new-explaining.result.phase c.args.budget c.new-explaining.ensures (room_text c.args.budget c.requires)
