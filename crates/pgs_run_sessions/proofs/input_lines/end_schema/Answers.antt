use Rattle.std.proofs.Common.{true, [], sym, ap, subst, ◌∙◌}
use Rattle.pgs_run_lines.specs.declared.stop.Stop.TheVariants as stops
use Rattle.pgs_run_lines.specs.Ending.{Ends}
use Rattle.pgs_run_lines.specs.Pieces.{shown_of}
use Rattle.pgs_command.specs.declared.status.Status.{Status}
use Rattle.pgs_run_input.specs.Answers.{schema_answer}
use Rattle.pgs_run_sessions.specs.InputMachine.{stand_of}
use Rattle.pgs_run_sessions.specs.State.{schema_in, standing_in, brief_sessions}
use Rattle.pgs_run_sessions.specs.Told.{told_schema}
use Rattle.pgs_run_sessions.proofs.SchemaEnds.{schema_stop, schema_ends}
use Rattle.pgs_run_sessions.proofs.input_lines.end_schema.Goals as goal

pub returns-in-Err-clause-ends : goal.returns-in-Err-clause-ends
returns-in-Err-clause-ends g c =
    schema_stop (schema_answer c.args.text.now) _ c.in-Err.stop (shown_of (g.W.World.view c.args.world.now)) (shown_of (g.W.World.view c.put_any.new.world)) c.in-Ok.ensures.piece c.in-Err.ensures.fault c.in-Err.ensures.shows

pub returns-in-Lines-clause-ends : goal.returns-in-Lines-clause-ends
returns-in-Lines-clause-ends g c =
    let start = shown_of (g.W.World.view c.args.world.now) in
    let now = shown_of (g.W.World.view c.put_any.new.world) in
    let told = told_schema brief_sessions true (schema_answer c.args.text.now) [] in
    subst (λ (s : Status). Ends start told (stops.Ended s) now) (sym c.status_after.ensures)
    (schema_ends (schema_answer c.args.text.now) (schema_in c.in-Lines.events) (standing_in c.in-Lines.events) c.is_refused.result _ start now
    (ap stand_of (sym c.in-Lines.is) ∙ c.in-Ok.ensures.part) c.is_refused.ensures c.in-Ok.ensures.piece c.in_default-put_any.ensures.shows)
