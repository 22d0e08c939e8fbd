use Rattle.std.proofs.Common.{sym, ◌∙◌}
use Rattle.pgs_run_lines.specs.AreasKept.{keeps_on}
use Rattle.pgs_run_lines.specs.Pieces.{shown_of}
use Rattle.pgs_run_input.specs.Answers.{schema_answer}
use Rattle.pgs_run_try.proofs.SchemaEnds.{schema_stop, schema_ends}
use Rattle.pgs_run_try.proofs.trying.end_schema.Goals as goal

pub returns-in-Err-clause-ends : goal.returns-in-Err-clause-ends
returns-in-Err-clause-ends g c =
    schema_stop c.args.judging (schema_answer c.args.text.now) _ c.in-Err.stop (shown_of (g.W.World.view c.args.world.now)) (shown_of (g.W.World.view c.put_any.new.world)) c.in-Ok.ensures.piece c.in-Err.ensures.fault c.in-Err.ensures.shows

pub returns-in-Lines-clause-ends : goal.returns-in-Lines-clause-ends
returns-in-Lines-clause-ends g c =
    schema_ends c.args.judging (schema_answer c.args.text.now) c.in-Lines.session _ c.end_session.result (shown_of (g.W.World.view c.args.world.now)) (shown_of (g.W.World.view c.put_any.new.world)) (shown_of (g.W.World.view c.end_session.new.world)) (sym c.in-Lines.is ∙ c.in-Ok.ensures.phase) c.in-Ok.ensures.piece c.in_default-put_any.ensures.shows c.end_session.ensures.ends

pub returns-in-Lines-clause-areas : goal.returns-in-Lines-clause-areas
returns-in-Lines-clause-areas g c = keeps_on _ (g.W.World.view c.put_any.new.world) _ c.put_any.ensures.areas c.end_session.ensures.areas
