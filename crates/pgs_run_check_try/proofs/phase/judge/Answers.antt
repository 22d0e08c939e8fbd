use Rattle.std.proofs.Common.{sym, subst}
use Rattle.pgs_resolve.specs.SchemaOf.{schema_of}
use Rattle.pgs_run_check_try.specs.Telling.{TellsText}
use Rattle.pgs_run_check_try.proofs.Judged.{judged_refused, tells_refusal, tells_schema}
use Rattle.pgs_run_check_try.proofs.phase.judge.Goals as goal

pub returns-in-Ok-clause-lines : goal.returns-in-Ok-clause-lines
returns-in-Ok-clause-lines c = subst (TellsText c.args.text.now) (sym c.new.ensures.items) (tells_schema c.args.text.now c.in-Ok.guard.schema c.in-Ok.ensures.schema)

pub returns-in_ok-lines-in-Err-clause-phase : goal.returns-in_ok-lines-in-Err-clause-phase
returns-in_ok-lines-in-Err-clause-phase c =
    judged_refused c.args.text.now c.in_ok-lines-in-Err.lines.items (c.in_ok-lines-in-Err.ensures (schema_of c.args.text.now) c.in-Err.ensures.refused)

pub returns-in_ok-lines-in-Err-clause-lines : goal.returns-in_ok-lines-in-Err-clause-lines
returns-in_ok-lines-in-Err-clause-lines c =
    tells_refusal c.args.text.now c.in_ok-lines-in-Err.lines.items (c.in_ok-lines-in-Err.ensures (schema_of c.args.text.now) c.in-Err.ensures.refused)
