use Rattle.pgs_json_causes.proofs.LineLaw.{told_text, told_bytes}
use Rattle.pgs_json_causes.proofs.line.told_cause.Goals as goal

pub returns-in_ok-text_cause-in-Ok : goal.returns-in_ok-text_cause-in-Ok
returns-in_ok-text_cause-in-Ok c = told_text c.args.line.now _ _ c.in-Ok.ensures.cases.0 c.in-Ok.ensures.cases.1 c.in_ok-text_cause-in-Ok.ensures

pub returns-in_ok-byte_cause-in-Err : goal.returns-in_ok-byte_cause-in-Err
returns-in_ok-byte_cause-in-Err c = told_bytes c.args.line.now _ c.in-Err.ensures.cases.0 c.in_ok-byte_cause-in-Err.ensures
