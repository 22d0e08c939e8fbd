use Rattle.pgs_run_lines.specs.Calls.{gave_none, so_far}
use Rattle.pgs_run_input.proofs.text.read_text.Goals as goal

pub returns-in-Err-clause-calls : goal.returns-in-Err-clause-calls
returns-in-Err-clause-calls g c = so_far gave_none
