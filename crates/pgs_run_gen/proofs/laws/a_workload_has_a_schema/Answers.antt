use Rattle.pgs_run_gen.proofs.SchemaText.{text_answered}
use Rattle.pgs_run_gen.proofs.laws.a_workload_has_a_schema.Goals as goal

pub returns : goal.returns
returns c = text_answered
