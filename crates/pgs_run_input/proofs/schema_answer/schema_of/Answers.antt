use Rattle.pgs_resolve.specs.SchemaOf.{schema_of}
use Rattle.pgs_run_input.specs.Answers.{schema_answer}
use Rattle.pgs_run_input.proofs.schema_answer.schema_of.Goals as goal

pub returns-in-Err-clause-refused : goal.returns-in-Err-clause-refused
unfolding schema_answer
returns-in-Err-clause-refused c = c.fault_of.ensures (schema_of c.args.text.now) c.in-Err.ensures.refused
