use Rattle.pgs_run_laws.proofs.ReadBack.{dump_is_read_back}
use Rattle.pgs_run_laws.proofs.laws.a_dump_is_read_back.Goals as goal

pub returns : goal.returns
returns c = λ areas any input budget lost limit failed a b. dump_is_read_back c.written_is_read.ensures.names areas limit a b
