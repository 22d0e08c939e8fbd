use Rattle.pgs_run_laws.proofs.ReadAgain.{read_again}
use Rattle.pgs_run_laws.proofs.laws.a_dump_is_validated.Goals as goal

pub returns : goal.returns
returns g c = λ input dump lost failed first last old done a b tells output recovered accepted out short validated.
    read_again c.written_is_read.ensures.names input dump lost failed (g.V.World.view first) (g.V.World.view last) (g.W.World.view old) (g.W.World.view done) recovered validated a b tells output
    accepted out short
