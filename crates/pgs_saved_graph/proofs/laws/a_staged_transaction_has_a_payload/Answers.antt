use Rattle.pgs_saved_graph.proofs.Steps.{staged_sized}
use Rattle.pgs_saved_graph.proofs.laws.a_staged_transaction_has_a_payload.Goals as goal

pub returns : goal.returns
returns c = staged_sized
