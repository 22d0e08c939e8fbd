use Rattle.std.proofs.Common.{arith}
use Rattle.pgs_run_gen.proofs.Incoming.{incoming_few}
use Rattle.pgs_run_gen.proofs.summary.edges_into.Goals as goal

pub returns : goal.returns
returns g c = omega (arith, incoming_few (g.G.GraphRead.meaning c.args.graph.now) c.args.id)
