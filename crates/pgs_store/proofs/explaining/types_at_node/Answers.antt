use Rattle.pgs_store.proofs.Fitting.{types_of_node}
use Rattle.pgs_store.proofs.explaining.types_at_node.Goals as goal

pub returns-in-None : goal.returns-in-None
returns-in-None g c = rw (types_of_node c.args.compiled.now (g.G.GraphRead.meaning c.args.graph.now) c.args.id, ← c.in-None.ensures.value) c.new.ensures
