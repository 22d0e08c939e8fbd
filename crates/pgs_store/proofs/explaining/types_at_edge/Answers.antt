use Rattle.std.proofs.Common.{refl, sym}
use Rattle.pgs_store.proofs.Fitting.{ok_same, types_of_edge}
use Rattle.pgs_store.proofs.explaining.types_at_edge.Goals as goal

pub returns-in-Some : goal.returns-in-Some
returns-in-Some g c =
    ok_same c.edge_types.result _ _
    (sym (rw (types_of_edge c.args.compiled.now (g.G.GraphRead.meaning c.args.graph.now) c.args.id, ← c.in-Some.ensures.value) refl)) c.edge_types.ensures

pub returns-in-None : goal.returns-in-None
returns-in-None g c = rw (types_of_edge c.args.compiled.now (g.G.GraphRead.meaning c.args.graph.now) c.args.id, ← c.in-None.ensures.value) c.new.ensures
