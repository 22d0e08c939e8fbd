use Rattle.std.proofs.Common.{◌∙◌, sym}
use Rattle.pgs_txn.specs.Working.{graph_now}
use Rattle.pgs_txn.proofs.Standing.{edge_of_change, edge_unchanged, given_edge}
use Rattle.pgs_txn.proofs.working.Working.take_edge.Goals as goal

pub returns-in-Some-clause-row : goal.returns-in-Some-clause-row
returns-in-Some-clause-row g c =
    let m = g.G.GraphRead.meaning c.args.graph.now in
    given_edge c.found.result (graph_now m c.args.self.now) c.args.id c.in-Some.row
    (edge_of_change m c.args.self.now c.requires c.args.id c.in-Some.row (sym c.in_ok-row.ensures.earlier ∙ c.in-Some.is)) c.found.ensures

pub returns-in_ok-row-in-None-clause-row : goal.returns-in_ok-row-in-None-clause-row
returns-in_ok-row-in-None-clause-row g c =
    let m = g.G.GraphRead.meaning c.args.graph.now in
    given_edge c.found-in-None.result (graph_now m c.args.self.now) c.args.id c.in_ok-row-in-None.row
    (edge_unchanged m c.args.self.now c.requires c.args.id (sym c.in_ok-row.ensures.earlier ∙ c.in-None.is)
    ∙ sym c.edge.ensures.value ∙ sym c.in_ok-row-in-None.ensures) c.found-in-None.ensures
