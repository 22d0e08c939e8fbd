use Rattle.std.proofs.Common.{◌∙◌, ap, sym, is_some}
use Rattle.pgs_txn.proofs.Standing.{edge_of_change, edge_unchanged}
use Rattle.pgs_txn.proofs.working.Working.has_edge.Goals as goal

pub returns-in-Some-clause-value : goal.returns-in-Some-clause-value
returns-in-Some-clause-value g c =
    c.is_some.ensures
    ∙ ap is_some (sym (edge_of_change (g.G.GraphRead.meaning c.args.graph.now) c.args.self.now c.requires c.args.id c.in-Some.change.now (sym c.in-Some.ensures)))

pub returns-in-Some-edge-clause-value : goal.returns-in-Some-edge-clause-value
returns-in-Some-edge-clause-value g c =
    ap is_some (c.in-Some-edge.ensures.value
    ∙ sym (edge_unchanged (g.G.GraphRead.meaning c.args.graph.now) c.args.self.now c.requires c.args.id (sym c.in-None.ensures)))

pub returns-in-None-edge-clause-value : goal.returns-in-None-edge-clause-value
returns-in-None-edge-clause-value g c =
    ap is_some (c.in-None-edge.ensures.value
    ∙ sym (edge_unchanged (g.G.GraphRead.meaning c.args.graph.now) c.args.self.now c.requires c.args.id (sym c.in-None.ensures)))
