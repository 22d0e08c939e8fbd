use Rattle.std.proofs.Common.{◌∙◌, ap, sym, is_some}
use Rattle.pgs_txn.proofs.Standing.{node_of_change, node_unchanged}
use Rattle.pgs_txn.proofs.working.Working.has_node.Goals as goal

pub returns-in-Some-clause-value : goal.returns-in-Some-clause-value
returns-in-Some-clause-value g c =
    c.is_some.ensures
    ∙ ap is_some (sym (node_of_change (g.G.GraphRead.meaning c.args.graph.now) c.args.self.now c.requires c.args.id c.in-Some.change.now (sym c.in-Some.ensures)))

pub returns-in-Some-node-clause-value : goal.returns-in-Some-node-clause-value
returns-in-Some-node-clause-value g c =
    ap is_some (c.in-Some-node.ensures.value
    ∙ sym (node_unchanged (g.G.GraphRead.meaning c.args.graph.now) c.args.self.now c.requires c.args.id (sym c.in-None.ensures)))

pub returns-in-None-node-clause-value : goal.returns-in-None-node-clause-value
returns-in-None-node-clause-value g c =
    ap is_some (c.in-None-node.ensures.value
    ∙ sym (node_unchanged (g.G.GraphRead.meaning c.args.graph.now) c.args.self.now c.requires c.args.id (sym c.in-None.ensures)))
