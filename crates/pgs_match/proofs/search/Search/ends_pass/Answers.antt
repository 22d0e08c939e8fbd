use Rattle.std.proofs.Common.{sym, ◌∙◌}
use Rattle.pgs_graph.specs.Reads.{edge_row}
use Rattle.pgs_match.proofs.EdgeTypes.{unasked, without_source, without_target}
use Rattle.pgs_match.proofs.search.Search.ends_pass.Goals as goal

pub returns-then-not-asks_some_edge_type-clause-value : goal.returns-then-not-asks_some_edge_type-clause-value
returns-then-not-asks_some_edge_type-clause-value g c =
    sym (unasked c.args.self.now.compiled.now c.args.var _ c.args.self.now.atoms.now (sym c.asks_some_edge_type.ensures ∙ c.if-not-asks_some_edge_type.true))

pub returns-in_default-clause-value : goal.returns-in_default-clause-value
returns-in_default-clause-value g c =
    let row = c.args.row.now in
    without_source c.args.self.now.compiled.now (g.G.GraphRead.meaning c.args.self.now.graph.now) (edge_row row.source row.target row.labels.now row.props.now) c.args.var c.args.self.now.atoms.now
    c.asks_some_edge_type.result c.asks_some_edge_type.ensures c.if-not-asks_some_edge_type.false c.in_default.ensures.value

pub returns-in_default-node-clause-value : goal.returns-in_default-node-clause-value
returns-in_default-node-clause-value g c =
    let row = c.args.row.now in
    without_target c.args.self.now.compiled.now (g.G.GraphRead.meaning c.args.self.now.graph.now) (edge_row row.source row.target row.labels.now row.props.now) c.args.var c.args.self.now.atoms.now
    c.asks_some_edge_type.result c.asks_some_edge_type.ensures c.if-not-asks_some_edge_type.false c.in_default-node.ensures.value
