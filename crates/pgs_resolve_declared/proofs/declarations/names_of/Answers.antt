use Rattle.std.proofs.Common.{◌++◌, map, ◌∙◌, ap}
use Rattle.pgs_resolve_declared.proofs.declarations.names_of.Goals as goal

pub returns-clause-nodes : goal.returns-clause-nodes
returns-clause-nodes c = c.in_ok-put_node_names.ensures ∙ ap (λ names. names ++ map (λ type. type.now.name) c.args.nodes.now) c.new-node_names.ensures

pub returns-clause-edges : goal.returns-clause-edges
returns-clause-edges c = c.in_ok-put_edge_names.ensures ∙ ap (λ names. names ++ map (λ type. type.now.name) c.args.edges.now) c.new-edge_names.ensures

pub returns-clause-graphs : goal.returns-clause-graphs
returns-clause-graphs c = c.in_ok-put_graph_names.ensures ∙ ap (λ names. names ++ map (λ type. type.now.name) c.args.graphs.now) c.new-graph_names.ensures
