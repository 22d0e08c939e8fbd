use Rattle.std.proofs.Common.{map, refl}
use Rattle.pgs_resolve_declared.specs.Declarations.{declared_in, node_in, edge_in, graph_in}
use Rattle.pgs_resolve_declared.proofs.Walks.{none_yet, more_kept, all_kept, more_kept_of, all_kept_of}
use Rattle.pgs_resolve_declared.proofs.declarations.list_statements.Goals as goal

pub loop-statement-init : goal.loop-statement-init
loop-statement-init c = record {
  nodes = none_yet (map (λ type. type.now) c.args.nodes.now.items);
  edges = none_yet (map (λ type. type.now) c.args.edges.now.items);
  graphs = none_yet (map (λ type. type.now) c.args.graphs.now.items);
}

pub loop-statement-preserved : goal.loop-statement-preserved
loop-statement-preserved c = record {
  nodes = more_kept_of declared_in node_in (map (λ type. type.now) c.args.nodes.now.items) c.args.statements.now c.loop-statement.statement-index c.statement-item.result (map (λ type. type.now) c.loop-statement.nodes.items) (map (λ type. type.now) c.list_statement.new.nodes.items)
      c.loop-statement-test.true c.statement-item.is c.loop-statement.invariant.nodes c.in_ok-list_statement.ensures.nodes;
  edges = more_kept_of declared_in edge_in (map (λ type. type.now) c.args.edges.now.items) c.args.statements.now c.loop-statement.statement-index c.statement-item.result (map (λ type. type.now) c.loop-statement.edges.items) (map (λ type. type.now) c.list_statement.new.edges.items)
      c.loop-statement-test.true c.statement-item.is c.loop-statement.invariant.edges c.in_ok-list_statement.ensures.edges;
  graphs = more_kept graph_in (map (λ type. type.now) c.args.graphs.now.items) c.args.statements.now c.loop-statement.statement-index c.statement-item.result (map (λ type. type.now) c.loop-statement.graphs.items) (map (λ type. type.now) c.list_statement.new.graphs.items)
      c.loop-statement-test.true c.statement-item.is c.loop-statement.invariant.graphs c.in_ok-list_statement.ensures.graphs;
}

pub returns-clause-nodes : goal.returns-clause-nodes
returns-clause-nodes c =
    all_kept_of declared_in node_in (map (λ type. type.now) c.args.nodes.now.items) c.args.statements.now c.loop-statement.statement-index (map (λ type. type.now) c.loop-statement.nodes.items) c.loop-statement-test.false c.loop-statement.invariant.nodes

pub returns-clause-edges : goal.returns-clause-edges
returns-clause-edges c =
    all_kept_of declared_in edge_in (map (λ type. type.now) c.args.edges.now.items) c.args.statements.now c.loop-statement.statement-index (map (λ type. type.now) c.loop-statement.edges.items) c.loop-statement-test.false c.loop-statement.invariant.edges

pub returns-clause-graphs : goal.returns-clause-graphs
returns-clause-graphs c =
    all_kept graph_in (map (λ type. type.now) c.args.graphs.now.items) c.args.statements.now c.args.statements.now c.loop-statement.statement-index (map (λ type. type.now) c.loop-statement.graphs.items) c.loop-statement-test.false refl c.loop-statement.invariant.graphs
