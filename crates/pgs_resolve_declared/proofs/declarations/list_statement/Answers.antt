use Rattle.std.proofs.Common.{◌++◌, map, Result, Ok, Err, OnOk, sym, ◌∙◌, ap}
use Rattle.std.specs.List.{filter_map}
use Rattle.pgs_syntax.specs.declared.script.GraphType.{GraphType}
use Rattle.pgs_resolve_declared.specs.Declarations.{node_in, edge_in, declared_in}
use Rattle.pgs_resolve_declared.proofs.Members.{nodes_declared, edges_declared}
use Rattle.pgs_resolve_declared.proofs.declarations.list_statement.Goals as goal

when_ok : {T E P : Type 0} (r : Result T E) → P → OnOk r P
when_ok (Ok v) p = p
when_ok (Err e) p = tt

pub returns-in_ok-list_members-in-Graph-clause-nodes : goal.returns-in_ok-list_members-in-Graph-clause-nodes
returns-in_ok-list_members-in-Graph-clause-nodes c =
    when_ok c.put-in-Graph.result
    (c.in_ok-list_members-in-Graph.ensures.nodes
    ∙ ap (λ types. map (λ type. type.now) c.args.nodes.now.items ++ types)
    (ap (filter_map node_in) (c.as_slice.ensures ∙ ap (λ (graph : GraphType). graph.members) c.get-graph.ensures)
    ∙ sym (nodes_declared c.in-Graph.graph.members) ∙ ap (λ s. filter_map node_in (declared_in s)) (sym c.in-Graph.is)))

pub returns-in_ok-list_members-in-Graph-clause-edges : goal.returns-in_ok-list_members-in-Graph-clause-edges
returns-in_ok-list_members-in-Graph-clause-edges c =
    when_ok c.put-in-Graph.result
    (c.in_ok-list_members-in-Graph.ensures.edges
    ∙ ap (λ types. map (λ type. type.now) c.args.edges.now.items ++ types)
    (ap (filter_map edge_in) (c.as_slice.ensures ∙ ap (λ (graph : GraphType). graph.members) c.get-graph.ensures)
    ∙ sym (edges_declared c.in-Graph.graph.members) ∙ ap (λ s. filter_map edge_in (declared_in s)) (sym c.in-Graph.is)))
