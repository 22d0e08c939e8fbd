use Rattle.std.proofs.Common.{ℕ, List, ◌++◌, map, ◌∙◌, ap}
use Rattle.std.specs.List.{filter_map, flat_map}
use Rattle.pgs_syntax.specs.declared.element_type.NodeType.{NodeType}
use Rattle.pgs_syntax.specs.declared.element_type.EdgeType.{EdgeType}
use Rattle.pgs_syntax.specs.declared.script.GraphType.{GraphType}
use Rattle.pgs_resolve_declared.specs.Declarations.{node_in, edge_in, declared_in, graph_in}
use Rattle.pgs_resolve_declared.proofs.Walks.{map_through}
use Rattle.pgs_resolve_declared.proofs.declarations.Declarations.new.Goals as goal

pub returns : goal.returns
returns c =
    let statements = c.as_slice-statements.result.now in
    let nodes = c.in_ok-list_statements.ensures.nodes ∙ ap (λ types. map (λ type. type.now) types ++ filter_map node_in (flat_map declared_in statements)) c.new-nodes.ensures.items
    ∙ ap (λ ss. filter_map node_in (flat_map declared_in ss)) c.as_slice-statements.ensures in
    let edges = c.in_ok-list_statements.ensures.edges ∙ ap (λ types. map (λ type. type.now) types ++ filter_map edge_in (flat_map declared_in statements)) c.new-edges.ensures.items
    ∙ ap (λ ss. filter_map edge_in (flat_map declared_in ss)) c.as_slice-statements.ensures in
    let graphs = c.in_ok-list_statements.ensures.graphs ∙ ap (λ types. map (λ type. type.now) types ++ filter_map graph_in statements) c.new-graphs.ensures.items
    ∙ ap (filter_map graph_in) c.as_slice-statements.ensures in
    record {
      nodes = nodes;
      edges = edges;
      graphs = graphs;
      node_names =
          c.in_ok-names.ensures.nodes ∙ ap (map (λ type. type.now.name)) c.deref.ensures.value ∙ map_through (λ type. type.now) (λ (type : NodeType (List ℕ)). type.name) c.list_statements.new.nodes.items
          ∙ ap (map (λ (type : NodeType (List ℕ)). type.name)) nodes;
      edge_names =
          c.in_ok-names.ensures.edges ∙ ap (map (λ type. type.now.name)) c.deref-2.ensures.value ∙ map_through (λ type. type.now) (λ (type : EdgeType (List ℕ)). type.name) c.list_statements.new.edges.items
          ∙ ap (map (λ (type : EdgeType (List ℕ)). type.name)) edges;
      graph_names =
          c.in_ok-names.ensures.graphs ∙ ap (map (λ type. type.now.name)) c.deref-3.ensures.value ∙ map_through (λ type. type.now) (λ (type : GraphType). type.name) c.list_statements.new.graphs.items
          ∙ ap (map (λ (type : GraphType). type.name)) graphs;
    }
