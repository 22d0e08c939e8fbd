use Rattle.std.proofs.Common.{ℕ, List, [], ◌++◌, ◌∙◌, ap}
use Rattle.std.specs.List.{filter_map}
use Rattle.std.specs.Option.{option_map_or}
use Rattle.pgs_syntax.specs.declared.element_type.EdgeType.{EdgeType}
use Rattle.pgs_syntax.specs.declared.element_type.NodeType.{NodeType}
use Rattle.pgs_resolve_declared.specs.Declarations.{words_of, node_named, edge_named}
use Rattle.pgs_resolve_declared.specs.Order.{number_in}
use Rattle.pgs_resolve_declared.proofs.Walks.{both_kept}
use Rattle.pgs_resolve_order.proofs.links.type_row.Goals as goal

pub returns : goal.returns
returns c script are =
    let name = c.args.name.now in
    let kept = number_in c.args.names.now in
    c.from_vec.ensures
    ∙ both_kept kept (option_map_or (λ (type : NodeType (List ℕ)). words_of type.spec) (node_named script name) [])
    (option_map_or (λ (type : EdgeType (List ℕ)). words_of type.source ++ words_of type.middle ++ words_of type.target) (edge_named script name) [])
    [] _ _ (c.in_ok-push_node.ensures script are ∙ ap (λ (row : List ℕ). row ++ filter_map kept (option_map_or (λ (type : NodeType (List ℕ)). words_of type.spec) (node_named script name) [])) c.new-row.ensures.items)
    (c.in_ok-push_edge.ensures script are)
