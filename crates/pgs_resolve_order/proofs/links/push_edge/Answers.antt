use Rattle.std.proofs.Common.{ℕ, List, Option, [], ◌++◌, ◌∙◌, ap}
use Rattle.std.specs.List.{filter_map}
use Rattle.std.specs.Option.{option_map_or}
use Rattle.pgs_syntax.specs.declared.element_type.EdgeType.{EdgeType}
use Rattle.pgs_resolve_declared.specs.Declarations.{words_of}
use Rattle.pgs_resolve_declared.specs.Order.{number_in}
use Rattle.pgs_resolve_declared.proofs.Walks.{both_kept}
use Rattle.pgs_resolve_order.proofs.links.push_edge.Goals as goal

pub returns-in_ok-push_spec-in-Some-3 : goal.returns-in_ok-push_spec-in-Some-3
returns-in_ok-push_spec-in-Some-3 c script are =
    let edge = c.in-Some.edge.now in
    let kept = number_in c.args.names.now in
    let old = c.args.row.now.items in
    both_kept kept (words_of edge.source ++ words_of edge.middle) (words_of edge.target) old _ _
    (both_kept kept (words_of edge.source) (words_of edge.middle) old _ _ c.in_ok-push_spec-in-Some.ensures c.in_ok-push_spec-in-Some-2.ensures)
    c.in_ok-push_spec-in-Some-3.ensures
    ∙ ap (λ (o : Option (EdgeType (List ℕ))). old ++ filter_map kept
    (option_map_or (λ (type : EdgeType (List ℕ)). words_of type.source ++ words_of type.middle ++ words_of type.target) o [])) (c.in-Some.ensures script are)
