use Rattle.std.proofs.Common.{map, ◌∙◌, ap, arith}
use Rattle.std.proofs.lemmas.List.{take_all}
use Rattle.pgs_resolve_declared.specs.Order.{edge_entry}
use Rattle.pgs_resolve_declared.proofs.Walks.{map_through}
use Rattle.pgs_resolve_order.proofs.listing.edge_items.Goals as goal

pub returns : goal.returns
returns c script are =
    let all = c.as_slice-edge-items.result.now in
    c.loop-edge.invariant script are
    ∙ ap (map (λ type. edge_entry script type.now)) (take_all c.loop-edge.edge-index all (omega arith) ∙ c.as_slice-edge-items.ensures.value)
    ∙ map_through (λ type. type.now) (edge_entry script) c.args.declarations.now.edges.items ∙ ap (map (edge_entry script)) are.edges
