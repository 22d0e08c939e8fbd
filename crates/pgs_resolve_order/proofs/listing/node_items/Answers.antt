use Rattle.std.proofs.Common.{map, ◌∙◌, ap, arith}
use Rattle.std.proofs.lemmas.List.{take_all}
use Rattle.pgs_resolve_declared.specs.Order.{node_entry}
use Rattle.pgs_resolve_declared.proofs.Walks.{map_through}
use Rattle.pgs_resolve_order.proofs.listing.node_items.Goals as goal

pub returns : goal.returns
returns c script are =
    let all = c.as_slice-node-items.result.now in
    c.loop-node.invariant script are
    ∙ ap (map (λ type. node_entry script type.now)) (take_all c.loop-node.node-index all (omega arith) ∙ c.as_slice-node-items.ensures.value)
    ∙ map_through (λ type. type.now) (node_entry script) c.args.declarations.now.nodes.items ∙ ap (map (node_entry script)) are.nodes
