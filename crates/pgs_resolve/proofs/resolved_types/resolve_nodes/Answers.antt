use Rattle.std.proofs.Common.{ℕ, List, [], arith}
use Rattle.std.specs.Option.{option_map}
use Rattle.pgs_resolve_declared.specs.Declarations.{node_named}
use Rattle.pgs_resolve_declared.specs.Order.{resolved_node}
use Rattle.pgs_resolve_declared.proofs.Walks.{more_kept}
use Rattle.pgs_resolve.proofs.resolved_types.resolve_nodes.Goals as goal

pub loop-name-preserved : goal.loop-name-preserved
loop-name-preserved c script are =
    more_kept (λ (name : List ℕ). option_map (resolved_node c.args.numbering.now) (node_named script name)) [] _ _ _ _ _ (omega arith) c.name-item.is
    (c.loop-name.invariant script are) (c.in_ok-push_node.ensures script are)
