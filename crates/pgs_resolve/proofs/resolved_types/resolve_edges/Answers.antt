use Rattle.std.proofs.Common.{ℕ, List, [], arith}
use Rattle.std.specs.Option.{option_map}
use Rattle.pgs_resolve_declared.specs.Declarations.{edge_named}
use Rattle.pgs_resolve_declared.specs.Order.{resolved_edge}
use Rattle.pgs_resolve_declared.proofs.Walks.{more_kept}
use Rattle.pgs_resolve.proofs.resolved_types.resolve_edges.Goals as goal

pub loop-name-preserved : goal.loop-name-preserved
loop-name-preserved c script are =
    more_kept (λ (name : List ℕ). option_map (resolved_edge c.args.numbering.now) (edge_named script name)) [] _ _ _ _ _ (omega arith) c.name-item.is
    (c.loop-name.invariant script are) (c.in_ok-push_edge.ensures script are)
