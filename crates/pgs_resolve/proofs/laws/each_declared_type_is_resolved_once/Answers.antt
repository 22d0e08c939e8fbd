use Rattle.std.proofs.Common.{map, subst}
use Rattle.std.specs.Prelude.{IsPermutation}
use Rattle.pgs_syntax.specs.declared.resolved.Resolved.{Resolved}
use Rattle.pgs_resolve_declared.specs.Declarations.{nodes_of, edges_of}
use Rattle.pgs_resolve_declared.specs.Order.{numbering_of, resolved_node, resolved_edge}
use Rattle.pgs_resolve.proofs.Refusing.{resolved_only}
use Rattle.pgs_resolve.proofs.Unrefused.{nodes_resolved, edges_resolved}
use Rattle.pgs_resolve.proofs.laws.each_declared_type_is_resolved_once.Goals as goal

pub returns-clause-nodes : goal.returns-clause-nodes
returns-clause-nodes c = λ script schema ok.
    let only = resolved_only script schema ok in
    subst (λ (s : Resolved). IsPermutation (map (resolved_node (numbering_of script)) (nodes_of script)) s.nodes) only.1 (nodes_resolved script only.0)

pub returns-clause-edges : goal.returns-clause-edges
returns-clause-edges c = λ script schema ok.
    let only = resolved_only script schema ok in
    subst (λ (s : Resolved). IsPermutation (map (resolved_edge (numbering_of script)) (edges_of script)) s.edges) only.1 (edges_resolved script only.0)
