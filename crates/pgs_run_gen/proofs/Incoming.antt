-- No more edges come in at a node than there are.
use Rattle.std.proofs.Common.{◌≤◌, length, filter, ◌∙◌, subst, sym}
use Rattle.std.proofs.lemmas.List.Sums.{length-filter, count_by-le-length}
use Rattle.std.proofs.lemmas.Map.Entries.{length-keys_of}
use Rattle.pgs_base.specs.declared.element.NodeId.{NodeId}
use Rattle.pgs_base.specs.Graph.{Graph}
use Rattle.pgs_graph.specs.declared.scan.End.TheVariants.{Target}
use Rattle.pgs_graph.specs.Reads.{ends_at, in_edges_of}

pub incoming_few : (g : Graph) (id : NodeId) → length (in_edges_of g id) ≤ length g.edges
incoming_few g id =
    subst (λ n. n ≤ length g.edges)
    (sym (length-keys_of (filter (ends_at Target id) g.edges) ∙ length-filter (ends_at Target id) g.edges)) (count_by-le-length (ends_at Target id) g.edges)
