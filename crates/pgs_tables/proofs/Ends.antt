-- The ends of a graph's edges are there, so that a node that isn't there has no edges.
use Rattle.std.proofs.Common.{◌≡◌, ◌==◌, Bool, true, false, cond, ◌||◌, List, [], ◌∷◌, Option, Some, None, is_some, refl, sym, ap, ◌∙◌, true≢false}
use Rattle.std.specs.Option.{option_map}
use Rattle.std.specs.List.{filter, list_all}
use Rattle.std.specs.Map.{keys_of}
use Rattle.std.specs.BTreeMap.{is_at}
use Rattle.std.proofs.lemmas.Bool.{eqb-true, and_parts}
use Rattle.pgs_base.specs.declared.element.NodeId.{NodeId}
use Rattle.pgs_base.specs.declared.element.EdgeId.{EdgeId}
use Rattle.pgs_base.specs.declared.row.NodeRow.{NodeRow}
use Rattle.pgs_base.specs.declared.row.EdgeRow.{EdgeRow}
use Rattle.pgs_base.specs.Graph.{Graph, edge_cmp, node_at, edge_at, is_end, has_ends, is_graph}
use Rattle.pgs_base.proofs.Graphs.{graph_parts}
use Rattle.pgs_graph.specs.declared.scan.End.{End}
use Rattle.pgs_graph.specs.declared.scan.End.TheVariants.{Source, Target}
use Rattle.pgs_graph.specs.Reads.{end_of, ends_at, edges_with}
use Rattle.pgs_tables.specs.declared.node_edges.NodeEdges.{NodeEdges}
use Rattle.pgs_tables.specs.Adjacency.{no_edges, node_edges, is_end_of}
use Rattle.pgs_tables.proofs.Folded.{passes_found}

same_node : (a b : NodeId) → (a.0 == b.0) ≡ true → a ≡ b
same_node a b same = ap (λ n. record { 0 = n }) (eqb-true a.0 b.0 same)

module _ (h : Graph) (q : NodeId) where
  there_from : (id : NodeId) → (id.0 == q.0) ≡ true → is_some (node_at h id) ≡ true → is_some (node_at h q) ≡ true
  there_from id same there = ap (λ n. is_some (node_at h n)) (sym (same_node id q same)) ∙ there

  end_there : (row : EdgeRow) → is_end q row ≡ true → has_ends h row ≡ true → is_some (node_at h q) ≡ true
  end_there row here ends = by (row.source.0 == q.0) refl here
    where
      by : (b : Bool) → (row.source.0 == q.0) ≡ b → (b || row.target.0 == q.0) ≡ true → is_some (node_at h q) ≡ true
      by true source h = there_from row.source source (and_parts _ _ ends).0
      by false other target = there_from row.target target (and_parts _ _ ends).1

  module _ (graph : is_graph h ≡ true) where
    -- an end of an edge of the graph is there
    pub edge_end_there : (id : EdgeId) (row : Option EdgeRow) → edge_at h id ≡ row → is_end_of q row ≡ true → is_some (node_at h q) ≡ true
    edge_end_there id None found here = absurd (true≢false (sym here))
    edge_end_there id (Some row) found here =
        end_there row here (passes_found (is_at (edge_cmp id)) (λ (e : EdgeId × EdgeRow). has_ends h e.1) (has_ends h) (λ e. refl) h.edges row (graph_parts h graph).ends found)

    none_with : (end : End) → node_at h q ≡ None → (es : List (EdgeId × EdgeRow)) → list_all (λ (e : EdgeId × EdgeRow). has_ends h e.1) es ≡ true → edges_with end q es ≡ []
    none_with end absent [] all = refl
    none_with end absent (e ∷ es) all = by (ends_at end q e) refl (none_with end absent es (and_parts _ _ all).1)
      where
        end_of_both : (end : End) → has_ends h e.1 ≡ true → is_some (node_at h (end_of end e.1)) ≡ true
        end_of_both Source ends = (and_parts _ _ ends).0
        end_of_both Target ends = (and_parts _ _ ends).1

        by : (b : Bool) → ends_at end q e ≡ b → edges_with end q es ≡ [] → keys_of (cond b (e ∷ filter (ends_at end q) es) (filter (ends_at end q) es)) ≡ []
        by true here rest = absurd (true≢false (sym (there_from (end_of end e.1) here (end_of_both end (and_parts _ _ all).0)) ∙ ap is_some absent))
        by false here rest = rest

    -- a node that isn't there has no edges
    pub absent_node : node_at h q ≡ None → node_edges h q ≡ no_edges
    absent_node absent =
        let all = (graph_parts h graph).ends in
        λ i. record { outgoing = none_with Source absent h.edges all i; incoming = none_with Target absent h.edges all i }

-- a node that gives no edges isn't there
pub no_node : (o : Option NodeRow) (edges : NodeEdges) → None ≡ option_map (λ (row : NodeRow). edges) o → o ≡ None
no_node None edges none = refl
no_node (Some row) edges none = absurd (true≢false (sym (ap is_some none)))
