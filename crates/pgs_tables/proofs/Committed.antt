-- The rows that a commit leaves are those of the changed graph, each node with its edges there.
use Rattle.std.proofs.Common.{◌≡◌, Bool, true, false, cond, List, Option, Some, None, IfSome, is_some, refl, sym, ap, subst, ◌∙◌, true≢false}
use Rattle.std.specs.Option.{option_map, option_map_or}
use Rattle.std.specs.List.Sorted.{IsStrictlySortedBy}
use Rattle.std.specs.Map.{keys_of, lookup}
use Rattle.std.specs.BTreeMap.{is_at}
use Rattle.std.proofs.lemmas.Map.Made.{lookup-map_values, keys_of-map_values}
use Rattle.pgs_base.specs.declared.element.NodeId.{NodeId}
use Rattle.pgs_base.specs.declared.element.EdgeId.{EdgeId}
use Rattle.pgs_base.specs.declared.row.NodeRow.{NodeRow}
use Rattle.pgs_base.specs.declared.row.EdgeRow.{EdgeRow}
use Rattle.pgs_base.specs.Graph.{Graph, node_cmp, edge_cmp, node_at, is_graph}
use Rattle.pgs_base.proofs.Lookups.{same_entries}
use Rattle.pgs_graph.specs.declared.delta.Delta.{Delta}
use Rattle.pgs_graph.specs.Changed.{entries_changed, changed, is_sound, after_changes}
use Rattle.pgs_graph.proofs.Deltas.{node_cmp_total, exact_node, ascending_nodes, ascending_changed_nodes, changed_graph, node_after}
use Rattle.pgs_tables.specs.declared.node_edges.NodeEdges.{NodeEdges}
use Rattle.pgs_tables.specs.declared.node_edges.NodeTable.{NodeTable}
use Rattle.pgs_tables.specs.Adjacency.{no_edges, node_edges, is_touched, touched_edges}
use Rattle.pgs_tables.specs.Commits.{row_changed, relinked, rows_put, lists_put}
use Rattle.pgs_tables.specs.Standing.{graph_of, HasItsEdges}
use Rattle.pgs_tables.proofs.Ends.{absent_node}
use Rattle.pgs_tables.proofs.Folded.{fold-here, lookup-listed}
use Rattle.pgs_tables.proofs.Touched.{untouched, ascending_touched}

abbrev row_of : Option NodeTable → Option NodeRow
row_of table = option_map (λ (t : NodeTable). t.row) table

row_relinked : (lists : Option NodeEdges) (table : Option NodeTable) → row_of (option_map_or (λ edges. relinked edges table) lists table) ≡ row_of table
row_relinked None table = refl
row_relinked (Some edges) None = refl
row_relinked (Some edges) (Some t) = refl

row_after : (new : Option (Option NodeRow)) (table : Option NodeTable) → row_of (option_map_or (λ row. row_changed row table) new table) ≡ after_changes new (row_of table)
row_after None table = refl
row_after (Some None) table = refl
row_after (Some (Some row)) table = refl

no_table : (table : Option NodeTable) → row_of table ≡ None → table ≡ None
no_table None none = refl
no_table (Some t) none = absurd (true≢false (ap is_some none))

has_new_edges : (edges : NodeEdges) (table : Option NodeTable) → IfSome (relinked edges table) (λ t. t.edges ≡ edges)
has_new_edges edges None = tt
has_new_edges edges (Some t) = refl

-- a row after a change has the edges that it had, and a new one none
keeps_edges : (edges : NodeEdges) (table : Option NodeTable) (new : Option (Option NodeRow)) → IfSome table (λ t. t.edges ≡ edges) → (table ≡ None → edges ≡ no_edges) →
    IfSome (option_map_or (λ row. row_changed row table) new table) (λ t. t.edges ≡ edges)
keeps_edges edges table None had had_none = had
keeps_edges edges table (Some None) had had_none = tt
keeps_edges edges None (Some (Some row)) had had_none = sym (had_none refl)
keeps_edges edges (Some t) (Some (Some row)) had had_none = had

module _ (nodes new_nodes : List (NodeId × NodeTable)) (edges new_edges : List (EdgeId × EdgeRow)) (delta : Delta)
    (graph : is_graph (graph_of nodes edges) ≡ true) (sound : is_sound (graph_of nodes edges) delta ≡ true)
    (edges_changed : new_edges ≡ entries_changed edge_cmp edges delta.edges)
    (ascending : IsStrictlySortedBy node_cmp (keys_of new_nodes))
    (each : (q : NodeId) → lookup (is_at (node_cmp q)) new_nodes
    ≡ lists_put q (rows_put q (lookup (is_at (node_cmp q)) nodes) delta.nodes) (touched_edges (graph_of nodes edges) delta)) where
  abbrev old : Graph
  old = graph_of nodes edges

  abbrev new : Graph
  new = changed old delta

  module _ (q : NodeId) where
    abbrev was : Option NodeTable
    was = lookup (is_at (node_cmp q)) nodes

    -- the row before its lists are put in
    abbrev put : Option NodeTable
    put = option_map_or (λ row. row_changed row was) (lookup (is_at (node_cmp q)) delta.nodes) was

    abbrev lists : Option NodeEdges
    lists = lookup (is_at (node_cmp q)) (touched_edges old delta)

    stands : lookup (is_at (node_cmp q)) new_nodes ≡ option_map_or (λ edges. relinked edges put) lists put
    stands =
        each q ∙ ap (λ t. lists_put q t (touched_edges old delta)) (fold-here node_cmp_total row_changed q delta.nodes was (ascending_changed_nodes old delta sound))
        ∙ fold-here node_cmp_total relinked q (touched_edges old delta) put (ascending_touched old delta graph sound)

    old_row : node_at old q ≡ row_of was
    old_row = lookup-map_values (λ (t : NodeTable). t.row) (is_at (node_cmp q)) nodes

    put_row : row_of put ≡ node_at new q
    put_row = row_after (lookup (is_at (node_cmp q)) delta.nodes) was ∙ ap (after_changes (lookup (is_at (node_cmp q)) delta.nodes)) (sym old_row) ∙ sym (node_after old delta q graph sound)

    new_row : lookup (is_at (node_cmp q)) (graph_of new_nodes new_edges).nodes ≡ node_at new q
    new_row = lookup-map_values (λ (t : NodeTable). t.row) (is_at (node_cmp q)) new_nodes ∙ ap row_of stands ∙ row_relinked lists put ∙ put_row

    listed_by : Bool → Option NodeEdges
    listed_by b = cond b (option_map (λ (row : NodeRow). node_edges new q) (node_at new q)) None

    has_edges : HasItsEdges old nodes q → (b : Bool) → is_touched old delta q ≡ b → lists ≡ cond b (option_map (λ (row : NodeRow). node_edges new q) (node_at new q)) None →
        IfSome (lookup (is_at (node_cmp q)) new_nodes) (λ t. t.edges ≡ node_edges new q)
    has_edges had true touched listed = by (node_at new q) refl listed
      where
        by : (o : Option NodeRow) → node_at new q ≡ o → lists ≡ option_map (λ (row : NodeRow). node_edges new q) o → IfSome (lookup (is_at (node_cmp q)) new_nodes) (λ t. t.edges ≡ node_edges new q)
        by None absent none =
            let empty : lookup (is_at (node_cmp q)) new_nodes ≡ None = stands ∙ ap (λ l. option_map_or (λ edges. relinked edges put) l put) none ∙ no_table put (put_row ∙ absent) in
            subst (λ o. IfSome o (λ (t : NodeTable). t.edges ≡ node_edges new q)) (sym empty) tt
        by (Some row) there some =
            let linked : lookup (is_at (node_cmp q)) new_nodes ≡ relinked (node_edges new q) put = stands ∙ ap (λ l. option_map_or (λ edges. relinked edges put) l put) some in
            subst (λ o. IfSome o (λ (t : NodeTable). t.edges ≡ node_edges new q)) (sym linked) (has_new_edges (node_edges new q) put)
    has_edges had false not_touched none =
        let kept : lookup (is_at (node_cmp q)) new_nodes ≡ put = stands ∙ ap (λ l. option_map_or (λ edges. relinked edges put) l put) none in
        let had_none : was ≡ None → node_edges old q ≡ no_edges = λ absent. absent_node old q graph (old_row ∙ ap row_of absent) in
        subst (λ o. IfSome o (λ (t : NodeTable). t.edges ≡ node_edges new q)) (sym kept)
        (subst (λ e. IfSome put (λ (t : NodeTable). t.edges ≡ e)) (untouched old delta graph sound q not_touched)
        (keeps_edges (node_edges old q) was (lookup (is_at (node_cmp q)) delta.nodes) had had_none))

  -- the graph that the new rows mean
  pub committed_graph : graph_of new_nodes new_edges ≡ new
  committed_graph =
      let rows = same_entries node_cmp_total exact_node (graph_of new_nodes new_edges).nodes new.nodes
      (subst (IsStrictlySortedBy node_cmp) (sym (keys_of-map_values (λ (t : NodeTable). t.row) new_nodes)) ascending)
      (ascending_nodes new (changed_graph old delta sound)) new_row in
      λ i. record { nodes = rows i; edges = edges_changed i }

  -- each node has its edges there
  pub committed_edges : ((q : NodeId) → HasItsEdges old nodes q) → (q : NodeId) → HasItsEdges (graph_of new_nodes new_edges) new_nodes q
  committed_edges had q =
      subst (λ h. HasItsEdges h new_nodes q) (sym committed_graph)
      (has_edges q (had q) (is_touched old delta q) refl (lookup-listed exact_node (is_touched old delta) (node_edges new) q new.nodes))

  pub committed_is_graph : is_graph (graph_of new_nodes new_edges) ≡ true
  committed_is_graph = ap is_graph committed_graph ∙ changed_graph old delta sound

-- what stands at each node once rows and lists are put in one after the other
pub each_put : (old : Graph) (nodes put new_nodes : List (NodeId × NodeTable)) (delta : Delta) (changes : List (NodeId × Option NodeRow)) (lists : List (NodeId × NodeEdges)) →
    changes ≡ delta.nodes → lists ≡ touched_edges old delta →
    ((q : NodeId) → lookup (is_at (node_cmp q)) put ≡ rows_put q (lookup (is_at (node_cmp q)) nodes) changes) →
    ((q : NodeId) → lookup (is_at (node_cmp q)) new_nodes ≡ lists_put q (lookup (is_at (node_cmp q)) put) lists) →
    (q : NodeId) → lookup (is_at (node_cmp q)) new_nodes ≡ lists_put q (rows_put q (lookup (is_at (node_cmp q)) nodes) delta.nodes) (touched_edges old delta)
each_put old nodes put new_nodes delta changes new_lists of_delta touched rows linked q =
    linked q ∙ ap (lists_put q (lookup (is_at (node_cmp q)) put)) touched
    ∙ ap (λ o. lists_put q o (touched_edges old delta)) (rows q ∙ ap (rows_put q (lookup (is_at (node_cmp q)) nodes)) of_delta)
