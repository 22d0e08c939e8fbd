-- What stands in entries after changes, and when two deltas are one.
use Rattle.std.proofs.Common.{◌≡◌, Bool, true, false, cond, List, [], ◌∷◌, Option, Some, None, refl, sym, ◌∙◌, ap, Ordering, Less, is_eq}
use Rattle.std.specs.Cmp.{IsTotalOrder, nat_cmp_total, on_total, eq_by_cmp_equiv, Equal-is}
use Rattle.std.specs.List.{AllByRecursion}
use Rattle.std.specs.List.Sorted.{IsStrictlySortedBy}
use Rattle.std.specs.Map.{keys_of, lookup}
use Rattle.std.specs.BTreeMap.{is_at}
use Rattle.std.proofs.lemmas.Bool.{and_parts}
use Rattle.std.proofs.lemmas.Map.Lookups.{CmpEqualImpliesEq, exact_unsigned}
use Rattle.pgs_base.specs.declared.element.NodeId.{NodeId}
use Rattle.pgs_base.specs.declared.element.EdgeId.{EdgeId}
use Rattle.pgs_base.specs.Graph.{Graph, node_cmp, edge_cmp, node_at, edge_at, is_graph}
use Rattle.pgs_base.proofs.Graphs.{graph_parts}
use Rattle.pgs_base.proofs.Ascending.{ascending-insert_entry, ascending-remove_entry, ascends_decides}
use Rattle.pgs_base.proofs.Lookups.{lookup-insert_entry, lookup-remove_key, same_entries}
use Rattle.pgs_graph.specs.declared.delta.Delta.{Delta}
use Rattle.pgs_graph.specs.Changed.{entry_changed, entries_changed, changed, is_sound, after_changes}

pub node_cmp_total : IsTotalOrder node_cmp
node_cmp_total = on_total (λ (id : NodeId). id.0) nat_cmp_total

pub edge_cmp_total : IsTotalOrder edge_cmp
edge_cmp_total = on_total (λ (id : EdgeId). id.0) nat_cmp_total

pub exact_node : CmpEqualImpliesEq node_cmp
exact_node a b h = ap (λ n. record { 0 = n }) (exact_unsigned a.0 b.0 h)

pub exact_edge : CmpEqualImpliesEq edge_cmp
exact_edge a b h = ap (λ n. record { 0 = n }) (exact_unsigned a.0 b.0 h)

-- a key that ties with a lesser key than all of the list isn't in it
pub absent_below : {K W : Type 0} {cmp : K → K → Ordering} → IsTotalOrder cmp → (q k : K) → cmp q k ≡ Ordering.Equal → (entries : List (K × W)) →
    AllByRecursion (λ y. cmp k y ≡ Less) (keys_of entries) → lookup (is_at (cmp q)) entries ≡ None
absent_below total q k tie [] below = refl
absent_below {cmp = cmp} total q k tie (entry ∷ entries) below =
    let other : is_at (cmp q) entry.0 ≡ false = ap is_eq (total.congr q k entry.0 tie ∙ below.0) in
    rw other (absent_below total q k tie entries below.1)

module _ {K V : Type 0} {cmp : K → K → Ordering} (total : IsTotalOrder cmp) where
  pub lookup-entry_changed : (q k : K) (w : Option V) (entries : List (K × V)) → IsStrictlySortedBy cmp (keys_of entries) →
      lookup (is_at (cmp q)) (entry_changed cmp entries k w) ≡ cond (is_at (cmp k) q) w (lookup (is_at (cmp q)) entries)
  lookup-entry_changed q k (Some v) entries sorted = lookup-insert_entry total q k v entries
  lookup-entry_changed q k None entries sorted = lookup-remove_key total q k entries sorted

  pub ascending-entry_changed : (k : K) (w : Option V) (entries : List (K × V)) → IsStrictlySortedBy cmp (keys_of entries) →
      IsStrictlySortedBy cmp (keys_of (entry_changed cmp entries k w))
  ascending-entry_changed k (Some v) entries sorted = ascending-insert_entry total k v entries sorted
  ascending-entry_changed k None entries sorted = ascending-remove_entry total (is_at (cmp k)) entries sorted

  -- changes keep the keys ascending
  pub ascending-entries_changed : (entries : List (K × V)) (changes : List (K × Option V)) → IsStrictlySortedBy cmp (keys_of entries) →
      IsStrictlySortedBy cmp (keys_of (entries_changed cmp entries changes))
  ascending-entries_changed entries [] sorted = sorted
  ascending-entries_changed entries (change ∷ changes) sorted =
      ascending-entries_changed (entry_changed cmp entries change.0 change.1) changes (ascending-entry_changed change.0 change.1 entries sorted)

  -- after changes of ascending keys there stands the change of a key, where there is one, and else what stood there
  pub lookup-entries_changed : (q : K) (entries : List (K × V)) (changes : List (K × Option V)) → IsStrictlySortedBy cmp (keys_of entries) →
      IsStrictlySortedBy cmp (keys_of changes) →
      lookup (is_at (cmp q)) (entries_changed cmp entries changes) ≡ after_changes (lookup (is_at (cmp q)) changes) (lookup (is_at (cmp q)) entries)
  unfolding IsStrictlySortedBy
  lookup-entries_changed q entries [] sorted ascending = refl
  lookup-entries_changed q entries (change ∷ changes) sorted ascending =
      lookup-entries_changed q (entry_changed cmp entries change.0 change.1) changes (ascending-entry_changed change.0 change.1 entries sorted) ascending.1
      ∙ ap (after_changes (lookup (is_at (cmp q)) changes)) (lookup-entry_changed q change.0 change.1 entries sorted)
      ∙ by (is_at (cmp q) change.0) refl
    where
      by : (b : Bool) → is_at (cmp q) change.0 ≡ b →
          after_changes (lookup (is_at (cmp q)) changes) (cond (is_at (cmp change.0) q) change.1 (lookup (is_at (cmp q)) entries))
          ≡ after_changes (cond b (Some change.1) (lookup (is_at (cmp q)) changes)) (lookup (is_at (cmp q)) entries)
      by b here =
          let turned : is_at (cmp change.0) q ≡ b = (eq_by_cmp_equiv total).symm change.0 q ∙ here in
          rw turned (either b here)
        where
          either : (b : Bool) → is_at (cmp q) change.0 ≡ b →
              after_changes (lookup (is_at (cmp q)) changes) (cond b change.1 (lookup (is_at (cmp q)) entries))
              ≡ after_changes (cond b (Some change.1) (lookup (is_at (cmp q)) changes)) (lookup (is_at (cmp q)) entries)
          either true same = ap (λ o. after_changes o change.1) (absent_below total q change.0 ((Equal-is (cmp q change.0)).0 same) changes ascending.0)
          either false other = refl

-- ---- graphs

pub ascending_nodes : (g : Graph) → is_graph g ≡ true → IsStrictlySortedBy node_cmp (keys_of g.nodes)
ascending_nodes g graph = (ascends_decides node_cmp (keys_of g.nodes)).0 (graph_parts g graph).node_order

pub ascending_edges : (g : Graph) → is_graph g ≡ true → IsStrictlySortedBy edge_cmp (keys_of g.edges)
ascending_edges g graph = (ascends_decides edge_cmp (keys_of g.edges)).0 (graph_parts g graph).edge_order

-- graphs that have the same rows are equal
pub same_graph : (g h : Graph) → is_graph g ≡ true → is_graph h ≡ true → ((id : NodeId) → node_at g id ≡ node_at h id) → ((id : EdgeId) → edge_at g id ≡ edge_at h id) → g ≡ h
same_graph g h first second nodes edges =
    let same_nodes = same_entries node_cmp_total exact_node g.nodes h.nodes (ascending_nodes g first) (ascending_nodes h second) nodes in
    let same_edges = same_entries edge_cmp_total exact_edge g.edges h.edges (ascending_edges g first) (ascending_edges h second) edges in
    λ i. record { nodes = same_nodes i; edges = same_edges i }

-- the numbers of a sound delta ascend
pub ascending_changed_nodes : (g : Graph) (delta : Delta) → is_sound g delta ≡ true → IsStrictlySortedBy node_cmp (keys_of delta.nodes)
ascending_changed_nodes g delta sound = (ascends_decides node_cmp (keys_of delta.nodes)).0 (and_parts _ _ (and_parts _ _ sound).0).0

pub ascending_changed_edges : (g : Graph) (delta : Delta) → is_sound g delta ≡ true → IsStrictlySortedBy edge_cmp (keys_of delta.edges)
ascending_changed_edges g delta sound = (ascends_decides edge_cmp (keys_of delta.edges)).0 (and_parts _ _ (and_parts _ _ sound).0).1

-- what it makes is a graph
pub changed_graph : (g : Graph) (delta : Delta) → is_sound g delta ≡ true → is_graph (changed g delta) ≡ true
changed_graph g delta sound = (and_parts _ _ sound).1

-- the rows after a sound delta
pub node_after : (g : Graph) (delta : Delta) (id : NodeId) → is_graph g ≡ true → is_sound g delta ≡ true →
    node_at (changed g delta) id ≡ after_changes (lookup (is_at (node_cmp id)) delta.nodes) (node_at g id)
node_after g delta id graph sound =
    lookup-entries_changed node_cmp_total id g.nodes delta.nodes (ascending_nodes g graph) (ascending_changed_nodes g delta sound)

pub edge_after : (g : Graph) (delta : Delta) (id : EdgeId) → is_graph g ≡ true → is_sound g delta ≡ true →
    edge_at (changed g delta) id ≡ after_changes (lookup (is_at (edge_cmp id)) delta.edges) (edge_at g id)
edge_after g delta id graph sound =
    lookup-entries_changed edge_cmp_total id g.edges delta.edges (ascending_edges g graph) (ascending_changed_edges g delta sound)

-- two sound deltas that leave the same rows make one graph
pub same_changed : (g : Graph) (first second : Delta) → is_graph g ≡ true → is_sound g first ≡ true → is_sound g second ≡ true →
    ((id : NodeId) → after_changes (lookup (is_at (node_cmp id)) first.nodes) (node_at g id) ≡ after_changes (lookup (is_at (node_cmp id)) second.nodes) (node_at g id)) →
    ((id : EdgeId) → after_changes (lookup (is_at (edge_cmp id)) first.edges) (edge_at g id) ≡ after_changes (lookup (is_at (edge_cmp id)) second.edges) (edge_at g id)) →
    changed g first ≡ changed g second
same_changed g first second graph one other nodes edges =
    same_graph (changed g first) (changed g second) (changed_graph g first one) (changed_graph g second other)
    (λ id. node_after g first id graph one ∙ nodes id ∙ sym (node_after g second id graph other))
    (λ id. edge_after g first id graph one ∙ edges id ∙ sym (edge_after g second id graph other))
