-- What an edit of changed rows does to the graph that they mean.
use Rattle.std.proofs.Common.{◌≡◌, ◌+◌, Bool, true, false, cond, List, length, Option, Some, None, is_some, Result, Ok, Err, refl, sym, ◌∙◌, ap, subst, arith, Ordering}
use Rattle.std.specs.Prelude.{if◌then◌else◌}
use Rattle.std.specs.Cmp.{IsTotalOrder}
use Rattle.std.specs.List.{list_any, list_all}
use Rattle.std.specs.List.Sorted.{IsStrictlySortedBy}
use Rattle.std.specs.Map.{keys_of, lookup}
use Rattle.std.specs.BTreeMap.{is_at, insert_entry}
use Rattle.std.proofs.lemmas.Map.Lookups.{CmpEqualImpliesEq}
use Rattle.pgs_base.specs.declared.element.NodeId.{NodeId}
use Rattle.pgs_base.specs.declared.element.EdgeId.{EdgeId}
use Rattle.pgs_base.specs.declared.row.NodeRow.{NodeRow}
use Rattle.pgs_base.specs.declared.row.EdgeRow.{EdgeRow}
use Rattle.pgs_base.specs.Graph.{Graph, node_cmp, edge_cmp, node_at, edge_at, with_node, with_edge, element_count}
use Rattle.pgs_base.proofs.Ascending.{ascending-insert_entry, keys-insert_entry}
use Rattle.pgs_base.proofs.Lookups.{lookup-insert_entry, lookup-insert_entry_same, lookup-remove_key, same_entries, length-insert_entry, length-remove_entry}
use Rattle.pgs_base.proofs.Pairs.{all_with_key}
use Rattle.pgs_graph.specs.Changed.{entry_changed, entries_changed, after_changes}
use Rattle.pgs_graph.proofs.Deltas.{node_cmp_total, edge_cmp_total, exact_node, exact_edge, ascending-entry_changed, ascending-entries_changed, lookup-entries_changed, ascending_nodes, ascending_edges}
use Rattle.pgs_violation.specs.declared.structural.Cause.{Cause}
use Rattle.pgs_violation.specs.declared.structural.Cause.TheVariants.{NoNode, NoEdge}
use Rattle.pgs_violation.specs.Staging.{◌>>=◌, StepFault, Unable, TooLarge, found_or, node_or_fault, edge_or_fault, is_small, put_node, put_edge}
use Rattle.pgs_txn.specs.declared.changed_rows.ChangedRows.{ChangedRows}
use Rattle.pgs_txn.specs.declared.working.Working.{Working}
use Rattle.pgs_txn.specs.declared.edit.Edit.{Edit}
use Rattle.pgs_txn.specs.declared.faults.OpFault.{OpFault}
use Rattle.pgs_txn.specs.declared.faults.OpFault.TheVariants as faults
use Rattle.pgs_txn.specs.Answers.{Gives, IsFault}
use Rattle.pgs_txn.specs.Edits.{edited_node, edited_edge, small_node, small_edge, with_edited_node, with_edited_edge}
use Rattle.pgs_txn.specs.Rows.{edge_change, is_changed, IsIndexed}
use Rattle.pgs_txn.specs.Working.{graph_now, StandsOn, Lists}

-- ---- entries

module _ {K : Type 0} {cmp : K → K → Ordering} (total : IsTotalOrder cmp) (exact : CmpEqualImpliesEq cmp) {V : Type 0} where
  lookup-once_more : (q k : K) (w : Option V) (es : List (K × V)) → IsStrictlySortedBy cmp (keys_of es) →
      lookup (is_at (cmp q)) (entry_changed cmp es k w) ≡ cond (is_at (cmp k) q) w (lookup (is_at (cmp q)) es)
  lookup-once_more q k (Some v) es sorted = lookup-insert_entry total q k v es
  lookup-once_more q k None es sorted = lookup-remove_key total q k es sorted

  -- one more change put among changes is done after them
  pub changed_once_more : (k : K) (w : Option V) (es : List (K × V)) (ds : List (K × Option V)) → IsStrictlySortedBy cmp (keys_of es) → IsStrictlySortedBy cmp (keys_of ds) →
      entries_changed cmp es (insert_entry cmp ds k w) ≡ entry_changed cmp (entries_changed cmp es ds) k w
  changed_once_more k w es ds sorted ascending =
      same_entries total exact (entries_changed cmp es (insert_entry cmp ds k w)) (entry_changed cmp (entries_changed cmp es ds) k w)
      (ascending-entries_changed total es (insert_entry cmp ds k w) sorted)
      (ascending-entry_changed total k w (entries_changed cmp es ds) (ascending-entries_changed total es ds sorted))
      (λ q. lookup-entries_changed total q es (insert_entry cmp ds k w) sorted (ascending-insert_entry total k w ds ascending)
      ∙ ap (λ change. after_changes change (lookup (is_at (cmp q)) es)) (lookup-insert_entry total q k w ds)
      ∙ either q (is_at (cmp k) q)
      ∙ ap (cond (is_at (cmp k) q) w) (sym (lookup-entries_changed total q es ds sorted ascending))
      ∙ sym (lookup-once_more q k w (entries_changed cmp es ds) (ascending-entries_changed total es ds sorted)))
    where
      either : (q : K) (b : Bool) → after_changes (cond b (Some w) (lookup (is_at (cmp q)) ds)) (lookup (is_at (cmp q)) es)
          ≡ cond b w (after_changes (lookup (is_at (cmp q)) ds) (lookup (is_at (cmp q)) es))
      either q true = refl
      either q false = refl

  -- of two changes at a key the later one stays
  pub inserted_twice : (k : K) (v w : V) (es : List (K × V)) → IsStrictlySortedBy cmp (keys_of es) →
      insert_entry cmp (insert_entry cmp es k v) k w ≡ insert_entry cmp es k w
  inserted_twice k v w es sorted =
      same_entries total exact (insert_entry cmp (insert_entry cmp es k v) k w) (insert_entry cmp es k w)
      (ascending-insert_entry total k w (insert_entry cmp es k v) (ascending-insert_entry total k v es sorted))
      (ascending-insert_entry total k w es sorted)
      (λ q. lookup-insert_entry total q k w (insert_entry cmp es k v) ∙ ap (cond (is_at (cmp k) q) (Some w)) (lookup-insert_entry total q k v es)
      ∙ either (is_at (cmp k) q) (lookup (is_at (cmp q)) es) ∙ sym (lookup-insert_entry total q k w es))
    where
      either : (b : Bool) (o : Option V) → cond b (Some w) (cond b (Some v) o) ≡ cond b (Some w) o
      either true o = refl
      either false o = refl

  -- how many entries a change leaves
  pub length-entry_changed : (k : K) (w : Option V) (es : List (K × V)) → IsStrictlySortedBy cmp (keys_of es) →
      length (entry_changed cmp es k w) + cond (is_some (lookup (is_at (cmp k)) es)) 1 0 ≡ length es + cond (is_some w) 1 0
  length-entry_changed k (Some v) es sorted = by (is_some (lookup (is_at (cmp k)) es)) (length-insert_entry total k es sorted v)
    where
      by : (b : Bool) → length (insert_entry cmp es k v) ≡ cond b (length es) (length es + 1) → length (insert_entry cmp es k v) + cond b 1 0 ≡ length es + 1
      by true e = omega arith
      by false e = omega arith
  length-entry_changed k None es sorted = let e = length-remove_entry total k es sorted in omega arith

  pub changed_is_some : (q k : K) (w : V) (es : List (K × V)) → is_some (lookup (is_at (cmp q)) es) ≡ true → is_some (lookup (is_at (cmp q)) (insert_entry cmp es k w)) ≡ true
  changed_is_some q k w es there = ap is_some (lookup-insert_entry total q k w es) ∙ by (is_at (cmp k) q)
    where
      by : (b : Bool) → is_some (cond b (Some w) (lookup (is_at (cmp q)) es)) ≡ true
      by true = refl
      by false = there

  pub all_with_change : (test : K → Bool) (k : K) (w : V) (es : List (K × V)) → test k ≡ true → list_all test (keys_of es) ≡ true →
      list_all test (keys_of (insert_entry cmp es k w)) ≡ true
  all_with_change test k w es own all = ap (list_all test) (keys-insert_entry cmp k w es) ∙ all_with_key cmp test k (keys_of es) own all

-- ---- the graph as it is so far

module _ (g : Graph) (w : Working) (stands : StandsOn g w) where
  pub node_now : (id : NodeId) → node_at (graph_now g w) id ≡ after_changes (lookup (is_at (node_cmp id)) w.rows.nodes) (node_at g id)
  node_now id = lookup-entries_changed node_cmp_total id g.nodes w.rows.nodes (ascending_nodes g stands.base) stands.indexed.nodes_ascend

  pub edge_now : (id : EdgeId) → edge_at (graph_now g w) id ≡ after_changes (edge_change w.rows id) (edge_at g id)
  edge_now id = lookup-entries_changed edge_cmp_total id g.edges w.rows.edges (ascending_edges g stands.base) stands.indexed.edges_ascend

  pub node_of_change : (id : NodeId) (change : Option NodeRow) → lookup (is_at (node_cmp id)) w.rows.nodes ≡ Some change → node_at (graph_now g w) id ≡ change
  node_of_change id change is = node_now id ∙ ap (λ o. after_changes o (node_at g id)) is

  pub node_unchanged : (id : NodeId) → lookup (is_at (node_cmp id)) w.rows.nodes ≡ None → node_at (graph_now g w) id ≡ node_at g id
  node_unchanged id is = node_now id ∙ ap (λ o. after_changes o (node_at g id)) is

  pub edge_of_change : (id : EdgeId) (change : Option EdgeRow) → edge_change w.rows id ≡ Some change → edge_at (graph_now g w) id ≡ change
  edge_of_change id change is = edge_now id ∙ ap (λ o. after_changes o (edge_at g id)) is

  pub edge_unchanged : (id : EdgeId) → edge_change w.rows id ≡ None → edge_at (graph_now g w) id ≡ edge_at g id
  edge_unchanged id is = edge_now id ∙ ap (λ o. after_changes o (edge_at g id)) is

  pub nodes_now_ascend : IsStrictlySortedBy node_cmp (keys_of (graph_now g w).nodes)
  nodes_now_ascend = ascending-entries_changed node_cmp_total g.nodes w.rows.nodes (ascending_nodes g stands.base)

  pub edges_now_ascend : IsStrictlySortedBy edge_cmp (keys_of (graph_now g w).edges)
  edges_now_ascend = ascending-entries_changed edge_cmp_total g.edges w.rows.edges (ascending_edges g stands.base)

  module _ (next : Working) (indexed : IsIndexed next.rows) (cleared : next.cleared ≡ w.cleared) where
    -- after a change of a node
    module _ (id : NodeId) (row : Option NodeRow) (nodes : next.rows.nodes ≡ insert_entry node_cmp w.rows.nodes id row) (edges : next.rows.edges ≡ w.rows.edges) where
      pub graph_after_node : graph_now g next ≡ record { nodes = entry_changed node_cmp (graph_now g w).nodes id row; edges = (graph_now g w).edges }
      graph_after_node =
          let same_nodes = ap (entries_changed node_cmp g.nodes) nodes
          ∙ changed_once_more node_cmp_total exact_node id row g.nodes w.rows.nodes (ascending_nodes g stands.base) stands.indexed.nodes_ascend in
          let same_edges = ap (λ es. entries_changed edge_cmp g.edges es) edges in
          λ i. record { nodes = same_nodes i; edges = same_edges i }

      pub stands_after_node : next.count + cond (is_some (node_at (graph_now g w) id)) 1 0 ≡ w.count + cond (is_some row) 1 0 → StandsOn g next
      stands_after_node count = record {
        base = stands.base;
        indexed = indexed;
        cleared = λ other marked edge at. ap (λ es. is_some (lookup (is_at (edge_cmp edge)) es)) edges
            ∙ stands.cleared other (ap (λ s. list_any (is_at (node_cmp other)) s.keys) (sym cleared) ∙ marked) edge at;
        count =
            let counted = length-entry_changed node_cmp_total exact_node id row (graph_now g w).nodes nodes_now_ascend in
            let before = stands.count in
            let after = ap element_count graph_after_node in
            omega arith;
      }

      pub lists_after_node : (test : NodeId → Bool) (other : EdgeId → Bool) → test id ≡ true → Lists test other w.rows → Lists test other next.rows
      lists_after_node test other own all = (
        ap (λ es. list_all test (keys_of es)) nodes ∙ all_with_change node_cmp_total exact_node test id row w.rows.nodes own all.0,
        ap (λ es. list_all other (keys_of es)) edges ∙ all.1,
      )

    -- and of an edge
    module _ (id : EdgeId) (row : Option EdgeRow) (edges : next.rows.edges ≡ insert_entry edge_cmp w.rows.edges id row) (nodes : next.rows.nodes ≡ w.rows.nodes) where
      pub graph_after_edge : graph_now g next ≡ record { nodes = (graph_now g w).nodes; edges = entry_changed edge_cmp (graph_now g w).edges id row }
      graph_after_edge =
          let same_edges = ap (entries_changed edge_cmp g.edges) edges
          ∙ changed_once_more edge_cmp_total exact_edge id row g.edges w.rows.edges (ascending_edges g stands.base) stands.indexed.edges_ascend in
          let same_nodes = ap (λ es. entries_changed node_cmp g.nodes es) nodes in
          λ i. record { nodes = same_nodes i; edges = same_edges i }

      pub stays_changed : (edge : EdgeId) → is_changed w.rows edge ≡ true → is_changed next.rows edge ≡ true
      stays_changed edge there =
          ap (λ es. is_some (lookup (is_at (edge_cmp edge)) es)) edges ∙ changed_is_some edge_cmp_total exact_edge edge id row w.rows.edges there

      pub stands_after_edge : next.count + cond (is_some (edge_at (graph_now g w) id)) 1 0 ≡ w.count + cond (is_some row) 1 0 → StandsOn g next
      stands_after_edge count = record {
        base = stands.base;
        indexed = indexed;
        cleared = λ other marked edge at.
            stays_changed edge (stands.cleared other (ap (λ s. list_any (is_at (node_cmp other)) s.keys) (sym cleared) ∙ marked) edge at);
        count =
            let counted = length-entry_changed edge_cmp_total exact_edge id row (graph_now g w).edges edges_now_ascend in
            let before = stands.count in
            let after = ap element_count graph_after_edge in
            omega arith;
      }

      pub lists_after_edge : (other : NodeId → Bool) (test : EdgeId → Bool) → test id ≡ true → Lists other test w.rows → Lists other test next.rows
      lists_after_edge other test own all = (
        ap (λ es. list_all other (keys_of es)) nodes ∙ all.0,
        ap (λ es. list_all test (keys_of es)) edges ∙ all_with_change edge_cmp_total exact_edge test id row w.rows.edges own all.1,
      )

-- ---- a row that is taken out, edited, and put back

pub found_some : {A : Type 0} (cause : Cause) (o : Option A) (x : A) → found_or cause o ≡ Ok x → is_some o ≡ true
found_some cause None x e = cc
found_some cause (Some y) x e = refl

pub given_node : (r : Result NodeRow OpFault) (g : Graph) (id : NodeId) (o : Option NodeRow) → node_at g id ≡ o → Gives r (found_or (NoNode id) o) → Gives r (node_or_fault g id)
given_node r g id o is gives = subst (λ o. Gives r (found_or (NoNode id) o)) (sym is) gives

pub given_edge : (r : Result EdgeRow OpFault) (g : Graph) (id : EdgeId) (o : Option EdgeRow) → edge_at g id ≡ o → Gives r (found_or (NoEdge id) o) → Gives r (edge_or_fault g id)
given_edge r g id o is gives = subst (λ o. Gives r (found_or (NoEdge id) o)) (sym is) gives

-- a row that isn't too large is put
pub small_node_put : (g : Graph) (id : NodeId) (row new : NodeRow) → small_node row ≡ Ok new → put_node g id row ≡ Ok (with_node g id new)
small_node_put g id row new small = by (is_small row.labels row.props) small
  where
    by : (b : Bool) → (if b then Ok row else Err TooLarge) ≡ Ok new → (if b then Ok (with_node g id row) else Err TooLarge) ≡ Ok (with_node g id new)
    by true e = let same : row ≡ new = cc in ap (λ r. Ok (with_node g id r)) same
    by false e = cc

pub small_edge_put : (g : Graph) (id : EdgeId) (row new : EdgeRow) → small_edge row ≡ Ok new → put_edge g id row ≡ Ok (with_edge g id new)
small_edge_put g id row new small = by (is_small row.labels row.props) small
  where
    by : (b : Bool) → (if b then Ok row else Err TooLarge) ≡ Ok new → (if b then Ok (with_edge g id row) else Err TooLarge) ≡ Ok (with_edge g id new)
    by true e = let same : row ≡ new = cc in ap (λ r. Ok (with_edge g id r)) same
    by false e = cc

pub large_edge_put : (g : Graph) (id : EdgeId) (row : EdgeRow) → small_edge row ≡ Err TooLarge → put_edge g id row ≡ Err TooLarge
large_edge_put g id row large = by (is_small row.labels row.props) large
  where
    by : (b : Bool) → (if b then Ok row else Err TooLarge) ≡ Err TooLarge → (if b then Ok (with_edge g id row) else Err TooLarge) ≡ Err TooLarge
    by true e = cc
    by false e = refl

-- a fault of a row is the fault of putting it
pub fault_of_edge : (fault : OpFault) (g : Graph) (id : EdgeId) (row : EdgeRow) → IsFault fault (small_edge row) → IsFault fault (put_edge g id row)
fault_of_edge faults.Memory g id row h = tt
fault_of_edge (faults.Unable cause) g id row h = by (is_small row.labels row.props) h
  where
    by : (b : Bool) → (if b then Ok row else Err TooLarge) ≡ Err (Unable cause) → (if b then Ok (with_edge g id row) else Err TooLarge) ≡ Err (Unable cause)
    by true e = cc
    by false e = cc
fault_of_edge faults.TooLarge g id row h = large_edge_put g id row h

-- the fault of a result that is known
pub fault_along : {A : Type 0} (fault : OpFault) (r s : Result A StepFault) → r ≡ s → IsFault fault s → IsFault fault r
fault_along fault r s same h = subst (IsFault fault) (sym same) h

module _ (edit : Edit) (g : Graph) where
  pub edited_node_from : (id : NodeId) (row : NodeRow) → node_or_fault g id ≡ Ok row → with_edited_node edit g id ≡ put_node g id (edited_node edit row)
  edited_node_from id row there = ap (λ r. r >>= λ row. put_node g id (edited_node edit row)) there

  pub edited_edge_from : (id : EdgeId) (row : EdgeRow) → edge_or_fault g id ≡ Ok row → with_edited_edge edit g id ≡ put_edge g id (edited_edge edit row)
  edited_edge_from id row there = ap (λ r. r >>= λ row. put_edge g id (edited_edge edit row)) there

module _ (g : Graph) (w : Working) (stands : StandsOn g w) where
  pub node_put_back : (id : NodeId) (row : NodeRow) (mid : List (NodeId × Option NodeRow)) (after : List (NodeId × Option NodeRow)) →
      mid ≡ insert_entry node_cmp w.rows.nodes id None → after ≡ insert_entry node_cmp mid id (Some row) →
      after ≡ insert_entry node_cmp w.rows.nodes id (Some row)
  node_put_back id row mid after taken put =
      put ∙ ap (λ es. insert_entry node_cmp es id (Some row)) taken
      ∙ inserted_twice node_cmp_total exact_node id None (Some row) w.rows.nodes stands.indexed.nodes_ascend

  pub edge_put_back : (id : EdgeId) (row : EdgeRow) (mid : List (EdgeId × Option EdgeRow)) (after : List (EdgeId × Option EdgeRow)) →
      mid ≡ insert_entry edge_cmp w.rows.edges id None → after ≡ insert_entry edge_cmp mid id (Some row) →
      after ≡ insert_entry edge_cmp w.rows.edges id (Some row)
  edge_put_back id row mid after taken put =
      put ∙ ap (λ es. insert_entry edge_cmp es id (Some row)) taken
      ∙ inserted_twice edge_cmp_total exact_edge id None (Some row) w.rows.edges stands.indexed.edges_ascend

  -- an edge that was taken out is not put in
  pub taken_change : (id : EdgeId) (rows : ChangedRows) → rows.edges ≡ insert_entry edge_cmp w.rows.edges id None → edge_change rows id ≡ Some None
  taken_change id rows taken =
      ap (lookup (is_at (edge_cmp id))) taken ∙ lookup-insert_entry_same edge_cmp_total id None w.rows.edges
