-- What is left of a graph when edges at a node are removed, and then the node.
use Rattle.std.proofs.Common.{◌≡◌, ℕ, ◌-◌, Bool, true, false, cond, List, [], ◌∷◌, Option, Some, None, is_some, Result, Err, refl, sym, ◌∙◌, ap, subst, true≢false, arith, ◌⊎◌, inl, inr}
use Rattle.std.specs.Cmp.{Equal-is}
use Rattle.std.specs.List.{list_any, list_all}
use Rattle.std.specs.Map.{keys_of, lookup}
use Rattle.std.specs.BTreeMap.{is_at, insert_entry}
use Rattle.std.specs.BTreeSet.{insert_key}
use Rattle.std.proofs.lemmas.Bool.{and_parts, or_cases}
use Rattle.pgs_base.specs.declared.element.NodeId.{NodeId}
use Rattle.pgs_base.specs.declared.element.EdgeId.{EdgeId}
use Rattle.pgs_base.specs.declared.row.EdgeRow.{EdgeRow}
use Rattle.pgs_base.specs.Graph.{Graph, node_cmp, edge_cmp, node_at, edge_at, without_node, without_edge, element_count}
use Rattle.pgs_base.proofs.Lookups.{any-insert_key, lookup-insert_entry_same}
use Rattle.pgs_graph.specs.Changed.{after_changes, entries_changed}
use Rattle.pgs_graph.proofs.Deltas.{node_cmp_total, edge_cmp_total, exact_node, exact_edge}
use Rattle.pgs_violation.specs.declared.structural.Cause.{Cause}
use Rattle.pgs_violation.specs.Staging.{◌>>=◌, StepFault, Unable, found_or, detached}
use Rattle.pgs_txn.specs.declared.working.Working.{Working}
use Rattle.pgs_txn.specs.Looks.{is_at_node}
use Rattle.pgs_txn.specs.Removing.{OnlyEdgesAt}
use Rattle.pgs_txn.specs.Rows.{edge_change, has_end, is_changed, was_put, was_put_at, IsIndexed, IsLeast}
use Rattle.pgs_txn.specs.Working.{graph_now, IsCovered, StandsOn, Lists}
use Rattle.pgs_txn.proofs.Edges.{first_is_least, all_away, away_without}
use Rattle.pgs_txn.proofs.Looking.{covered_now}
use Rattle.pgs_txn.proofs.Standing.{length-entry_changed, edges_now_ascend, nodes_now_ascend, graph_after_edge, stands_after_edge, stays_changed, lists_after_edge, graph_after_node, all_with_change, edge_unchanged}

-- what is there is found
pub found_then : {A B : Type 0} (cause : Cause) (o : Option A) (r : Result B StepFault) → is_some o ≡ true → (found_or cause o >>= λ _. r) ≡ r
found_then cause None r there = absurd (true≢false (sym there))
found_then cause (Some x) r there = refl

pub absent_then : {A B : Type 0} (cause : Cause) (o : Option A) (f : A → Result B StepFault) → is_some o ≡ false → (found_or cause o >>= f) ≡ Err (Unable cause)
absent_then cause None f absent = refl
absent_then cause (Some x) f absent = absurd (true≢false absent)

pub some_end : (id : NodeId) (o : Option EdgeRow) → has_end id o ≡ true → is_some o ≡ true
some_end id None there = there
some_end id (Some row) there = refl

pub put_from_at : (id : NodeId) (change : Option (Option EdgeRow)) → was_put_at id change ≡ true → was_put change ≡ true
put_from_at id None there = there
put_from_at id (Some None) there = there
put_from_at id (Some (Some row)) there = refl

pub put_stands : (id : NodeId) (change : Option (Option EdgeRow)) (o : Option EdgeRow) → was_put_at id change ≡ true → has_end id (after_changes change o) ≡ true
put_stands id None o there = absurd (true≢false (sym there))
put_stands id (Some row) o there = there

pub put_changed : (id : NodeId) (change : Option (Option EdgeRow)) → was_put_at id change ≡ true → is_some change ≡ true
put_changed id None there = there
put_changed id (Some row) there = refl

pub none_from : {A : Type 0} (o : Option A) → is_some o ≡ false → o ≡ None
none_from None h = refl
none_from (Some x) h = absurd (true≢false h)

-- what all keys pass, a key that is there passes
key_passes : (test : EdgeId → Bool) (es : List (EdgeId × Option EdgeRow)) → list_all test (keys_of es) ≡ true → (edge : EdgeId) →
    is_some (lookup (is_at (edge_cmp edge)) es) ≡ true → test edge ≡ true
key_passes test [] all edge there = absurd (true≢false (sym there))
key_passes test (e ∷ es) all edge there =
    by (key_passes test es (and_parts (test e.0) (list_all test (keys_of es)) all).1 edge) (is_at (edge_cmp edge) e.0) refl there
  where
    by : (is_some (lookup (is_at (edge_cmp edge)) es) ≡ true → test edge ≡ true) → (b : Bool) → is_at (edge_cmp edge) e.0 ≡ b →
        is_some (cond b (Some e.1) (lookup (is_at (edge_cmp edge)) es)) ≡ true → test edge ≡ true
    by rest true same h = ap test (same_id edge e.0 same) ∙ (and_parts (test e.0) (list_all test (keys_of es)) all).0
      where
        same_id : (a b : EdgeId) → is_at (edge_cmp a) b ≡ true → a ≡ b
        same_id a b h = exact_edge a b ((Equal-is (edge_cmp a b)).0 h)
    by rest false other h = rest h

module _ (g : Graph) (w next : Working) (stands : StandsOn g w) where
  -- ---- an edge is removed

  module _ (edge : EdgeId) (edges : next.rows.edges ≡ insert_entry edge_cmp w.rows.edges edge None) (nodes : next.rows.nodes ≡ w.rows.nodes)
      (cleared : next.cleared ≡ w.cleared) (count : next.count ≡ w.count - 1) (indexed : IsIndexed next.rows) where
    pub dropped_stands : is_some (edge_at (graph_now g w) edge) ≡ true → StandsOn g next
    dropped_stands there =
        let counted = length-entry_changed edge_cmp_total exact_edge edge None (graph_now g w).edges (edges_now_ascend g w stands) in
        let one : cond {A = ℕ} (is_some (edge_at (graph_now g w) edge)) 1 0 ≡ 1 = ap (λ b. cond {A = ℕ} b 1 0) there in
        let before = stands.count in
        stands_after_edge g w stands next indexed cleared edge None edges nodes (omega arith)

    pub dropped_graph : graph_now g next ≡ without_edge (graph_now g w) edge
    dropped_graph = graph_after_edge g w stands next indexed cleared edge None edges nodes

    pub dropped_changed : is_changed next.rows edge ≡ true
    dropped_changed = ap (λ es. is_some (lookup (is_at (edge_cmp edge)) es)) edges ∙ ap is_some (lookup-insert_entry_same edge_cmp_total edge None w.rows.edges)

    -- an edge at a node that was changed before, or that stands there in the graph at the start
    pub only_dropped : (id : NodeId) → is_at_node id (graph_now g w) edge ≡ true →
        ((tests : EdgeId → Bool) → ((other : EdgeId) → is_at_node id g other ≡ true → tests other ≡ true) → list_all tests (keys_of w.rows.edges) ≡ true → tests edge ≡ true) →
        OnlyEdgesAt g id w next
    only_dropped id at own = record {
      stands = dropped_stands (some_end id (edge_at (graph_now g w) edge) at);
      nodes = nodes;
      detaching = ap (λ h. detached h id) dropped_graph ∙ ap (λ es. record { nodes = (without_node (graph_now g w) id).nodes; edges = es }) (away_without id edge (graph_now g w).edges at);
      stay_changed = stays_changed g w stands next indexed cleared edge None edges nodes;
      lists = λ tests others start all. lists_after_edge g w stands next indexed cleared edge None edges nodes tests others (own others start all.1) all;
    }

    pub only_dropped_changed : (id : NodeId) → is_at_node id (graph_now g w) edge ≡ true → is_changed w.rows edge ≡ true → OnlyEdgesAt g id w next
    only_dropped_changed id at was = only_dropped id at (λ tests start all. key_passes tests w.rows.edges all edge was)

    pub only_dropped_old : (id : NodeId) → edge_change w.rows edge ≡ None → is_at_node id g edge ≡ true → OnlyEdgesAt g id w next
    only_dropped_old id was at =
        only_dropped id (ap (has_end id) (edge_unchanged g w stands edge was) ∙ at) (λ tests start all. start edge at)

  -- ---- a node without edges is removed

  module _ (id : NodeId) (nodes : next.rows.nodes ≡ insert_entry node_cmp w.rows.nodes id None) (edges : next.rows.edges ≡ w.rows.edges)
      (cleared : next.cleared.keys ≡ insert_key node_cmp w.cleared.keys id) (count : next.count ≡ w.count - 1) (indexed : IsIndexed next.rows)
      (lone : IsLeast (is_at_node id (graph_now g w)) None) where
    -- the same state, but for the mark
    abbrev unmarked : Working
    unmarked = record next { cleared = w.cleared }

    pub lone_graph : graph_now g next ≡ without_node (graph_now g w) id
    lone_graph = graph_after_node g w stands unmarked indexed refl id None nodes edges

    pub lone_stands : is_some (node_at (graph_now g w) id) ≡ true → StandsOn g next
    lone_stands there =
        let counted = length-entry_changed node_cmp_total exact_node id None (graph_now g w).nodes (nodes_now_ascend g w stands) in
        let one : cond {A = ℕ} (is_some (node_at (graph_now g w) id)) 1 0 ≡ 1 = ap (λ b. cond {A = ℕ} b 1 0) there in
        let before = stands.count in
        let after = ap element_count lone_graph in
        record {
          base = stands.base;
          indexed = indexed;
          cleared = λ other marked edge at. ap (λ es. is_some (lookup (is_at (edge_cmp edge)) es)) edges ∙ covered other marked edge at;
          count = omega arith;
        }
      where
        same_id : (a b : NodeId) → is_at (node_cmp a) b ≡ true → a ≡ b
        same_id a b h = exact_node a b ((Equal-is (node_cmp a b)).0 h)

        by : (other : NodeId) → is_at (node_cmp id) other ≡ true ⊎ (list_any (is_at (node_cmp other)) w.cleared.keys ≡ true) → IsCovered g w.rows other
        by other (inl same) = subst (IsCovered g w.rows) (same_id id other same) (covered_now g w stands id lone)
        by other (inr marked) = stands.cleared other marked

        covered : (other : NodeId) → list_any (is_at (node_cmp other)) next.cleared.keys ≡ true → IsCovered g w.rows other
        covered other marked =
            by other (or_cases (is_at (node_cmp id) other) (list_any (is_at (node_cmp other)) w.cleared.keys)
            (sym (any-insert_key node_cmp_total other id w.cleared.keys) ∙ ap (list_any (is_at (node_cmp other))) (sym cleared) ∙ marked))

    pub lone_detached : detached (graph_now g w) id ≡ graph_now g next
    lone_detached =
        ap (λ es. record { nodes = (without_node (graph_now g w) id).nodes; edges = es })
        (all_away id (graph_now g w).edges (first_is_least id (graph_now g w).edges (edges_now_ascend g w stands) None lone))
        ∙ sym lone_graph

    pub lone_lists : (tests : NodeId → Bool) (others : EdgeId → Bool) → tests id ≡ true → Lists tests others w.rows → Lists tests others next.rows
    lone_lists tests others own all = (
      ap (λ es. list_all tests (keys_of es)) nodes ∙ all_with_change node_cmp_total exact_node tests id None w.rows.nodes own all.0,
      ap (λ es. list_all others (keys_of es)) edges ∙ all.1,
    )

module _ (g : Graph) (id : NodeId) where
  pub only_same : (w : Working) → StandsOn g w → OnlyEdgesAt g id w w
  only_same w stands = record { stands = stands; nodes = refl; detaching = refl; stay_changed = λ edge there. there; lists = λ nodes edges start all. all }

  pub only_then : (a b c : Working) → OnlyEdgesAt g id a b → OnlyEdgesAt g id b c → OnlyEdgesAt g id a c
  only_then a b c first second = record {
    stands = second.stands;
    nodes = second.nodes ∙ first.nodes;
    detaching = second.detaching ∙ first.detaching;
    stay_changed = λ edge there. second.stay_changed edge (first.stay_changed edge there);
    lists = λ nodes edges start all. second.lists nodes edges start (first.lists nodes edges start all);
  }

  pub covered_then : (a b : Working) → OnlyEdgesAt g id a b → IsCovered g a.rows id → IsCovered g b.rows id
  covered_then a b only covered edge at = only.stay_changed edge (covered edge at)

  -- the nodes are as they were
  pub same_node : (a b : Working) → OnlyEdgesAt g id a b → node_at (graph_now g b) id ≡ node_at (graph_now g a) id
  same_node a b only = ap (λ es. lookup (is_at (node_cmp id)) (entries_changed node_cmp g.nodes es)) only.nodes
