-- An element that a sound delta doesn't name and, for an edge, whose ends it doesn't name, is typed before and after it or neither; so the
-- first 25 and 26 are found among the others.
use Rattle.std.proofs.Common.{◌≡◌, Bool, true, false, ⊎_elim, List, [], ◌∷◌, ◌++◌, Option, Some, None, is_some, slice_get, refl, sym, ◌∙◌, ap, subst, true≢false, eq-eqb, arith, Ordering}
use Rattle.std.specs.Prelude.{Contains, filter, filter_map, flat_map, option_map, option_and_then, if◌then◌else◌}
use Rattle.std.specs.BTreeMap.{is_at}
use Rattle.std.specs.Option.{option_map_or}
use Rattle.std.specs.Cmp.{IsTotalOrder, Equal-is, eq_by_cmp_equiv}
use Rattle.std.specs.List.{cons_option}
use Rattle.std.specs.List.Sorted.{IsStrictlySortedBy}
use Rattle.std.specs.Map.{lookup, keys_of}
use Rattle.std.proofs.lemmas.List.Elements.{Contains-append_left, Contains-append_right}
use Rattle.std.proofs.lemmas.Map.Lookups.{CmpEqualImpliesEq}
use Rattle.std.proofs.lemmas.Map.Made.{is_some-lookup}
use Rattle.std.proofs.lemmas.Map.Views.{Contains-from_any, list_any-from_Contains, Contains-from_lookup}
use Rattle.pgs_base.specs.declared.element.NodeId.{NodeId}
use Rattle.pgs_base.specs.declared.element.EdgeId.{EdgeId}
use Rattle.pgs_base.specs.declared.row.NodeRow.{NodeRow}
use Rattle.pgs_base.specs.declared.row.EdgeRow.{EdgeRow}
use Rattle.pgs_base.specs.Graph.{Graph, node_cmp, edge_cmp, node_at, edge_at, is_graph}
use Rattle.pgs_base.specs.Pair.{pair_of}
use Rattle.pgs_base.proofs.Ascending.{ascends_decides}
use Rattle.pgs_base.proofs.Lookups.{found_at_place}
use Rattle.pgs_graph.specs.declared.delta.Delta.{Delta}
use Rattle.pgs_graph.specs.declared.scan.End.{End}
use Rattle.pgs_graph.specs.declared.scan.End.TheVariants.{Source, Target}
use Rattle.pgs_graph.specs.Changed.{changed, is_sound, after_changes}
use Rattle.pgs_graph.specs.Reads.{end_of, ends_at, edges_with, out_edges_of, in_edges_of}
use Rattle.pgs_graph.proofs.Deltas.{node_cmp_total, edge_cmp_total, exact_node, exact_edge, ascending_nodes, ascending_edges, ascending_changed_nodes, changed_graph, node_after, edge_after}
use Rattle.pgs_syntax.specs.declared.resolved.Resolved.{Resolved}
use Rattle.pgs_syntax.specs.Typed.{is_typed_triple, is_typed_edge, triple_at}
use Rattle.pgs_syntax.proofs.Members.{contains_none, contains_cases, contains_first, contains_later, kept_given}
use Rattle.pgs_violation.specs.declared.violation.Violation.{Violation}
use Rattle.pgs_violation.specs.declared.violation.Violation.TheVariants.{UntypedEdge}
use Rattle.pgs_violation.specs.Violations.{untyped_node, untyped_edge, where_asked}
use Rattle.pgs_check.specs.Untyped.{untyped_violations, untyped_change, untyped_edge_at, is_untyped_edge, least_edge, edges_at, touched_edges}
use Rattle.pgs_check.specs.Rows.{first_or}
use Rattle.pgs_check.proofs.Firsts.{first_append, none_given, nothing_given, least_is_first, same_first}
use Rattle.pgs_check.proofs.KeyFirst.{same_given, no_front}
use Rattle.pgs_check.proofs.Least.{Below, all_below, least_passes}
use Rattle.pgs_check.proofs.Shared.{not_less}

-- ---- what each row gives, found by its key

module _ {K V : Type 0} {cmp : K → K → Ordering} (total : IsTotalOrder cmp) (exact : CmpEqualImpliesEq cmp) (rows : List (K × V)) where
  pub there : (k : K) (v : V) → lookup (is_at (cmp k)) rows ≡ Some v → Contains (keys_of rows) k
  there k v at =
      Contains-from_any (λ a b h. exact a b ((Equal-is (cmp a b)).0 h)) k (keys_of rows) (sym (is_some-lookup (is_at (cmp k)) rows) ∙ ap is_some at)

  module _ {Y : Type 0} (give : K → V → Option Y) (sorted : IsStrictlySortedBy cmp (keys_of rows)) where
    abbrev at : K → Option Y
    at k = option_and_then (give k) (lookup (is_at (cmp k)) rows)

    found_row : (row : K × V) → Contains rows row → lookup (is_at (cmp row.0)) rows ≡ Some row.1
    found_row row (i, below, is) =
        subst (λ (r : K × V). lookup (is_at (cmp r.0)) rows ≡ Some r.1) is (found_at_place total rows sorted i row below)

    each : (some : List (K × V)) → ((row : K × V) → Contains some row → Contains rows row) → filter_map at (keys_of some) ≡ filter_map (λ (row : K × V). give row.0 row.1) some
    each [] within = refl
    each (row ∷ some) within =
        ap (λ o. cons_option o (filter_map at (keys_of some)))
        (ap (option_and_then (give row.0)) (found_row row (within row (contains_first row some))))
        ∙ ap (cons_option (give row.0 row.1)) (each some (λ other h. within other (contains_later row some other h)))

    each_by_key : filter_map at (keys_of rows) ≡ filter_map (λ (row : K × V). give row.0 row.1) rows
    each_by_key = each rows (λ row h. h)

-- ---- nodes

pub some_and : {X Y : Type 0} (f : X → Option Y) (o : Option X) → is_some (option_and_then f o) ≡ true → (x : X) × (o ≡ Some x)
some_and f None h = cc
some_and f (Some x) h = (x, refl)

module _ (resolved : Resolved) (g : Graph) (graph : is_graph g ≡ true) (delta : Delta) (sound : is_sound g delta ≡ true) where
  abbrev pub h : Graph
  h = changed g delta

  abbrev give_node : NodeId → NodeRow → Option Violation
  give_node id row = untyped_node resolved (id, row)

  abbrev node_in : Graph → NodeId → Option Violation
  node_in graph id = option_and_then (give_node id) (node_at graph id)

  abbrev give_change : NodeId → Option NodeRow → Option Violation
  give_change id row = untyped_change resolved (id, row)

  node_there : (graph : Graph) (id : NodeId) → is_some (node_in graph id) ≡ true → Contains (keys_of graph.nodes) id
  node_there graph id gives =
      let row = some_and (give_node id) (node_at graph id) gives in there node_cmp_total exact_node graph.nodes id row.0 row.1

  after : is_graph h ≡ true
  after = changed_graph g delta sound

  -- what stands at the number of a node, before or among the changes
  pub same_node : (id : NodeId) → lookup (is_at (node_cmp id)) delta.nodes ≡ None → node_at h id ≡ node_at g id
  same_node id none = node_after g delta id graph sound ∙ ap (λ o. after_changes o (node_at g id)) none

  module _ (none : filter_map (untyped_node resolved) g.nodes ≡ []) where
    nothing_before : filter_map (node_in g) (keys_of g.nodes) ≡ []
    nothing_before = each_by_key node_cmp_total exact_node g.nodes give_node (ascending_nodes g graph) ∙ none

    node_changed : (id : NodeId) → is_some (node_in h id) ≡ true → Contains (keys_of delta.nodes) id
    node_changed id gives = by (lookup (is_at (node_cmp id)) delta.nodes) refl
      where
        by : (o : Option (Option NodeRow)) → lookup (is_at (node_cmp id)) delta.nodes ≡ o → Contains (keys_of delta.nodes) id
        by (Some change) is = there node_cmp_total exact_node delta.nodes id change is
        by None is =
            let same : node_in h id ≡ node_in g id = ap (option_and_then (give_node id)) (same_node id is) in
            let gave = ap is_some (sym same) ∙ gives in
            absurd (true≢false (sym gave ∙ ap is_some (none_given (node_in g) (keys_of g.nodes) nothing_before id (node_there g id gave))))

    change_given : (id : NodeId) → Contains (keys_of delta.nodes) id → option_and_then (give_change id) (lookup (is_at (node_cmp id)) delta.nodes) ≡ node_in h id
    change_given id has = by (lookup (is_at (node_cmp id)) delta.nodes) refl
      where
        by : (o : Option (Option NodeRow)) → lookup (is_at (node_cmp id)) delta.nodes ≡ o → option_and_then (give_change id) o ≡ node_in h id
        by (Some change) is =
            sym (ap (option_and_then (give_node id)) (node_after g delta id graph sound ∙ ap (λ o. after_changes o (node_at g id)) is))
        by None is =
            absurd (true≢false (sym (list_any-from_Contains (eq_by_cmp_equiv node_cmp_total) id (keys_of delta.nodes) has)
            ∙ sym (is_some-lookup (is_at (node_cmp id)) delta.nodes) ∙ ap is_some is))

    pub nodes_first : slice_get (filter_map (untyped_node resolved) h.nodes) 0 ≡ slice_get (filter_map (untyped_change resolved) delta.nodes) 0
    nodes_first =
        ap (λ vs. slice_get vs 0) (sym (each_by_key node_cmp_total exact_node h.nodes give_node (ascending_nodes h after)))
        ∙ same_first node_cmp_total (node_in h) (keys_of h.nodes) (keys_of delta.nodes)
        ((ascends_decides node_cmp (keys_of h.nodes)).1 (ascending_nodes h after))
        ((ascends_decides node_cmp (keys_of delta.nodes)).1 (ascending_changed_nodes g delta sound))
        (λ id gives _. node_changed id gives) (λ id gives _. node_there h id gives)
        ∙ ap (λ vs. slice_get vs 0) (sym (same_given (λ id. option_and_then (give_change id) (lookup (is_at (node_cmp id)) delta.nodes)) (node_in h) (keys_of delta.nodes) change_given)
        ∙ each_by_key node_cmp_total exact_node delta.nodes give_change (ascending_changed_nodes g delta sound))

  -- ---- edges

  abbrev pub give_edge : Graph → EdgeId → EdgeRow → Option Violation
  give_edge graph id row = untyped_edge resolved graph (id, row)

  pub edge_there : (graph : Graph) (id : EdgeId) → is_untyped_edge resolved graph id ≡ true → Contains (keys_of graph.edges) id
  edge_there graph id gives =
      let row = some_and (give_edge graph id) (edge_at graph id) gives in there edge_cmp_total exact_edge graph.edges id row.0 row.1

  pub row_there : (id : EdgeId) (row : EdgeRow) → edge_at h id ≡ Some row → Contains h.edges (id, row)
  row_there id row at = Contains-from_lookup (λ a b t. exact_edge a b ((Equal-is (edge_cmp a b)).0 t)) id row h.edges at

  pub key_there : (rows : List (EdgeId × EdgeRow)) (row : EdgeId × EdgeRow) → Contains rows row → Contains (keys_of rows) row.0
  key_there [] row has = absurd (contains_none row has)
  key_there (first ∷ rows) row has =
      ⊎_elim (λ (same : first ≡ row). (0, omega arith, ap (λ (r : EdgeId × EdgeRow). r.0) same))
      (λ later. contains_later first.0 (keys_of rows) row.0 (key_there rows row later)) (contains_cases first rows row has)

  pub at_end : (end : End) (id : EdgeId) (row : EdgeRow) → Contains h.edges (id, row) → Contains (edges_with end (end_of end row) h.edges) id
  at_end end id row has =
      key_there (filter (ends_at end (end_of end row)) h.edges) (id, row) (kept_given (ends_at end (end_of end row)) h.edges (id, row) has (eq-eqb _ _ refl))

  pub in_flat : (ids : List NodeId) (node : NodeId) (id : EdgeId) → Contains ids node → Contains (edges_at h node) id → Contains (flat_map (edges_at h) ids) id
  in_flat [] node id has is = absurd (contains_none node has)
  in_flat (first ∷ ids) node id has is =
      ⊎_elim (λ (same : first ≡ node). Contains-append_left (edges_at h first) (flat_map (edges_at h) ids) id (subst (λ n. Contains (edges_at h n) id) (sym same) is))
      (λ later. Contains-append_right (edges_at h first) (flat_map (edges_at h) ids) id (in_flat ids node id later is)) (contains_cases first ids node has)

  abbrev pub candidates : List EdgeId
  candidates = touched_edges h delta

  at_node : (node : NodeId) (id : EdgeId) → Contains (keys_of delta.nodes) node → Contains (edges_at h node) id → Contains candidates id
  at_node node id has is =
      Contains-append_right (keys_of delta.edges) (flat_map (edges_at h) (keys_of delta.nodes)) id (in_flat (keys_of delta.nodes) node id has is)

  module _ (none : filter_map (untyped_edge resolved g) g.edges ≡ []) where
    pub no_edge_before : filter_map (untyped_edge_at resolved g) (keys_of g.edges) ≡ []
    no_edge_before = each_by_key edge_cmp_total exact_edge g.edges (give_edge g) (ascending_edges g graph) ∙ none

    -- an edge that isn't typed after the delta is one of those that it touches
    pub edge_touched : (id : EdgeId) → is_untyped_edge resolved h id ≡ true → Contains candidates id
    edge_touched id gives = by (lookup (is_at (edge_cmp id)) delta.edges) refl
      where
        whole : (row : EdgeRow) → edge_at h id ≡ Some row → edge_at g id ≡ Some row → Contains candidates id
        whole row at_h at_g =
            ends (lookup (is_at (node_cmp row.source)) delta.nodes) refl (lookup (is_at (node_cmp row.target)) delta.nodes) refl
          where
            ends : (o : Option (Option NodeRow)) → lookup (is_at (node_cmp row.source)) delta.nodes ≡ o →
                (p : Option (Option NodeRow)) → lookup (is_at (node_cmp row.target)) delta.nodes ≡ p → Contains candidates id
            ends (Some change) one p other =
                at_node row.source id (there node_cmp_total exact_node delta.nodes row.source change one)
                (Contains-append_left (out_edges_of h row.source) (in_edges_of h row.source) id (at_end Source id row (row_there id row at_h)))
            ends None one (Some change) other =
                at_node row.target id (there node_cmp_total exact_node delta.nodes row.target change other)
                (Contains-append_right (out_edges_of h row.target) (in_edges_of h row.target) id (at_end Target id row (row_there id row at_h)))
            ends None one None other =
                let triples : triple_at h row ≡ triple_at g row =
                λ i. option_and_then (λ source. option_map (λ target. record { source = source; own = pair_of row.labels row.props; target = target }) (same_node row.target other i)) (same_node row.source one i) in
                let same : untyped_edge_at resolved h id ≡ untyped_edge_at resolved g id =
                ap (option_and_then (give_edge h id)) at_h
                ∙ ap (λ o. if option_map_or (is_typed_triple resolved) o false then None else Some (UntypedEdge id)) triples
                ∙ sym (ap (option_and_then (give_edge g id)) at_g) in
                let gave = ap is_some (sym same) ∙ gives in
                absurd (true≢false (sym gave ∙ ap is_some (none_given (untyped_edge_at resolved g) (keys_of g.edges) no_edge_before id (edge_there g id gave))))

        by : (o : Option (Option EdgeRow)) → lookup (is_at (edge_cmp id)) delta.edges ≡ o → Contains candidates id
        by (Some change) is =
            Contains-append_left (keys_of delta.edges) (flat_map (edges_at h) (keys_of delta.nodes)) id
            (there edge_cmp_total exact_edge delta.edges id change is)
        by None is =
            let row = some_and (give_edge h id) (edge_at h id) gives in
            whole row.0 row.1 (sym (edge_after g delta id graph sound ∙ ap (λ o. after_changes o (edge_at g id)) is) ∙ row.1)

    -- what an edge that isn't typed gives
    untyped_is : (id : EdgeId) → is_untyped_edge resolved h id ≡ true → untyped_edge_at resolved h id ≡ Some (UntypedEdge id)
    untyped_is id gives = by (edge_at h id) gives
      where
        by : (o : Option EdgeRow) → is_some (option_and_then (give_edge h id) o) ≡ true → option_and_then (give_edge h id) o ≡ Some (UntypedEdge id)
        by None e = cc
        by (Some row) e = at (is_typed_edge resolved h row) e
          where
            at : (b : Bool) → is_some (if b then None else Some (UntypedEdge id)) ≡ true → (if b then None else Some (UntypedEdge id)) ≡ Some (UntypedEdge id)
            at true e = cc
            at false e = refl

    pub edges_first : slice_get (filter_map (untyped_edge resolved h) h.edges) 0 ≡ option_map UntypedEdge (least_edge (is_untyped_edge resolved h) None candidates)
    edges_first =
        ap (λ vs. slice_get vs 0) (sym (each_by_key edge_cmp_total exact_edge h.edges (give_edge h) (ascending_edges h after)))
        ∙ by (least_edge (is_untyped_edge resolved h) None candidates) refl
      where
        all : (z : EdgeId) → is_untyped_edge resolved h z ≡ true → Below (is_untyped_edge resolved h) (least_edge (is_untyped_edge resolved h) None candidates) z
        all z gives = all_below (is_untyped_edge resolved h) None candidates z (edge_touched z gives) gives

        by : (o : Option EdgeId) → least_edge (is_untyped_edge resolved h) None candidates ≡ o →
            slice_get (filter_map (untyped_edge_at resolved h) (keys_of h.edges)) 0 ≡ option_map UntypedEdge o
        by None is =
            ap (λ vs. slice_get vs 0) (nothing_given (untyped_edge_at resolved h) (keys_of h.edges)
            (λ z v has gives. subst (λ o. Below (is_untyped_edge resolved h) o z) is (all z (ap is_some gives))))
        by (Some id) is =
            let passes = least_passes (is_untyped_edge resolved h) None candidates (λ one e. cc) id is in
            least_is_first edge_cmp_total (untyped_edge_at resolved h) (keys_of h.edges) id
            ((ascends_decides edge_cmp (keys_of h.edges)).1 (ascending_edges h after)) (record {
              is = (edge_there h id passes, passes);
              others_after = λ z own. not_less edge_cmp_total exact_edge id z (subst (λ o. Below (is_untyped_edge resolved h) o z) is (all z own.1));
            }) ∙ untyped_is id passes

  -- ---- both

  abbrev first_untyped : Option Violation
  first_untyped = first_or (slice_get (filter_map (untyped_change resolved) delta.nodes) 0) (option_map UntypedEdge (least_edge (is_untyped_edge resolved h) None candidates))

  pub types_first : resolved.guard.strict ≡ true → untyped_violations resolved g ≡ [] → slice_get (untyped_violations resolved h) 0 ≡ first_untyped
  types_first strict none =
      let nodes = filter_map (untyped_node resolved) g.nodes in
      let edges = filter_map (untyped_edge resolved g) g.edges in
      let both = no_front nodes edges (ap (λ b. where_asked b (nodes ++ edges)) (sym strict) ∙ none) in
      ap (λ b. slice_get (where_asked b (filter_map (untyped_node resolved) h.nodes ++ filter_map (untyped_edge resolved h) h.edges)) 0) strict
      ∙ first_append (filter_map (untyped_node resolved) h.nodes) (filter_map (untyped_edge resolved h) h.edges)
      ∙ (λ i. first_or (nodes_first both.0 i) (edges_first both.1 i))

-- ---- of the graph that is read

module _ (resolved : Resolved) (delta : Delta) where
  abbrev pub least_touched : Graph → Option EdgeId
  least_touched x = least_edge (is_untyped_edge resolved x) None (touched_edges x delta)

  pub types_are : (g : Graph) → is_graph g ≡ true → is_sound g delta ≡ true → (new : Graph) → new ≡ changed g delta → resolved.guard.strict ≡ true →
      untyped_violations resolved g ≡ [] → (node : Option Violation) (edge : Option EdgeId) →
      node ≡ slice_get (filter_map (untyped_change resolved) delta.nodes) 0 → edge ≡ least_touched new →
      first_or node (option_map UntypedEdge edge) ≡ slice_get (untyped_violations resolved new) 0
  types_are g graph sound new is strict none of_nodes edge one two =
      (λ i. first_or (one i) (option_map UntypedEdge (two i)))
      ∙ ap (λ x. first_or (slice_get (filter_map (untyped_change resolved) delta.nodes) 0) (option_map UntypedEdge (least_touched x))) is
      ∙ sym (types_first resolved g graph delta sound strict none) ∙ ap (λ x. slice_get (untyped_violations resolved x) 0) (sym is)
