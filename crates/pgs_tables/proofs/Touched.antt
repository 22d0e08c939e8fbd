-- What stands at a node once its new lists are made.
use Rattle.std.proofs.Common.{◌≡◌, Bool, true, false, cond, ◌||◌, List, [], ◌∷◌, Option, Some, None, is_some, unwrap_or, fold, map, refl, sym, ap, subst, ◌∙◌, true≢false}
use Rattle.std.specs.Option.{option_map}
use Rattle.std.specs.List.{AllByRecursion, filter, list_any}
use Rattle.std.specs.List.Sorted.{IsStrictlySortedBy}
use Rattle.std.specs.Map.{keys_of, lookup}
use Rattle.std.specs.BTreeMap.{is_at}
use Rattle.pgs_base.specs.declared.element.NodeId.{NodeId}
use Rattle.pgs_base.specs.declared.element.EdgeId.{EdgeId}
use Rattle.pgs_base.specs.declared.row.NodeRow.{NodeRow}
use Rattle.pgs_base.specs.declared.row.EdgeRow.{EdgeRow}
use Rattle.pgs_base.specs.Graph.{Graph, node_cmp, edge_cmp, node_at, edge_at, is_graph}
use Rattle.pgs_base.proofs.Lookups.{same_entries}
use Rattle.pgs_graph.specs.declared.delta.Delta.{Delta}
use Rattle.pgs_graph.specs.Changed.{changed, is_sound, after_changes}
use Rattle.pgs_graph.proofs.Deltas.{node_cmp_total, exact_node, edge_cmp_total, ascending_nodes, ascending_edges, ascending_changed_edges, changed_graph, node_after, edge_after}
use Rattle.pgs_tables.specs.declared.node_edges.NodeEdges.{NodeEdges}
use Rattle.pgs_tables.specs.Adjacency.{node_edges, is_end_of, ends_here, is_touched, touched_edges}
use Rattle.pgs_tables.specs.Relists.{leaves_row, relisted_change, relisted_all}
use Rattle.pgs_tables.proofs.Ends.{edge_end_there}
use Rattle.pgs_tables.proofs.Folded.{lookup-listed, all_found, ascending-filter}
use Rattle.pgs_tables.proofs.Relisted.{current, current-all, some-all, none-all}

all_same : {K B : Type 0} (f : K → B) (ks : List K) → AllByRecursion (λ k. f k ≡ f k) ks
all_same f [] = tt
all_same f (k ∷ ks) = (refl, all_same f ks)

pub none_of : {A : Type 0} (o : Option A) → is_some o ≡ false → o ≡ None
none_of None empty = refl
none_of (Some a) empty = absurd (true≢false empty)

some_of : {A : Type 0} (o : Option A) (d : A) → is_some o ≡ true → o ≡ Some (unwrap_or o d)
some_of None d full = absurd (true≢false (sym full))
some_of (Some a) d full = refl

all_mapped : {A B : Type 0} (b : B) (o : Option A) → is_some o ≡ true → option_map (λ (a : A). b) o ≡ Some b
all_mapped b None full = absurd (true≢false (sym full))
all_mapped b (Some a) full = refl

none_anyway : (b : Bool) → ◌≡◌ {A = Option NodeEdges} (cond b None None) None
none_anyway true = refl
none_anyway false = refl

or_with_false : (b : Bool) → (b || false) ≡ b
or_with_false true = refl
or_with_false false = refl

keys-listed : {V W : Type 0} (f : NodeId → W) (es : List (NodeId × V)) → keys_of (map (λ (e : NodeId × V). (e.0, f e.0)) es) ≡ keys_of es
keys-listed f [] = refl
keys-listed f (e ∷ es) = ap (λ l. e.0 ∷ l) (keys-listed f es)

module _ (g : Graph) (delta : Delta) (graph : is_graph g ≡ true) (sound : is_sound g delta ≡ true) where
  module _ (q : NodeId) where
    -- the lists made of a node that stays
    abbrev made : Option NodeEdges
    made = fold (relisted_change (node_edges g q) true q (edge_at g)) None delta.edges

    current_after : current (node_edges g q) q made ≡ node_edges (changed g delta) q
    current_after =
        current-all (node_edges g q) q (edge_at g) g.edges delta.edges None (ascending_edges g graph) (ascending_changed_edges g delta sound)
        (all_same (edge_at g) (keys_of delta.edges)) refl

    is_made : is_some made ≡ list_any (ends_here g q) delta.edges
    is_made = some-all (node_edges g q) q (edge_at g) delta.edges None ∙ or_with_false (list_any (ends_here g q) delta.edges)

    -- a node that the delta doesn't list, but that is an end of one of its edges, is there after it
    still_there : lookup (is_at (node_cmp q)) delta.nodes ≡ None → (changes : List (EdgeId × Option EdgeRow)) →
        AllByRecursion (λ (c : EdgeId × Option EdgeRow). lookup (is_at (edge_cmp c.0)) delta.edges ≡ Some c.1) changes →
        list_any (ends_here g q) changes ≡ true → is_some (node_at g q) ≡ true
    still_there unlisted [] found any = absurd (true≢false (sym any))
    still_there unlisted (c ∷ cs) found any = by (λ rest. still_there unlisted cs found.1 rest) (is_end_of q (edge_at g c.0)) refl (is_end_of q c.1) refl any
      where
        stays : node_at (changed g delta) q ≡ node_at g q
        stays = node_after g delta q graph sound ∙ ap (λ o. after_changes o (node_at g q)) unlisted

        changed_edge : edge_at (changed g delta) c.0 ≡ c.1
        changed_edge = edge_after g delta c.0 graph sound ∙ ap (λ o. after_changes o (edge_at g c.0)) found.0

        by : (list_any (ends_here g q) cs ≡ true → is_some (node_at g q) ≡ true) → (a : Bool) → is_end_of q (edge_at g c.0) ≡ a → (b : Bool) → is_end_of q c.1 ≡ b →
            ((a || b) || list_any (ends_here g q) cs) ≡ true → is_some (node_at g q) ≡ true
        by rest true was b is any = edge_end_there g q graph c.0 (edge_at g c.0) refl was
        by rest false was true is any = ap is_some (sym stays) ∙ edge_end_there (changed g delta) q (changed_graph g delta sound) c.0 c.1 changed_edge is
        by rest false was false is any = rest any

    -- lists are made exactly where the node is at a changed edge, and it is there after it
    made_where : (after : Option NodeRow) → (list_any (ends_here g q) delta.edges ≡ true → is_some after ≡ true) →
        made ≡ cond (is_touched g delta q) (option_map (λ (row : NodeRow). node_edges (changed g delta) q) after) None
    made_where after there = by (list_any (ends_here g q) delta.edges) refl
      where
        by : (b : Bool) → list_any (ends_here g q) delta.edges ≡ b → made ≡ cond b (option_map (λ (row : NodeRow). node_edges (changed g delta) q) after) None
        by true any = some_of made (node_edges g q) (is_made ∙ any) ∙ ap Some current_after ∙ sym (all_mapped (node_edges (changed g delta) q) after (there any))
        by false none = none_of made (is_made ∙ none)

    made_or_none : (o : Option (Option NodeRow)) → lookup (is_at (node_cmp q)) delta.nodes ≡ o →
        fold (relisted_change (node_edges g q) (leaves_row o) q (edge_at g)) None delta.edges
        ≡ cond (is_touched g delta q) (option_map (λ (row : NodeRow). node_edges (changed g delta) q) (after_changes o (node_at g q))) None
    made_or_none None unlisted =
        made_where (node_at g q) (still_there unlisted delta.edges (all_found edge_cmp edge_cmp_total delta.edges (ascending_changed_edges g delta sound)))
    made_or_none (Some None) removed = none-all (node_edges g q) q (edge_at g) delta.edges None ∙ sym (none_anyway (is_touched g delta q))
    made_or_none (Some (Some row)) put = made_where (Some row) (λ any. refl)

    -- the lists made for a node are those that the delta's touched nodes have
    pub relisted_is : relisted_all g delta.nodes q delta.edges None ≡ lookup (is_at (node_cmp q)) (touched_edges g delta)
    relisted_is =
        made_or_none (lookup (is_at (node_cmp q)) delta.nodes) refl
        ∙ ap (λ o. cond (is_touched g delta q) (option_map (λ (row : NodeRow). node_edges (changed g delta) q) o) None) (sym (node_after g delta q graph sound))
        ∙ sym (lookup-listed exact_node (is_touched g delta) (node_edges (changed g delta)) q (changed g delta).nodes)

    -- a node whose edges the delta doesn't touch keeps them
    pub untouched : is_touched g delta q ≡ false → node_edges g q ≡ node_edges (changed g delta) q
    untouched not_touched = ap (current (node_edges g q) q) (sym (none_of made (is_made ∙ not_touched))) ∙ current_after

  pub ascending_touched : IsStrictlySortedBy node_cmp (keys_of (touched_edges g delta))
  ascending_touched =
      subst (IsStrictlySortedBy node_cmp)
      (sym (keys-listed (node_edges (changed g delta)) (filter (λ (node : NodeId × NodeRow). is_touched g delta node.0) (changed g delta).nodes)))
      (ascending-filter node_cmp (λ (node : NodeId × NodeRow). is_touched g delta node.0) (changed g delta).nodes (ascending_nodes (changed g delta) (changed_graph g delta sound)))

  -- lists that ascend and are those of each node are the lists of the touched nodes
  pub all_relisted : (lists : List (NodeId × NodeEdges)) → IsStrictlySortedBy node_cmp (keys_of lists) →
      ((q : NodeId) → lookup (is_at (node_cmp q)) lists ≡ relisted_all g delta.nodes q delta.edges None) →
      lists ≡ touched_edges g delta
  all_relisted lists ascending each = same_entries node_cmp_total exact_node lists (touched_edges g delta) ascending ascending_touched (λ q. each q ∙ relisted_is q)
