-- Rows that are put one by one into no rows, in their order.
use Rattle.std.proofs.Common.{◌≡◌, true, List, [], ◌∷◌, ◌++◌, map, Option, Some, sym, ◌∙◌, ap, append_assoc, Ordering, Less}
use Rattle.std.specs.Cmp.{IsTotalOrder, nat_cmp_total, on_total}
use Rattle.std.specs.List.{AllByRecursion}
use Rattle.std.specs.List.Sorted.{IsStrictlySortedBy}
use Rattle.std.specs.Map.{keys_of}
use Rattle.std.proofs.lemmas.Bool.{and_from}
use Rattle.std.proofs.lemmas.List.{append-nil}
use Rattle.std.proofs.lemmas.Map.Made.{keys_of-map_values}
use Rattle.pgs_base.specs.declared.element.NodeId.{NodeId}
use Rattle.pgs_base.specs.declared.element.EdgeId.{EdgeId}
use Rattle.pgs_base.specs.declared.row.NodeRow.{NodeRow}
use Rattle.pgs_base.specs.declared.row.EdgeRow.{EdgeRow}
use Rattle.pgs_base.specs.Graph.{empty_graph, node_cmp, edge_cmp, is_graph}
use Rattle.pgs_base.specs.Order.{ascends}
use Rattle.pgs_base.proofs.Ascending.{ascends_decides}
use Rattle.pgs_base.proofs.Graphs.{graph_parts}
use Rattle.pgs_base.proofs.Lookups.{insert_entry_last}
use Rattle.pgs_codec.specs.Encodable.{snapshot_graph}
use Rattle.pgs_graph.specs.declared.delta.Delta.{Delta}
use Rattle.pgs_graph.specs.Changed.{entries_changed, changed, is_sound}

-- the changes that put rows in
abbrev added : {K V : Type 0} → List (K × V) → List (K × Option V)
added {K} {V} rows = map (λ (row : K × V). (row.0, Some row.1)) rows

module _ {K V : Type 0} (cmp : K → K → Ordering) where
  all_front : (P : K → Type 0) (es fs : List (K × V)) → AllByRecursion P (keys_of (es ++ fs)) → AllByRecursion P (keys_of es)
  all_front P [] fs a = tt
  all_front P (e ∷ es) fs a = (a.0, all_front P es fs a.1)

  front : (es fs : List (K × V)) → IsStrictlySortedBy cmp (keys_of (es ++ fs)) → IsStrictlySortedBy cmp (keys_of es)
  unfolding IsStrictlySortedBy
  front [] fs s = tt
  front (e ∷ es) fs s = (all_front (λ y. cmp e.0 y ≡ Less) es fs s.0, front es fs s.1)

  module _ (total : IsTotalOrder cmp) where
    filled_on : (done rest : List (K × V)) → IsStrictlySortedBy cmp (keys_of (done ++ rest)) → entries_changed cmp done (added rest) ≡ done ++ rest
    filled_on done [] s = sym (append-nil done)
    filled_on done (row ∷ rest) s =
        let all : IsStrictlySortedBy cmp (keys_of ((done ++ row ∷ []) ++ rest)) = rw append_assoc s in
        ap (λ (es : List (K × V)). entries_changed cmp es (added rest)) (insert_entry_last total done row.0 row.1 (front (done ++ row ∷ []) rest all))
        ∙ (filled_on (done ++ row ∷ []) rest all ∙ append_assoc done (row ∷ []) rest)

    filled : (rows : List (K × V)) → ascends cmp (keys_of rows) ≡ true → entries_changed cmp [] (added rows) ≡ rows
    filled rows order = filled_on [] rows ((ascends_decides cmp (keys_of rows)).0 order)

    added_ascend : (rows : List (K × V)) → ascends cmp (keys_of rows) ≡ true → ascends cmp (keys_of (added rows)) ≡ true
    added_ascend rows order = ap (ascends cmp) (keys_of-map_values Some rows) ∙ order

module _ (nodes : List (NodeId × NodeRow)) (edges : List (EdgeId × EdgeRow)) (graph : is_graph (snapshot_graph nodes edges) ≡ true) where
  abbrev delta : Delta
  delta = record { nodes = added nodes; edges = added edges }

  node_total : IsTotalOrder node_cmp
  node_total = on_total (λ (id : NodeId). id.0) nat_cmp_total

  edge_total : IsTotalOrder edge_cmp
  edge_total = on_total (λ (id : EdgeId). id.0) nat_cmp_total

  pub filled_graph : changed empty_graph delta ≡ snapshot_graph nodes edges
  filled_graph =
      let parts = graph_parts (snapshot_graph nodes edges) graph in
      ap (λ (ns : List (NodeId × NodeRow)). snapshot_graph ns (entries_changed edge_cmp [] (added edges))) (filled node_cmp node_total nodes parts.node_order)
      ∙ ap (snapshot_graph nodes) (filled edge_cmp edge_total edges parts.edge_order)

  pub filled_sound : is_sound empty_graph delta ≡ true
  filled_sound =
      let parts = graph_parts (snapshot_graph nodes edges) graph in
      and_from _ _ (and_from _ _ (added_ascend node_cmp node_total nodes parts.node_order) (added_ascend edge_cmp edge_total edges parts.edge_order))
      (ap is_graph filled_graph ∙ graph)
