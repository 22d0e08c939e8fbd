-- Ids put in or taken out one after another leave a list that ascends.
use Rattle.std.proofs.Common.{List, [], ◌∷◌, fold}
use Rattle.std.specs.List.Sorted.{IsStrictlySortedBy}
use Rattle.std.specs.BTreeMap.{is_at}
use Rattle.std.specs.BTreeSet.{insert_key}
use Rattle.std.specs.Set.{remove_key}
use Rattle.pgs_base.specs.declared.element.EdgeId.{EdgeId}
use Rattle.pgs_base.specs.Graph.{edge_cmp}
use Rattle.pgs_base.proofs.Ascending.{ascending-insert_key, ascending-remove_key}
use Rattle.pgs_tables_edges.proofs.Searched.{edge_cmp_total}

pub ascending_with : (xs ids : List EdgeId) → IsStrictlySortedBy edge_cmp xs → IsStrictlySortedBy edge_cmp (fold (insert_key edge_cmp) xs ids)
ascending_with xs [] s = s
ascending_with xs (id ∷ ids) s = ascending_with (insert_key edge_cmp xs id) ids (ascending-insert_key edge_cmp_total id xs s)

pub ascending_without : (xs ids : List EdgeId) → IsStrictlySortedBy edge_cmp xs →
    IsStrictlySortedBy edge_cmp (fold (λ left id. remove_key (is_at (edge_cmp id)) left) xs ids)
ascending_without xs [] s = s
ascending_without xs (id ∷ ids) s = ascending_without (remove_key (is_at (edge_cmp id)) xs) ids (ascending-remove_key edge_cmp_total (is_at (edge_cmp id)) xs s)
