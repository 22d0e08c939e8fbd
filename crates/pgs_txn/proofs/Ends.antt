-- The ends of the edges that were put in stay exactly those, and the least of them at a node.
use Rattle.std.proofs.Common.{◌≡◌, ℕ, ◌+◌, ◌<◌, ◌≤◌, Bool, true, false, cond, ◌&&◌, ◌||◌, ◌==◌, List, length, Option, Some, None, refl, sym, ◌∙◌, ap, subst, true≢false, arith, Ordering, Less, Equal, Greater, is_eq, is_gt}
use Rattle.std.specs.Cmp.{IsTotalOrder, ranks, tied_then, nat_cmp_total, on_total, then_total}
use Rattle.std.specs.Ordering.{is_le, nat_cmp, ordering_then, MatchOrdering}
use Rattle.std.specs.List.{find, list_any}
use Rattle.std.specs.List.Sorted.{IsStrictlySortedBy}
use Rattle.std.specs.Map.{keys_of, lookup}
use Rattle.std.specs.Set.{remove_key}
use Rattle.std.specs.BTreeMap.{is_at, insert_entry}
use Rattle.std.specs.BTreeSet.{insert_key}
use Rattle.std.proofs.lemmas.Bool.{eqb-true, eq-eqb, ne_eqb, or_left, false_from_ne_true}
use Rattle.std.proofs.lemmas.Map.Entries.{length-keys_of}
use Rattle.pgs_base.specs.declared.element.NodeId.{NodeId}
use Rattle.pgs_base.specs.declared.element.EdgeId.{EdgeId}
use Rattle.pgs_base.specs.declared.row.EdgeRow.{EdgeRow}
use Rattle.pgs_base.specs.Graph.{edge_cmp}
use Rattle.pgs_base.proofs.Ascending.{ascending-remove_key}
use Rattle.pgs_base.proofs.Lookups.{lookup-insert_entry, any-insert_key, any-remove_key, length-remove_key}
use Rattle.pgs_base_keyed.proofs.First.{first_among, first_least, none_from}
use Rattle.pgs_graph.proofs.Deltas.{edge_cmp_total}
use Rattle.pgs_txn.specs.declared.changed_rows.EdgeEnd.{EdgeEnd}
use Rattle.pgs_txn.specs.declared.changed_rows.ChangedRows.{ChangedRows}
use Rattle.pgs_txn.specs.Rows.{end_cmp, was_put_at, was_put, edge_change, ends_with, ends_left, IsIndexed, IsLeast}

pub end_cmp_total : IsTotalOrder end_cmp
end_cmp_total = then_total (on_total (λ (end : EdgeEnd). end.node.0) nat_cmp_total) (on_total (λ (end : EdgeEnd). end.edge.0) nat_cmp_total)

-- numbers tie exactly where they are equal
pub nat_tie : (a b : ℕ) → is_eq (nat_cmp a b) ≡ (a == b)
nat_tie a b = by (nat_cmp a b) (ranks a b)
  where
    by : (o : Ordering) → MatchOrdering o (a < b) (a ≡ b) (b < a) → is_eq o ≡ (a == b)
    by Less less = sym (ne_eqb a b (λ e. omega arith))
    by Equal same = sym (eq-eqb a b same)
    by Greater greater = sym (ne_eqb a b (λ e. omega arith))

same_end : (a b : EdgeEnd) → is_at (end_cmp a) b ≡ ((a.node.0 == b.node.0) && (is_at (edge_cmp a.edge) b.edge))
same_end a b =
    sym (tied_then (nat_cmp a.node.0 b.node.0) (nat_cmp a.edge.0 b.edge.0))
    ∙ ap (λ t. t && is_eq (nat_cmp a.edge.0 b.edge.0)) (nat_tie a.node.0 b.node.0)

not_put : (id : NodeId) (change : Option (Option EdgeRow)) → was_put change ≡ false → was_put_at id change ≡ false
not_put id None absent = refl
not_put id (Some None) absent = refl
not_put id (Some (Some row)) absent = absurd (true≢false absent)

same_change : (rows : ChangedRows) (a b : EdgeId) → is_at (edge_cmp a) b ≡ true → edge_change rows b ≡ edge_change rows a
same_change rows a b tie =
    let same : a.0 ≡ b.0 = eqb-true a.0 b.0 (sym (nat_tie a.0 b.0) ∙ tie) in
    ap (λ n. edge_change rows (record { 0 = n })) (sym same)

module _ (id : EdgeId) (row : EdgeRow) where
  abbrev source_end : EdgeEnd
  source_end = record { node = row.source; edge = id }

  abbrev target_end : EdgeEnd
  target_end = record { node = row.target; edge = id }

  module _ (rows : ChangedRows) (indexed : IsIndexed rows) where
    -- the ends after an edge is put in
    pub ends_put : was_put (edge_change rows id) ≡ false → (at : EdgeEnd) →
        list_any (is_at (end_cmp at)) (ends_with id row (keys_of rows.ends))
        ≡ was_put_at at.node (lookup (is_at (edge_cmp at.edge)) (insert_entry edge_cmp rows.edges id (Some row)))
    ends_put absent at =
        any-insert_key end_cmp_total at target_end (insert_key end_cmp (keys_of rows.ends) source_end)
        ∙ ap (λ b. is_at (end_cmp target_end) at || b) (any-insert_key end_cmp_total at source_end (keys_of rows.ends))
        ∙ ap (λ b. b || (is_at (end_cmp source_end) at || list_any (is_at (end_cmp at)) (keys_of rows.ends))) (same_end target_end at)
        ∙ ap (λ b. ((row.target.0 == at.node.0) && is_at (edge_cmp id) at.edge) || (b || list_any (is_at (end_cmp at)) (keys_of rows.ends))) (same_end source_end at)
        ∙ ap (λ b. ((row.target.0 == at.node.0) && is_at (edge_cmp id) at.edge) || (((row.source.0 == at.node.0) && is_at (edge_cmp id) at.edge) || b)) (indexed.ends at)
        ∙ by (is_at (edge_cmp id) at.edge) refl
        ∙ ap (was_put_at at.node) (sym (lookup-insert_entry edge_cmp_total at.edge id (Some row) rows.edges))
      where
        either : (s t : Bool) → ((t && true) || ((s && true) || false)) ≡ (s || t)
        either true true = refl
        either true false = refl
        either false true = refl
        either false false = refl

        neither : (s t b : Bool) → ((t && false) || ((s && false) || b)) ≡ b
        neither true true b = refl
        neither true false b = refl
        neither false true b = refl
        neither false false b = refl

        at_id : (change : Option (Option EdgeRow)) → was_put change ≡ false → (s t : Bool) → ((t && true) || ((s && true) || was_put_at at.node change)) ≡ (s || t)
        at_id change absent s t = ap (λ b. (t && true) || ((s && true) || b)) (not_put at.node change absent) ∙ either s t

        by : (b : Bool) → is_at (edge_cmp id) at.edge ≡ b →
            (((row.target.0 == at.node.0) && b) || (((row.source.0 == at.node.0) && b) || was_put_at at.node (edge_change rows at.edge)))
            ≡ was_put_at at.node (cond b (Some (Some row)) (edge_change rows at.edge))
        by true e =
            at_id (edge_change rows at.edge) (ap was_put (same_change rows id at.edge e) ∙ absent) (row.source.0 == at.node.0) (row.target.0 == at.node.0)
        by false e = neither (row.source.0 == at.node.0) (row.target.0 == at.node.0) (was_put_at at.node (edge_change rows at.edge))

    -- and after one is taken out
    pub ends_taken : edge_change rows id ≡ Some (Some row) → (at : EdgeEnd) →
        list_any (is_at (end_cmp at)) (remove_key (is_at (end_cmp target_end)) (remove_key (is_at (end_cmp source_end)) (keys_of rows.ends)))
        ≡ was_put_at at.node (lookup (is_at (edge_cmp at.edge)) (insert_entry edge_cmp rows.edges id None))
    ends_taken there at =
        any-remove_key end_cmp_total at target_end (remove_key (is_at (end_cmp source_end)) (keys_of rows.ends))
        (ascending-remove_key end_cmp_total (is_at (end_cmp source_end)) (keys_of rows.ends) indexed.ends_ascend)
        ∙ ap (cond (is_at (end_cmp target_end) at) false) (any-remove_key end_cmp_total at source_end (keys_of rows.ends) indexed.ends_ascend)
        ∙ ap (λ b. cond b false (cond (is_at (end_cmp source_end) at) false (list_any (is_at (end_cmp at)) (keys_of rows.ends)))) (same_end target_end at)
        ∙ ap (λ b. cond ((row.target.0 == at.node.0) && is_at (edge_cmp id) at.edge) false (cond b false (list_any (is_at (end_cmp at)) (keys_of rows.ends)))) (same_end source_end at)
        ∙ ap (λ b. cond ((row.target.0 == at.node.0) && is_at (edge_cmp id) at.edge) false (cond ((row.source.0 == at.node.0) && is_at (edge_cmp id) at.edge) false b)) (indexed.ends at)
        ∙ by (is_at (edge_cmp id) at.edge) refl
        ∙ ap (was_put_at at.node) (sym (lookup-insert_entry edge_cmp_total at.edge id None rows.edges))
      where
        neither : (s t b : Bool) → cond (t && false) false (cond (s && false) false b) ≡ b
        neither true true b = refl
        neither true false b = refl
        neither false true b = refl
        neither false false b = refl

        gone : (s t : Bool) → cond (t && true) false (cond (s && true) false (s || t)) ≡ false
        gone true true = refl
        gone true false = refl
        gone false true = refl
        gone false false = refl

        by : (b : Bool) → is_at (edge_cmp id) at.edge ≡ b →
            cond ((row.target.0 == at.node.0) && b) false (cond ((row.source.0 == at.node.0) && b) false (was_put_at at.node (edge_change rows at.edge)))
            ≡ was_put_at at.node (cond b (Some None) (edge_change rows at.edge))
        by true e =
            ap (λ change. cond ((row.target.0 == at.node.0) && true) false (cond ((row.source.0 == at.node.0) && true) false (was_put_at at.node change)))
            (same_change rows id at.edge e ∙ there)
            ∙ gone (row.source.0 == at.node.0) (row.target.0 == at.node.0)
        by false e = neither (row.source.0 == at.node.0) (row.target.0 == at.node.0) (was_put_at at.node (edge_change rows at.edge))

-- an edge that was not put in has no ends to be taken out
pub ends_removed : (rows : ChangedRows) → IsIndexed rows → (id : EdgeId) → was_put (edge_change rows id) ≡ false → (at : EdgeEnd) →
    list_any (is_at (end_cmp at)) (keys_of rows.ends) ≡ was_put_at at.node (lookup (is_at (edge_cmp at.edge)) (insert_entry edge_cmp rows.edges id None))
ends_removed rows indexed id absent at =
    indexed.ends at ∙ by (is_at (edge_cmp id) at.edge) refl ∙ ap (was_put_at at.node) (sym (lookup-insert_entry edge_cmp_total at.edge id None rows.edges))
  where
    by : (b : Bool) → is_at (edge_cmp id) at.edge ≡ b → was_put_at at.node (edge_change rows at.edge) ≡ was_put_at at.node (cond b (Some None) (edge_change rows at.edge))
    by true e = not_put at.node (edge_change rows at.edge) (ap was_put (same_change rows id at.edge e) ∙ absent)
    by false e = refl

-- the ends after an edge is removed
pub ends_after_take : (rows : ChangedRows) → IsIndexed rows → (id : EdgeId) (change : Option (Option EdgeRow)) → change ≡ edge_change rows id → (at : EdgeEnd) →
    list_any (is_at (end_cmp at)) (ends_left id change (keys_of rows.ends))
    ≡ was_put_at at.node (lookup (is_at (edge_cmp at.edge)) (insert_entry edge_cmp rows.edges id None))
ends_after_take rows indexed id None is at = ends_removed rows indexed id (ap was_put (sym is)) at
ends_after_take rows indexed id (Some None) is at = ends_removed rows indexed id (ap was_put (sym is)) at
ends_after_take rows indexed id (Some (Some row)) is at = ends_taken id row rows indexed (sym is) at

pub ascending_left : (id : EdgeId) (change : Option (Option EdgeRow)) (ends : List EdgeEnd) → IsStrictlySortedBy end_cmp ends → IsStrictlySortedBy end_cmp (ends_left id change ends)
ascending_left id None ends sorted = sorted
ascending_left id (Some None) ends sorted = sorted
ascending_left id (Some (Some row)) ends sorted = ascending-remove_key end_cmp_total _ _ (ascending-remove_key end_cmp_total _ _ sorted)

-- ---- the least at a node

abbrev first_end : NodeId → EdgeId → EdgeEnd
first_end id edge = record { node = id; edge = edge }

-- an end that isn't past another one of the same node has no greater edge
edge_order : (a b : EdgeEnd) → a.node.0 ≡ b.node.0 → is_gt (end_cmp a b) ≡ false → a.edge.0 ≤ b.edge.0
edge_order a b same upto =
    by (nat_cmp a.node.0 b.node.0) (ranks a.node.0 b.node.0) (nat_cmp a.edge.0 b.edge.0) (ranks a.edge.0 b.edge.0) upto
  where
    by : (o : Ordering) → MatchOrdering o (a.node.0 < b.node.0) (a.node.0 ≡ b.node.0) (b.node.0 < a.node.0) → (p : Ordering) →
        MatchOrdering p (a.edge.0 < b.edge.0) (a.edge.0 ≡ b.edge.0) (b.edge.0 < a.edge.0) → is_gt (ordering_then o p) ≡ false → a.edge.0 ≤ b.edge.0
    by Less less p q h = absurd (omega arith)
    by Greater greater p q h = absurd (omega arith)
    by Equal tie Less less h = omega arith
    by Equal tie Equal equal h = omega arith
    by Equal tie Greater greater h = absurd (true≢false h)

node_order : (a b : EdgeEnd) → is_gt (end_cmp a b) ≡ false → a.node.0 ≤ b.node.0
node_order a b upto = by (nat_cmp a.node.0 b.node.0) (ranks a.node.0 b.node.0) upto
  where
    by : (o : Ordering) → MatchOrdering o (a.node.0 < b.node.0) (a.node.0 ≡ b.node.0) (b.node.0 < a.node.0) →
        is_gt (ordering_then o (nat_cmp a.edge.0 b.edge.0)) ≡ false → a.node.0 ≤ b.node.0
    by Less less h = omega arith
    by Equal equal h = omega arith
    by Greater greater h = absurd (true≢false h)

-- no edge of a node goes before its edge 0
pub from_start : (id : NodeId) (edge : EdgeId) → is_gt (end_cmp (first_end id (record { 0 = 0 })) (first_end id edge)) ≡ false
from_start id edge = by (nat_cmp id.0 id.0) (ranks id.0 id.0) (nat_cmp 0 edge.0) (ranks 0 edge.0)
  where
    by : (o : Ordering) → MatchOrdering o (id.0 < id.0) (id.0 ≡ id.0) (id.0 < id.0) → (p : Ordering) →
        MatchOrdering p (0 < edge.0) (0 ≡ edge.0) (edge.0 < 0) → is_gt (ordering_then o p) ≡ false
    by Less less p q = absurd (omega arith)
    by Greater greater p q = absurd (omega arith)
    by Equal tie Less less = refl
    by Equal tie Equal equal = refl
    by Equal tie Greater greater = absurd (omega arith)

module _ (rows : ChangedRows) (indexed : IsIndexed rows) (id : NodeId) where
  abbrev is_put_at : EdgeId → Bool
  is_put_at edge = was_put_at id (edge_change rows edge)

  -- where no end of a node is listed, no edge was put in there
  pub none_put_at : ((end : EdgeEnd) → is_gt (end_cmp (first_end id (record { 0 = 0 })) end) ≡ false → list_any (is_at (end_cmp end)) (keys_of rows.ends) ≡ false) →
      IsLeast is_put_at None
  none_put_at none edge = sym (indexed.ends (first_end id edge)) ∙ none (first_end id edge) (from_start id edge)

  module _ (found : EdgeEnd) (listed : list_any (is_at (end_cmp found)) (keys_of rows.ends) ≡ true)
      (least : (end : EdgeEnd) → is_gt (end_cmp (first_end id (record { 0 = 0 })) end) ≡ false → list_any (is_at (end_cmp end)) (keys_of rows.ends) ≡ true →
      is_gt (end_cmp found end) ≡ false) where
    first_listed : (edge : EdgeId) → is_put_at edge ≡ true → is_gt (end_cmp found (first_end id edge)) ≡ false
    first_listed edge there = least (first_end id edge) (from_start id edge) (indexed.ends (first_end id edge) ∙ there)

    pub least_put_at : found.node.0 ≡ id.0 → IsLeast is_put_at (Some found.edge)
    least_put_at same = (
      let node : found.node ≡ id = ap (λ n. record { 0 = n }) same in
          ap (λ n. was_put_at n (edge_change rows found.edge)) (sym node) ∙ sym (indexed.ends found) ∙ listed,
      λ other there. edge_order found (first_end id other) same (first_listed other there),
    )

    -- the first end that isn't below a node stands at another one: no edge was put in at the node
    pub none_before : is_gt (end_cmp (first_end id (record { 0 = 0 })) found) ≡ false → (found.node.0 ≡ id.0 → ⊥) → IsLeast is_put_at None
    none_before from other edge = false_from_ne_true (is_put_at edge) (λ there.
        let above = node_order (first_end id (record { 0 = 0 })) found from in
        let below = node_order found (first_end id edge) (first_listed edge there) in
        other (omega arith))

  -- the first end that isn't below a node's first, as it is looked up
  abbrev start : EdgeEnd
  start = first_end id (record { 0 = 0 })

  pub none_put : None ≡ find (λ end. is_le (end_cmp start end)) (keys_of rows.ends) → IsLeast is_put_at None
  none_put none = none_put_at (none_from end_cmp_total start (keys_of rows.ends) (sym none))

  module _ (found : EdgeEnd) (is : Some found ≡ find (λ end. is_le (end_cmp start end)) (keys_of rows.ends)) where
    pub first_put : found.node.0 ≡ id.0 → IsLeast is_put_at (Some found.edge)
    first_put same =
        least_put_at found (first_among end_cmp_total start (keys_of rows.ends) found (sym is)).0
        (first_least end_cmp_total start (keys_of rows.ends) indexed.ends_ascend found (sym is)) same

    pub first_elsewhere : (found.node.0 ≡ id.0 → ⊥) → IsLeast is_put_at None
    first_elsewhere other =
        let among = first_among end_cmp_total start (keys_of rows.ends) found (sym is) in
        none_before found among.0 (first_least end_cmp_total start (keys_of rows.ends) indexed.ends_ascend found (sym is)) among.1 other

-- ---- how many ends there are

ends_fewer_keys : (rows : ChangedRows) → IsIndexed rows → (id : EdgeId) (change : Option (Option EdgeRow)) → change ≡ edge_change rows id → was_put change ≡ true →
    length (ends_left id change (keys_of rows.ends)) < length (keys_of rows.ends)
ends_fewer_keys rows indexed id None is put = absurd (true≢false (sym put))
ends_fewer_keys rows indexed id (Some None) is put = absurd (true≢false (sym put))
ends_fewer_keys rows indexed id (Some (Some row)) is put =
    let source = source_end id row in
    let target = target_end id row in
    let there : list_any (is_at (end_cmp source)) (keys_of rows.ends) ≡ true =
    indexed.ends source ∙ ap (was_put_at row.source) (sym is) ∙ or_left (row.source.0 == row.source.0) (row.target.0 == row.source.0) (eq-eqb row.source.0 row.source.0 refl) in
    let first = length-remove_key end_cmp_total source (keys_of rows.ends) indexed.ends_ascend in
    let second = length-remove_key end_cmp_total target (remove_key (is_at (end_cmp source)) (keys_of rows.ends))
    (ascending-remove_key end_cmp_total (is_at (end_cmp source)) (keys_of rows.ends) indexed.ends_ascend) in
    let one = subst (λ b. length (remove_key (is_at (end_cmp source)) (keys_of rows.ends)) + cond b 1 0 ≡ length (keys_of rows.ends)) there first in
    by (list_any (is_at (end_cmp target)) (remove_key (is_at (end_cmp source)) (keys_of rows.ends))) second one
  where
    by : (b : Bool) → length (remove_key (is_at (end_cmp (target_end id row))) (remove_key (is_at (end_cmp (source_end id row))) (keys_of rows.ends))) + cond b 1 0
        ≡ length (remove_key (is_at (end_cmp (source_end id row))) (keys_of rows.ends)) →
        length (remove_key (is_at (end_cmp (source_end id row))) (keys_of rows.ends)) + 1 ≡ length (keys_of rows.ends) →
        length (remove_key (is_at (end_cmp (target_end id row))) (remove_key (is_at (end_cmp (source_end id row))) (keys_of rows.ends))) < length (keys_of rows.ends)
    by true second one = omega arith
    by false second one = omega arith

-- the pairs after the ends of an edge are taken out
pub ends_fewer : (rows : ChangedRows) → IsIndexed rows → (id : EdgeId) (change : Option (Option EdgeRow)) → change ≡ edge_change rows id → was_put change ≡ true →
    (left : List (EdgeEnd × Unit {0})) → keys_of left ≡ ends_left id change (keys_of rows.ends) → length left < length rows.ends
ends_fewer rows indexed id change is put left taken =
    let fewer = ends_fewer_keys rows indexed id change is put in
    let new = ap length taken in
    let many = length-keys_of left in
    let before = length-keys_of rows.ends in
    omega arith
