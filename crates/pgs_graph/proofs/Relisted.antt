-- The list of the edges at a node, edited for each change of an edge, is that of the edges after the changes.
use Rattle.std.proofs.Common.{◌≡◌, ℕ, ◌+◌, ◌<◌, ◌==◌, suc, add-one, get_or, length, drop, drop-cons, Bool, true, false, cond, List, [], ◌∷◌, Option, Some, unwrap_or, fold, refl, sym, ap, ◌∙◌, Less, is_eq, rules}
use Rattle.std.proofs.lemmas.Bool.{eqb-true}
use Rattle.std.specs.Ordering.{nat_cmp}
use Rattle.std.specs.List.{AllByRecursion}
use Rattle.std.specs.List.Sorted.{IsStrictlySortedBy}
use Rattle.std.specs.Map.{keys_of, lookup}
use Rattle.std.specs.BTreeMap.{is_at, insert_entry}
use Rattle.pgs_base.specs.declared.element.NodeId.{NodeId}
use Rattle.pgs_base.specs.declared.element.EdgeId.{EdgeId}
use Rattle.pgs_base.specs.declared.row.EdgeRow.{EdgeRow}
use Rattle.pgs_base.specs.Graph.{node_cmp, edge_cmp}
use Rattle.pgs_base.proofs.Lookups.{lookup-insert_entry}
use Rattle.pgs_graph.specs.declared.scan.End.{End}
use Rattle.pgs_graph.specs.Changed.{entry_changed, entries_changed, after_changes}
use Rattle.pgs_graph.specs.Lists.{listed, listed_after, AreListed, relisted, relisted_all}
use Rattle.pgs_graph.specs.Reads.{edges_with}
use Rattle.pgs_graph.proofs.Deltas.{node_cmp_total, edge_cmp_total, ascending-entry_changed, lookup-entry_changed, lookup-entries_changed}
use Rattle.pgs_graph.proofs.EdgeLists.{edited-changed}

-- the first of what is left of a list that a loop goes over
pub first_of_rest : {X : Type 0} (items : List X) (i : ℕ) (x : X) → i < length items → x ≡ get_or items i x → drop i items ≡ x ∷ drop (i + 1) items
first_of_rest items i x within is = rw (add-one, drop-cons items i x) (ap (λ l. l ∷ drop (suc i) items) (sym is))

module _ (end : End) (q : NodeId) (old : EdgeId → Option EdgeRow) where
  -- the rows of later edges stay
  later : (es : List (EdgeId × EdgeRow)) (edge : EdgeId) (new : Option EdgeRow) → IsStrictlySortedBy edge_cmp (keys_of es) → (ks : List EdgeId) →
      AllByRecursion (λ y. edge_cmp edge y ≡ Less) ks → AllByRecursion (λ k. old k ≡ lookup (is_at (edge_cmp k)) es) ks →
      AllByRecursion (λ k. old k ≡ lookup (is_at (edge_cmp k)) (entry_changed edge_cmp es edge new)) ks
  later es edge new sorted [] below stood = tt
  later es edge new sorted (k ∷ ks) below stood =
      let apart : is_at (edge_cmp edge) k ≡ false = ap is_eq below.0 in
      (stood.0 ∙ sym (lookup-entry_changed edge_cmp_total k edge new es sorted ∙ ap (λ b. cond b new (lookup (is_at (edge_cmp k)) es)) apart), later es edge new sorted ks below.1 stood.1)

  folded : (es : List (EdgeId × EdgeRow)) (changes : List (EdgeId × Option EdgeRow)) (list : List EdgeId) → IsStrictlySortedBy edge_cmp (keys_of es) →
      IsStrictlySortedBy edge_cmp (keys_of changes) → AllByRecursion (λ k. old k ≡ lookup (is_at (edge_cmp k)) es) (keys_of changes) → list ≡ edges_with end q es →
      fold (relisted end q old) list changes ≡ edges_with end q (entries_changed edge_cmp es changes)
  unfolding IsStrictlySortedBy
  folded es [] list sorted ascending stood is = is
  folded es (c ∷ cs) list sorted ascending stood is =
      folded (entry_changed edge_cmp es c.0 c.1) cs (relisted end q old list c) (ascending-entry_changed edge_cmp_total c.0 c.1 es sorted) ascending.1
      (later es c.0 c.1 sorted (keys_of cs) ascending.0 stood.1)
      (ap (λ l. relisted end q old l c) is ∙ ap (λ o. relisted end q (λ k. o) (edges_with end q es) c) stood.0 ∙ edited-changed end q es c.0 sorted c.1)

stood_all : (es : List (EdgeId × EdgeRow)) (ks : List EdgeId) → AllByRecursion (λ k. lookup (is_at (edge_cmp k)) es ≡ lookup (is_at (edge_cmp k)) es) ks
stood_all es [] = tt
stood_all es (k ∷ ks) = (refl, stood_all es ks)

-- lists that are changed as the loop over the changes of edges leaves them are those of the changed edges
pub listed-changed : (end : End) (es : List (EdgeId × EdgeRow)) (changes : List (EdgeId × Option EdgeRow)) (lists : List (NodeId × List EdgeId)) (made : List (NodeId × Option (List EdgeId))) →
    IsStrictlySortedBy edge_cmp (keys_of es) → IsStrictlySortedBy edge_cmp (keys_of changes) → IsStrictlySortedBy node_cmp (keys_of lists) → IsStrictlySortedBy node_cmp (keys_of made) →
    AreListed end es lists → ((q : NodeId) → listed_after lists made q ≡ relisted_all end q es changes (listed lists q)) →
    AreListed end (entries_changed edge_cmp es changes) (entries_changed node_cmp lists made)
listed-changed end es changes lists made sorted ascending sorted_lists ascending_made are made_so q =
    ap (λ o. unwrap_or o []) (lookup-entries_changed node_cmp_total q lists made sorted_lists ascending_made)
    ∙ made_so q
    ∙ folded end q (λ k. lookup (is_at (edge_cmp k)) es) es changes (listed lists q) sorted ascending (stood_all es (keys_of changes)) (are q)

-- ---- a list that is made for a node

nat_tied : (a b : ℕ) → is_eq (nat_cmp a b) ≡ (a == b)
nat_tied a b = search rules

-- after a list is made, the node has it, and each other node has what it had
pub listed-made : (lists : List (NodeId × List EdgeId)) (made : List (NodeId × Option (List EdgeId))) (id : NodeId) (new : Option (List EdgeId)) (q : NodeId) →
    listed_after lists (insert_entry node_cmp made id new) q ≡ cond (id.0 == q.0) (unwrap_or new []) (listed_after lists made q)
listed-made lists made id new q =
    ap (λ o. unwrap_or (after_changes o (lookup (is_at (node_cmp q)) lists)) []) (lookup-insert_entry node_cmp_total q id new made)
    ∙ by (is_at (node_cmp id) q) ∙ ap (λ b. cond b (unwrap_or new []) (listed_after lists made q)) (nat_tied id.0 q.0)
  where
    by : (b : Bool) → unwrap_or (after_changes (cond b (Some new) (lookup (is_at (node_cmp q)) made)) (lookup (is_at (node_cmp q)) lists)) []
        ≡ cond b (unwrap_or new []) (listed_after lists made q)
    by true = refl
    by false = refl

-- what is said of a node where it is the other one
pub same_or_other : {X : Type 0} (of : NodeId → X) (other : X) (id q : NodeId) → cond (id.0 == q.0) (of id) other ≡ cond (id.0 == q.0) (of q) other
same_or_other of other id q = by (id.0 == q.0) refl
  where
    by : (b : Bool) → (id.0 == q.0) ≡ b → cond b (of id) other ≡ cond b (of q) other
    by true same = ap of (ap (λ n. record { 0 = n }) (eqb-true id.0 q.0 same))
    by false apart = refl
